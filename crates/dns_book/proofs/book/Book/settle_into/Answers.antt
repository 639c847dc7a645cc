use Rattle.std.proofs.Common.{refl, sym, ap, ◌∙◌, subst}
use Rattle.dns_wire.specs.Header.{header_of}
use Rattle.dns_book.specs.declared.ask.Ask.{Ask}
use Rattle.dns_book.specs.declared.ask.Settled.{Settled}
use Rattle.dns_book.specs.Book.{SeenOf, IsKept, Settles}
use Rattle.dns_book.specs.Crash.{SettlesLeaving}
use Rattle.dns_book.specs.Cases.{silent}
use Rattle.dns_book.proofs.Deciding.{request_of-head, decided_shut_out, decided_malformed, decided_message, decided_query, ReadUpdates, decided_fit}
use Rattle.dns_book.proofs.Carried.{carried_ok, carried_left, carried_unsettled, silent_left}
use Rattle.dns_book.proofs.IntoBuffer.{into_map}
use Rattle.dns_book.proofs.book.Book.settle_into.Goals as goal

pub returns-in_default-clause-left : goal.returns-in_default-clause-left
returns-in_default-clause-left g c = silent_left g.K.Keeper.keeper c.args.access.now c.args.self.now c.args.ask.now c.args.is_framed c.args.out.now.items c.args.out.now.items c.told.result c.told.ensures.kept (silent (sym c.in_default.ensures)) refl c.told.ensures.is

pub returns-in_default-clause-ok : goal.returns-in_default-clause-ok
returns-in_default-clause-ok g c =
    into_map (λ (settled : Settled). SettlesLeaving g.K.Keeper.keeper c.args.access.now c.args.self.now c.args.ask.now settled c.args.self.now)
    (λ (settled : Settled). Settles g.K.Keeper.keeper c.args.access.now c.args.self.now c.args.ask.now settled c.args.self.now) _ _ _ _
    (λ settled told is. is.settles) (returns-in_default-clause-left g c)

pub returns-in_default-clause-book : goal.returns-in_default-clause-book
returns-in_default-clause-book g c = c.told.ensures.kept

pub returns-then-not-allow-clause-ok : goal.returns-then-not-allow-clause-ok
returns-then-not-allow-clause-ok g c =
    let decided = decided_shut_out c.args.self.now.zone c.args.access.now _ c.args.ask.now c.ask.view_is c.payload-payload.result c.payload-payload.ensures.is c.in-Some.header (sym c.request_of.ensures ∙ c.in-Some.is) c.decide_shut_out-decision.result
    (sym c.allow.ensures ∙ c.if-not-allow.true) c.in_ok-question.question c.in_ok-question.ensures c.decide_shut_out-decision.ensures in
    carried_ok g.K.Keeper.keeper c.args.access.now c.args.self.now c.args.ask.now _ c.carry_out.new.self (subst (IsKept g.K.Keeper.keeper) c.self.view_is c.self.invariant) c.carry_out.ensures.kept decided _ _ _ _ c.carry_out.ensures

pub returns-then-not-allow-clause-left : goal.returns-then-not-allow-clause-left
returns-then-not-allow-clause-left g c =
    let decided = decided_shut_out c.args.self.now.zone c.args.access.now _ c.args.ask.now c.ask.view_is c.payload-payload.result c.payload-payload.ensures.is c.in-Some.header (sym c.request_of.ensures ∙ c.in-Some.is) c.decide_shut_out-decision.result
    (sym c.allow.ensures ∙ c.if-not-allow.true) c.in_ok-question.question c.in_ok-question.ensures c.decide_shut_out-decision.ensures in
    carried_left g.K.Keeper.keeper c.args.access.now c.args.self.now c.args.ask.now _ c.carry_out.new.self (subst (IsKept g.K.Keeper.keeper) c.self.view_is c.self.invariant) c.carry_out.ensures.kept decided _ _ _ _ c.carry_out.ensures

pub query_behind-requires : goal.query_behind-requires
query_behind-requires g c =
    ap (λ (a : Ask). header_of a.bytes) c.ask.view_is ∙ (request_of-head c.args.ask.now c.in-Some.header (sym c.request_of.ensures ∙ c.in-Some.is)).0

pub returns-in-Some-query_behind-clause-ok : goal.returns-in-Some-query_behind-clause-ok
returns-in-Some-query_behind-clause-ok g c =
    let decided = decided_query c.args.self.now.zone c.args.access.now _ c.args.ask.now c.ask.view_is c.payload-payload.result c.payload-payload.ensures.is c.in-Some.header (sym c.request_of.ensures ∙ c.in-Some.is) c.decide_query-decision.result
    (sym c.allow.ensures ∙ c.if-not-allow.false) c.in-Some-query_behind.query c.in-Some-query_behind.ensures.message c.in-Some-query_behind.ensures.plain c.zone.result.now
    (c.zone.ensures.is ∙ ap (λ (b : SeenOf g.row.K.Denot). b.zone) c.self.view_is) c.decide_query-decision.ensures in
    carried_ok g.K.Keeper.keeper c.args.access.now c.args.self.now c.args.ask.now _ c.carry_out-in-Some-query_behind.new.self (subst (IsKept g.K.Keeper.keeper) c.self.view_is c.self.invariant)
    c.carry_out-in-Some-query_behind.ensures.kept decided _ _ _ _ c.carry_out-in-Some-query_behind.ensures

pub returns-in-Some-query_behind-clause-left : goal.returns-in-Some-query_behind-clause-left
returns-in-Some-query_behind-clause-left g c =
    let decided = decided_query c.args.self.now.zone c.args.access.now _ c.args.ask.now c.ask.view_is c.payload-payload.result c.payload-payload.ensures.is c.in-Some.header (sym c.request_of.ensures ∙ c.in-Some.is) c.decide_query-decision.result
    (sym c.allow.ensures ∙ c.if-not-allow.false) c.in-Some-query_behind.query c.in-Some-query_behind.ensures.message c.in-Some-query_behind.ensures.plain c.zone.result.now
    (c.zone.ensures.is ∙ ap (λ (b : SeenOf g.row.K.Denot). b.zone) c.self.view_is) c.decide_query-decision.ensures in
    carried_left g.K.Keeper.keeper c.args.access.now c.args.self.now c.args.ask.now _ c.carry_out-in-Some-query_behind.new.self (subst (IsKept g.K.Keeper.keeper) c.self.view_is c.self.invariant)
    c.carry_out-in-Some-query_behind.ensures.kept decided _ _ _ _ c.carry_out-in-Some-query_behind.ensures

pub returns-in-Some-query_behind-clause-left_unsettled : goal.returns-in-Some-query_behind-clause-left_unsettled
returns-in-Some-query_behind-clause-left_unsettled g c =
    let decided = decided_query c.args.self.now.zone c.args.access.now _ c.args.ask.now c.ask.view_is c.payload-payload.result c.payload-payload.ensures.is c.in-Some.header (sym c.request_of.ensures ∙ c.in-Some.is) c.decide_query-decision.result
    (sym c.allow.ensures ∙ c.if-not-allow.false) c.in-Some-query_behind.query c.in-Some-query_behind.ensures.message c.in-Some-query_behind.ensures.plain c.zone.result.now
    (c.zone.ensures.is ∙ ap (λ (b : SeenOf g.row.K.Denot). b.zone) c.self.view_is) c.decide_query-decision.ensures in
    carried_unsettled g.K.Keeper.keeper c.args.access.now c.args.self.now c.args.ask.now _ c.carry_out-in-Some-query_behind.new.self (subst (IsKept g.K.Keeper.keeper) c.self.view_is c.self.invariant)
    c.carry_out-in-Some-query_behind.ensures.kept decided _ _ _ _ c.carry_out-in-Some-query_behind.ensures

pub carry_out-requires-in-Some-2-clause-fit : goal.carry_out-requires-in-Some-2-clause-fit
carry_out-requires-in-Some-2-clause-fit g c =
    let decided = decided_message c.args.self.now.zone c.args.access.now _ c.args.ask.now c.ask.view_is c.payload-payload.result c.payload-payload.ensures.is c.in-Some.header (sym c.request_of.ensures ∙ c.in-Some.is) c.decide_message-decision.result
    (sym c.allow.ensures ∙ c.if-not-allow.false) c.in-Some-2.message (rw c.in-Some-2.is at c.in_ok-message.ensures.found) c.zone-in-Some-2.result.now
    (c.zone-in-Some-2.ensures.is ∙ ap (λ (b : SeenOf g.row.K.Denot). b.zone) c.self.view_is) c.decide_message-decision.ensures in
    decided_fit c.args.self.now.zone c.args.access.now c.args.ask.now c.decide_message-decision.result (subst (λ (a : Ask). ReadUpdates a.bytes) c.ask.view_is c.read_updates.ensures) decided

pub returns-in-Some-2-clause-ok : goal.returns-in-Some-2-clause-ok
returns-in-Some-2-clause-ok g c =
    let decided = decided_message c.args.self.now.zone c.args.access.now _ c.args.ask.now c.ask.view_is c.payload-payload.result c.payload-payload.ensures.is c.in-Some.header (sym c.request_of.ensures ∙ c.in-Some.is) c.decide_message-decision.result
    (sym c.allow.ensures ∙ c.if-not-allow.false) c.in-Some-2.message (rw c.in-Some-2.is at c.in_ok-message.ensures.found) c.zone-in-Some-2.result.now
    (c.zone-in-Some-2.ensures.is ∙ ap (λ (b : SeenOf g.row.K.Denot). b.zone) c.self.view_is) c.decide_message-decision.ensures in
    carried_ok g.K.Keeper.keeper c.args.access.now c.args.self.now c.args.ask.now _ c.carry_out-in-Some-2.new.self (subst (IsKept g.K.Keeper.keeper) c.self.view_is c.self.invariant)
    c.carry_out-in-Some-2.ensures.kept decided _ _ _ _ c.carry_out-in-Some-2.ensures

pub returns-in-Some-2-clause-left : goal.returns-in-Some-2-clause-left
returns-in-Some-2-clause-left g c =
    let decided = decided_message c.args.self.now.zone c.args.access.now _ c.args.ask.now c.ask.view_is c.payload-payload.result c.payload-payload.ensures.is c.in-Some.header (sym c.request_of.ensures ∙ c.in-Some.is) c.decide_message-decision.result
    (sym c.allow.ensures ∙ c.if-not-allow.false) c.in-Some-2.message (rw c.in-Some-2.is at c.in_ok-message.ensures.found) c.zone-in-Some-2.result.now
    (c.zone-in-Some-2.ensures.is ∙ ap (λ (b : SeenOf g.row.K.Denot). b.zone) c.self.view_is) c.decide_message-decision.ensures in
    carried_left g.K.Keeper.keeper c.args.access.now c.args.self.now c.args.ask.now _ c.carry_out-in-Some-2.new.self (subst (IsKept g.K.Keeper.keeper) c.self.view_is c.self.invariant)
    c.carry_out-in-Some-2.ensures.kept decided _ _ _ _ c.carry_out-in-Some-2.ensures

pub returns-in-Some-2-clause-left_unsettled : goal.returns-in-Some-2-clause-left_unsettled
returns-in-Some-2-clause-left_unsettled g c =
    let decided = decided_message c.args.self.now.zone c.args.access.now _ c.args.ask.now c.ask.view_is c.payload-payload.result c.payload-payload.ensures.is c.in-Some.header (sym c.request_of.ensures ∙ c.in-Some.is) c.decide_message-decision.result
    (sym c.allow.ensures ∙ c.if-not-allow.false) c.in-Some-2.message (rw c.in-Some-2.is at c.in_ok-message.ensures.found) c.zone-in-Some-2.result.now
    (c.zone-in-Some-2.ensures.is ∙ ap (λ (b : SeenOf g.row.K.Denot). b.zone) c.self.view_is) c.decide_message-decision.ensures in
    carried_unsettled g.K.Keeper.keeper c.args.access.now c.args.self.now c.args.ask.now _ c.carry_out-in-Some-2.new.self (subst (IsKept g.K.Keeper.keeper) c.self.view_is c.self.invariant)
    c.carry_out-in-Some-2.ensures.kept decided _ _ _ _ c.carry_out-in-Some-2.ensures

pub returns-in-None-clause-ok : goal.returns-in-None-clause-ok
returns-in-None-clause-ok g c =
    let decided = decided_malformed c.args.self.now.zone c.args.access.now _ c.args.ask.now c.ask.view_is c.payload-payload.result c.payload-payload.ensures.is c.in-Some.header (sym c.request_of.ensures ∙ c.in-Some.is) c.decide_malformed-decision.result
    (sym c.allow.ensures ∙ c.if-not-allow.false) (rw c.in-None.is at c.in_ok-message.ensures.none) c.decide_malformed-decision.ensures in
    carried_ok g.K.Keeper.keeper c.args.access.now c.args.self.now c.args.ask.now _ c.carry_out-in-None.new.self (subst (IsKept g.K.Keeper.keeper) c.self.view_is c.self.invariant)
    c.carry_out-in-None.ensures.kept decided _ _ _ _ c.carry_out-in-None.ensures

pub returns-in-None-clause-left : goal.returns-in-None-clause-left
returns-in-None-clause-left g c =
    let decided = decided_malformed c.args.self.now.zone c.args.access.now _ c.args.ask.now c.ask.view_is c.payload-payload.result c.payload-payload.ensures.is c.in-Some.header (sym c.request_of.ensures ∙ c.in-Some.is) c.decide_malformed-decision.result
    (sym c.allow.ensures ∙ c.if-not-allow.false) (rw c.in-None.is at c.in_ok-message.ensures.none) c.decide_malformed-decision.ensures in
    carried_left g.K.Keeper.keeper c.args.access.now c.args.self.now c.args.ask.now _ c.carry_out-in-None.new.self (subst (IsKept g.K.Keeper.keeper) c.self.view_is c.self.invariant)
    c.carry_out-in-None.ensures.kept decided _ _ _ _ c.carry_out-in-None.ensures
