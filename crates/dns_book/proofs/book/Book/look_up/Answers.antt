use Rattle.std.proofs.Common.{ℕ, List, Some, false, sym, ap, ◌∙◌, subst}
use Rattle.dns_zone_map.specs.Zone.{Contents}
use Rattle.dns_zone.specs.Lookup.{lookup_of}
use Rattle.dns_book.specs.declared.decision.Case.{Case}
use Rattle.dns_book.specs.Owed.{case_reply, case_batch, looked_reply}
use Rattle.dns_book.specs.Counted.{counted_question}
use Rattle.dns_book.specs.Book.{SeenOf, seen, IsKept, grounds_of}
use Rattle.dns_book.specs.Carrying.{IsPut}
use Rattle.dns_book.proofs.Answered.{carries_none, carries_idle}
use Rattle.dns_book.proofs.book.Book.look_up.Goals as goal

pub returns-in_err-put_looked : goal.returns-in_err-put_looked
returns-in_err-put_looked g c =
    carries_none g.K.Keeper.keeper c.args.self.now c.args.ask.now c.args.decision.now c.args.is_framed c.args.out.now.items c.put_looked.new.out.items c.from_residual.result _
    c.from_residual.ensures.0 (subst (IsKept g.K.Keeper.keeper) c.self.view_is c.self.invariant)
    (ap (λ (counts : List (List ℕ)). seen c.self.inside.store c.self.inside.allow_update counts) c.in_err-put_looked.ensures.err ∙ c.self.view_is) c.in_err-put_looked.ensures.out

pub returns : goal.returns
returns g c =
    let request = c.args.decision.now.request in
    let q = c.args.question.now in
    let zone_is = c.zone-zone.ensures.is ∙ ap (λ (b : SeenOf g.row.K.Denot). b.zone) c.self.view_is in
    let reply = looked_reply request q (lookup_of c.zone-zone.result.now q.name q.qtype) in
    carries_idle g.K.Keeper.keeper c.args.self.now c.args.ask.now c.args.decision.now c.args.is_framed c.args.out.now.items c.put_looked.new.out.items _
    (subst (IsKept g.K.Keeper.keeper) c.self.view_is c.self.invariant) c.requires.protocol (Some (q.qtype, q.qclass)) reply c.put_looked.new.counts c.told.result
    (ap counted_question (sym c.requires.case))
    (ap (λ (k : Case). case_reply (grounds_of c.args.self.now false) request k) c.requires.case ∙ ap (λ (z : Contents). looked_reply request q (lookup_of z q.name q.qtype)) (sym zone_is))
    (ap (case_batch c.args.self.now.zone c.args.self.now.allow_update) c.requires.case)
    (subst (λ (b : SeenOf g.row.K.Denot). IsPut request (Some (q.qtype, q.qclass)) reply c.args.is_framed c.args.out.now.items c.put_looked.new.out.items b.counts c.put_looked.new.counts) c.self.view_is c.in_ok-put_looked.ensures.ok)
    (ap (λ (b : SeenOf g.row.K.Denot). record b { counts = c.put_looked.new.counts }) c.self.view_is) c.told.ensures.is
