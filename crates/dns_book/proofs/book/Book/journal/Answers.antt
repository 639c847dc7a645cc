use Rattle.std.proofs.Common.{◌≡◌, ◌+◌, ◌-◌, ◌<◌, length, false, Some, None, Ok, Err, sym, ap, ◌∙◌, subst, arith}
use Rattle.dns_zone_map.specs.Zone.{Contents}
use Rattle.dns_update.specs.Change.{batch_of}
use Rattle.dns_store.specs.Store.{Stores}
use Rattle.dns_book.specs.declared.ask.Ask.{Ask}
use Rattle.dns_book.specs.Book.{SeenOf, seen, Ends}
use Rattle.dns_book.specs.Crash.{LeavesOn}
use Rattle.dns_book.specs.Carrying.{Journals}
use Rattle.dns_book.proofs.Growing.{journals_refused, journals_idle, more_rows, journals_grown}
use Rattle.dns_book.proofs.book.Book.journal.Goals as goal

pub returns-in-Err-clause-is : goal.returns-in-Err-clause-is
returns-in-Err-clause-is g c =
    subst (λ (before : SeenOf g.row.K.Denot). Journals g.K.Keeper.keeper before c.args.ask.now (batch_of before.zone.origin before.zone.records c.args.updates.now) (Err c.in-Err.fault)
    (seen c.journal.new.self c.self.inside.allow_update c.self.inside.counts)) c.self.view_is
    (journals_refused g.K.Keeper.keeper c.self.inside.store c.journal.new.self c.self.inside.allow_update c.self.inside.counts c.args.ask.now _ c.in-Err.fault c.in-Err.ensures.is)

pub returns-then-count-eq0-clause-is : goal.returns-then-count-eq0-clause-is
returns-then-count-eq0-clause-is g c =
    let store = c.self.inside.store in
    let none : length c.in-Ok.batch.records ≡ 0 = omega (arith, c.len-count.ensures, c.if-count-eq0.true) in
    let stores = subst (λ (a : Ask). Stores g.K.Keeper.keeper store a.client a.at (batch_of store.zone.origin store.zone.records c.args.updates.now) (Ok c.in-Ok.batch) c.journal.new.self) c.ask.view_is c.in-Ok.ensures.is in
    subst (λ (before : SeenOf g.row.K.Denot). Ends g.K.Keeper.keeper before c.args.ask.now (batch_of before.zone.origin before.zone.records c.args.updates.now) false None
    (seen c.journal.new.self c.self.inside.allow_update c.self.inside.counts)) c.self.view_is
    (journals_idle g.K.Keeper.keeper store c.journal.new.self c.self.inside.allow_update c.self.inside.counts c.args.ask.now _ c.in-Ok.batch
    (ap length (sym c.in-Ok.ensures.batch.records) ∙ none) stores)

pub returns-clause-is : goal.returns-clause-is
returns-clause-is g c =
    let store = c.self.inside.store in
    let asked : Ask = record { bytes = c.ask.inside.bytes.now; source = c.ask.inside.source; protocol = c.ask.inside.protocol; at = c.ask.inside.at; client = c.ask.inside.client } in
    let counted : c.len-count.result ≡ length (batch_of store.zone.origin store.zone.records c.args.updates.now) = c.len-count.ensures ∙ ap length c.in-Ok.ensures.batch.records in
    let some : 0 < length (batch_of store.zone.origin store.zone.records c.args.updates.now) = omega (arith, counted, c.if-count-eq0.false) in
    let rows = more_rows g.K.Keeper.keeper store c.journal.new.self c.self.inside.allow_update c.self.inside.counts asked _ c.in-Ok.batch some c.in-Ok.ensures.is in
    let first : c.row_count.result - c.len-count.result + 1 ≡ store.row_count + 1 = omega (arith, c.row_count.ensures.is, rows, counted) in
    subst (λ (a : Ask). Ends g.K.Keeper.keeper c.args.self.now a (batch_of c.args.self.now.zone.origin c.args.self.now.zone.records c.args.updates.now) false
    (Some (record { client = c.ask.inside.client; first = c.row_count.result - c.len-count.result + 1; count = c.len-count.result }))
    (seen c.journal.new.self c.self.inside.allow_update c.count_change.new.counts)) c.ask.view_is
    (subst (λ (before : SeenOf g.row.K.Denot). Ends g.K.Keeper.keeper before asked (batch_of before.zone.origin before.zone.records c.args.updates.now) false
    (Some (record { client = c.ask.inside.client; first = c.row_count.result - c.len-count.result + 1; count = c.len-count.result }))
    (seen c.journal.new.self c.self.inside.allow_update c.count_change.new.counts)) c.self.view_is
    (journals_grown g.K.Keeper.keeper store c.journal.new.self c.self.inside.allow_update c.self.inside.counts asked _ c.in-Ok.batch
    (c.row_count.result - c.len-count.result + 1) c.len-count.result c.len-records.result c.count_change.new.counts some c.in-Ok.ensures.is c.in-Ok.ensures.batch.records c.in-Ok.ensures.batch.modified
    first counted (c.len-records.ensures ∙ ap (λ (z : Contents). length z.records) c.zone.ensures.is) c.count_change.ensures))

pub returns-in-Err-clause-left_on : goal.returns-in-Err-clause-left_on
returns-in-Err-clause-left_on g c = λ on. c.journal.ensures.left_on (subst (λ (b : SeenOf g.row.K.Denot). LeavesOn g.K.Keeper.keeper b) (sym c.self.view_is) on)

pub returns-then-count-eq0-clause-left_on : goal.returns-then-count-eq0-clause-left_on
returns-then-count-eq0-clause-left_on g c = λ on. c.journal.ensures.left_on (subst (λ (b : SeenOf g.row.K.Denot). LeavesOn g.K.Keeper.keeper b) (sym c.self.view_is) on)

pub returns-clause-left_on : goal.returns-clause-left_on
returns-clause-left_on g c = λ on. c.journal.ensures.left_on (subst (λ (b : SeenOf g.row.K.Denot). LeavesOn g.K.Keeper.keeper b) (sym c.self.view_is) on)
