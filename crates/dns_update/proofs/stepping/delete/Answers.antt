use Rattle.std.proofs.Common.{◌≡◌, subst, List}
use Rattle.std.specs.Prelude.{OnOk}
use Rattle.dns_wire.specs.declared.record.Record.{Record}
use Rattle.dns_update.specs.Change.{ns_count}
use Rattle.dns_update.proofs.Deleting.{by_any, by_none}
use Rattle.dns_update.proofs.stepping.delete.Goals as goal

pub returns-then-one-eq-ANY-clause-records : goal.returns-then-one-eq-ANY-clause-records
returns-then-one-eq-ANY-clause-records c =
    let z = c.args.map.now in
    subst (λ (l : List Record). OnOk c.delete_by_any.result (c.delete_by_any.new.map.records ≡ l))
    (by_any z.origin (ns_count z.origin z.records) c.args.one.now z.records c.if-one-eq-ANY.true) c.delete_by_any.ensures.records

pub returns-clause-records : goal.returns-clause-records
returns-clause-records c =
    let z = c.args.map.now in
    subst (λ (l : List Record). OnOk c.delete_by_none.result (c.delete_by_none.new.map.records ≡ l))
    (by_none z.origin (ns_count z.origin z.records) c.args.one.now z.records c.if-one-eq-ANY.false) c.delete_by_none.ensures.records
