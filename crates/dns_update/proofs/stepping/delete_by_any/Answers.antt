use Rattle.std.proofs.Common.{◌∙◌}
use Rattle.dns_update.proofs.Deleting.{any_name, any_set}
use Rattle.dns_update.proofs.stepping.delete_by_any.Goals as goal

pub returns-then-one-eq-ANY-clause-records : goal.returns-then-one-eq-ANY-clause-records
returns-then-one-eq-ANY-clause-records c =
    let z = c.args.map.now in
    c.in_ok-delete_name.ensures.records ∙ any_name z.origin c.args.one.now z.records c.if-one-eq-ANY.true

pub returns-clause-records : goal.returns-clause-records
returns-clause-records c =
    let z = c.args.map.now in
    c.in_ok-delete_set.ensures.records ∙ any_set z.origin c.args.one.now z.records c.if-one-eq-ANY.false
