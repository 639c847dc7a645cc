use Rattle.std.proofs.Common.{◌∙◌}
use Rattle.dns_update.specs.Change.{ns_count}
use Rattle.dns_update.proofs.Deleting.{kept, gone}
use Rattle.dns_update.proofs.stepping.delete_by_none.Goals as goal

pub returns-then-is_kept-clause-records : goal.returns-then-is_kept-clause-records
returns-then-is_kept-clause-records c =
    let z = c.args.map.now in
    kept z.origin (ns_count z.origin z.records) c.args.one.now z.records c.is_kept.result c.is_kept.ensures c.if-is_kept.true

pub returns-clause-records : goal.returns-clause-records
returns-clause-records c =
    let z = c.args.map.now in
    c.in_ok-take_record.ensures.records ∙ gone z.origin (ns_count z.origin z.records) c.args.one.now z.records c.is_kept.result c.is_kept.ensures c.if-is_kept.false
