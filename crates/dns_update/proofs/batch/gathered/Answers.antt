use Rattle.std.proofs.Common.{◌+◌, ◌∙◌, drop}
use Rattle.dns_zone_map.specs.Mapped.{contents}
use Rattle.dns_update.proofs.HalfDone.{next_of, next_passes, counted_all}
use Rattle.dns_update.proofs.batch.gathered.Goals as goal

pub take-requires-clause-passes : goal.take-requires-clause-passes
take-requires-clause-passes c =
    let was = c.loop-one in
    next_passes (contents c.args.map.now) (contents was.map) c.args.updates.now (drop (was.one-index + 1) c.args.updates.now) was.work.records.items was.work.modified c.one-item.result
    (next_of (contents c.args.map.now) (contents was.map) c.args.updates.now c.args.updates.now was.work.records.items was.work.modified was.one-index c.one-item.result c.loop-one-test.true c.one-item.is was.invariant.under_way)

pub take-requires-clause-counted : goal.take-requires-clause-counted
take-requires-clause-counted c =
    let was = c.loop-one in
    counted_all (contents c.args.map.now) (contents was.map) c.args.updates.now (drop was.one-index c.args.updates.now) was.work.records.items was.work.modified was.invariant.under_way

pub loop-one-preserved : goal.loop-one-preserved
loop-one-preserved c =
    let was = c.loop-one in
    record {
      under_way =
          c.in_ok-take.ensures.next (contents c.args.map.now) c.args.updates.now (drop (was.one-index + 1) c.args.updates.now)
          (next_of (contents c.args.map.now) (contents was.map) c.args.updates.now c.args.updates.now was.work.records.items was.work.modified was.one-index c.one-item.result c.loop-one-test.true c.one-item.is was.invariant.under_way);
      undo = c.take.ensures.before ∙ was.invariant.undo;
    }
