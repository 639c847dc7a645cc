use Rattle.std.proofs.Common.{arith}
use Rattle.dns_zone_map.proofs.Counted.{next_set}
use Rattle.dns_zone_map.proofs.sets.OwnerSets.record_count.Goals as goal

pub overflow_add-count : goal.overflow_add-count
overflow_add-count c =
    omega (
      arith,
      c.loop-set.invariant.count,
      c.len-count.ensures,
      c.requires.few,
      (next_set c.deref-set-items.result.now c.loop-set.set-index c.set-item.result c.loop-set-test.true c.set-item.is c.loop-set.invariant.paired).1,
    )

pub loop-set-preserved : goal.loop-set-preserved
loop-set-preserved c =
    let next = next_set c.deref-set-items.result.now c.loop-set.set-index c.set-item.result c.loop-set-test.true c.set-item.is c.loop-set.invariant.paired in
    record { paired = next.0; count = omega (arith, next.1, c.loop-set.invariant.count, c.len-count.ensures) }
