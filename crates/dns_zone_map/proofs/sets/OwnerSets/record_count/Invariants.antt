use Rattle.std.proofs.Common.{◌≡◌, ◌+◌, drop, length}
use Rattle.dns_zone_map.specs.Sets.{in_sets, ArePaired}
use Rattle.dns_zone_map.proofs.sets.OwnerSets.record_count.Given as goal

abbrev pub invariant-loop-set : goal.invariant-loop-set
invariant-loop-set l = record {
  paired : ArePaired (drop l.set-index l.set-items);
  count : l.count + length (in_sets (drop l.set-index l.set-items)) ≡ length (in_sets l.self);
}
