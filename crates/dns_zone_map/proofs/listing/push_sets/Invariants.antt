use Rattle.std.proofs.Common.{◌≡◌, ◌++◌, drop}
use Rattle.dns_zone_map.specs.Sets.{in_sets, ArePaired}
use Rattle.dns_zone_map.proofs.listing.push_sets.Given as goal

abbrev pub invariant-loop-set : goal.invariant-loop-set
invariant-loop-set l = record {
  paired : ArePaired (drop l.set-index l.sets);
  all : l.all.items ++ in_sets (drop l.set-index l.sets) ≡ l.fn.all.items ++ in_sets l.sets;
}
