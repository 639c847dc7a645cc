use Rattle.std.proofs.Common.{◌≡◌, ◌++◌}
use Rattle.std.specs.List.{AllByRecursion}
use Rattle.dns_zone_map.specs.Sets.{ArePaired}
use Rattle.dns_zone_map.specs.Tree.{in_entries}
use Rattle.dns_zone_map.proofs.listing.push_tree.Given as goal

abbrev pub invariant-loop-sets : goal.invariant-loop-sets
invariant-loop-sets l = record {
  paired : AllByRecursion (λ e. ArePaired e.1) l.sets-iterator;
  all : l.all.items ++ in_entries l.sets-iterator ≡ l.fn.all.items ++ in_entries l.tree.entries;
}
