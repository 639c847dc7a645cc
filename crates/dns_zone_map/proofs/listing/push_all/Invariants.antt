use Rattle.std.proofs.Common.{◌≡◌, ◌++◌, drop}
use Rattle.std.specs.List.{AllByRecursion}
use Rattle.dns_zone_map.specs.Sets.{ArePaired}
use Rattle.dns_zone_map.specs.Table.{all_in}
use Rattle.dns_zone_map.specs.Tree.{in_entries}
use Rattle.dns_zone_map.proofs.listing.push_all.Given as goal

abbrev pub invariant-loop-tree : goal.invariant-loop-tree
invariant-loop-tree l = record {
  paired : AllByRecursion (λ e. ArePaired e.1) (all_in (drop l.tree-index l.tree-items));
  all : l.all.items ++ in_entries (all_in (drop l.tree-index l.tree-items)) ≡ l.fn.all.items ++ in_entries l.names;
}
