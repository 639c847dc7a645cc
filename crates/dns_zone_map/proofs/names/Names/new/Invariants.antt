use Rattle.std.proofs.Common.{◌<◌, length}
use Rattle.dns_zone_map.proofs.Table.{AreEmpty}
use Rattle.dns_zone_map.proofs.names.Names.new.Given as goal

abbrev pub invariant-loop : goal.invariant-loop
invariant-loop l = record {
  empty : AreEmpty l.trees.items;
  some : 0 < length l.trees.items;
}
