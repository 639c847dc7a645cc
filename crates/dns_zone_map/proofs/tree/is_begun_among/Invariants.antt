use Rattle.dns_zone_map.specs.Sets.{are_some}
use Rattle.dns_zone_map.proofs.KeyOrder.{AreLeft}
use Rattle.dns_zone_map.proofs.tree.is_begun_among.Given as goal

abbrev pub invariant-loop-next : goal.invariant-loop-next
invariant-loop-next l = AreLeft l.key are_some l.names.entries l.next-iterator
