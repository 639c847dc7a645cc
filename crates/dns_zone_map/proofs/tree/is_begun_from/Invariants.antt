use Rattle.dns_zone_map.specs.Sets.{are_some}
use Rattle.dns_zone_map.proofs.Firsts.{AreNext}
use Rattle.dns_zone_map.proofs.tree.is_begun_from.Given as goal

abbrev pub invariant-loop-next : goal.invariant-loop-next
invariant-loop-next l = AreNext l.key.items are_some l.names.entries l.next-iterator
