use Rattle.std.proofs.Common.{◌≡◌, drop}
use Rattle.dns_zone_map.specs.KeyOrder.{standing}
use Rattle.dns_zone_map.proofs.tree.standing.Given as goal

abbrev pub invariant-loop-place : goal.invariant-loop-place
invariant-loop-place l = standing l.key l.front ≡ standing (drop l.place l.key) (drop l.place l.front)
