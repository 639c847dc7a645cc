use Rattle.std.proofs.Common.{◌≡◌, take}
use Rattle.dns_zone_map.proofs.tree.begins.Given as goal

abbrev pub invariant-loop-place : goal.invariant-loop-place
invariant-loop-place l = take l.place l.key ≡ take l.place l.front
