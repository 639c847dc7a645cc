use Rattle.std.proofs.Common.{◌≡◌, ◌++◌, drop}
use Rattle.dns_zone_map.proofs.sets.OwnerSets.copy.Given as goal

abbrev pub invariant-loop-set : goal.invariant-loop-set
invariant-loop-set l = l.sets.items ++ drop l.set-index l.set-items ≡ l.self
