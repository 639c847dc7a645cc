use Rattle.std.proofs.Common.{◌≡◌, drop}
use Rattle.dns_zone.specs.Owner.{has_another_set}
use Rattle.dns_zone.proofs.owner.has_another_set.Given as goal

abbrev pub invariant-loop-set : goal.invariant-loop-set
invariant-loop-set l = has_another_set l.rtype (drop l.set-index l.sets) ≡ has_another_set l.rtype l.sets
