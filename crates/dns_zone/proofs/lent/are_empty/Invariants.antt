use Rattle.std.proofs.Common.{◌≡◌, drop}
use Rattle.dns_zone_map.specs.Sets.{in_all}
use Rattle.dns_zone.proofs.lent.are_empty.Given as goal

abbrev pub invariant-loop-set : goal.invariant-loop-set
invariant-loop-set l = in_all (drop l.set-index l.sets) ≡ in_all l.sets
