use Rattle.std.proofs.Common.{◌≡◌, drop}
use Rattle.dns_zone_map.specs.Sets.{set_in}
use Rattle.dns_zone_map.proofs.sets.set_in.Given as goal

abbrev pub invariant-loop-set : goal.invariant-loop-set
invariant-loop-set l = set_in l.rtype (drop l.set-index l.sets) ≡ set_in l.rtype l.sets
