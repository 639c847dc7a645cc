use Rattle.dns_zone_map.specs.Tree.{OwnsSame}
use Rattle.dns_zone_map.proofs.former.sweep.Given as goal

abbrev pub invariant-loop-former : goal.invariant-loop-former
invariant-loop-former l = OwnsSame l.fn.names l.names
