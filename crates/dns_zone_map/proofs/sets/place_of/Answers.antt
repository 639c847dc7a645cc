use Rattle.std.proofs.Common.{arith}
use Rattle.dns_zone_map.proofs.InSets.{rise_from}
use Rattle.dns_zone_map.proofs.sets.place_of.Goals as goal

pub returns-then-other-rtype-2-clause-none : goal.returns-then-other-rtype-2-clause-none
returns-then-other-rtype-2-clause-none c = record {
  lower = c.loop-place.invariant;
  within = omega arith;
  upper = rise_from c.args.rtype c.loop-place.place c.args.sets.now c.index-sets-place.result c.requires (omega arith) c.if-other-rtype-2.true;
}
