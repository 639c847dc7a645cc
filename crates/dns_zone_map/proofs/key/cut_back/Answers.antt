use Rattle.std.proofs.Common.{◌<◌, length, arith}
use Rattle.dns_zone_map.proofs.Written.{Passed-next, Passed-label, some_left}
use Rattle.dns_zone_map.proofs.key.cut_back.Goals as goal

pub overflow_sub-place : goal.overflow_sub-place
overflow_sub-place c = Passed-label _ _ _ _ _ _ _ c.loop.invariant c.in-Some.ensures.steps c.requires.fits

pub returns-in-None : goal.returns-in-None
returns-in-None c = let more : c.loop.counter < length c.args.name.now = omega arith in absurd (some_left _ _ _ c.loop.invariant.left_is c.in-None.ensures.steps.0 more)

pub loop-preserved : goal.loop-preserved
loop-preserved c = Passed-next _ _ _ _ _ _ _ c.loop.invariant c.in-Some.ensures.steps c.requires.fits
