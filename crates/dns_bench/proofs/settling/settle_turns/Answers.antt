use Rattle.std.proofs.Common.{arith}
use Rattle.dns_bench.specs.Turns.{OverAndOver}
use Rattle.dns_bench.proofs.Turning.{turns_more, turns_all}
use Rattle.dns_bench.proofs.settling.settle_turns.Goals as goal

pub loop-turn-init : goal.loop-turn-init
loop-turn-init g c = OverAndOver.begun

pub loop-turn-preserved : goal.loop-turn-preserved
loop-turn-preserved g c = turns_more _ _ _ _ _ _ _ _ _ _ c.loop-turn.invariant c.in_ok-more.ensures c.in_ok-bytes.ensures

pub returns : goal.returns
returns g c = turns_all _ _ _ _ _ _ _ _ (omega (arith, c.loop-turn-test.false, c.loop-turn.auto._turn-end)) c.loop-turn.invariant
