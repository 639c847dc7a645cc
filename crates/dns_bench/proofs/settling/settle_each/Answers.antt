use Rattle.dns_bench.specs.Turns.{InTurn}
use Rattle.dns_bench.proofs.Turning.{turn_more}
use Rattle.dns_bench.proofs.settling.settle_each.Goals as goal

pub loop-ask-init : goal.loop-ask-init
loop-ask-init g c = InTurn.begun

pub loop-ask-preserved : goal.loop-ask-preserved
loop-ask-preserved g c =
    turn_more _ _ _ _ _ _ _ _ _ _ _ _ c.loop-ask-test.true c.ask-item.is c.loop-ask.invariant c.in_ok-more.ensures.settles c.in_ok-more.ensures.length c.in_ok-bytes.ensures
