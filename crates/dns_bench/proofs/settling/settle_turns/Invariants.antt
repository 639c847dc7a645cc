use Rattle.dns_bench.specs.Turns.{OverAndOver}
use Rattle.dns_bench.proofs.settling.settle_turns.Given as goal

abbrev pub invariant-loop-turn : goal.invariant-loop-turn
invariant-loop-turn g l = OverAndOver g.K.Keeper.keeper l.access l.fn.book l.asks l._turn l.bytes l.book
