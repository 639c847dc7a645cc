use Rattle.std.proofs.Common.{take}
use Rattle.dns_bench.specs.Turns.{InTurn}
use Rattle.dns_bench.proofs.settling.settle_each.Given as goal

abbrev pub invariant-loop-ask : goal.invariant-loop-ask
invariant-loop-ask g l = InTurn g.K.Keeper.keeper l.access l.fn.book (take l.ask-index l.asks) l.bytes l.book
