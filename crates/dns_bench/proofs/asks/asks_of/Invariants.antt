use Rattle.std.specs.Prelude.{All}
use Rattle.dns_bench.specs.Turns.{CanBeSettled}
use Rattle.dns_bench.proofs.asks.asks_of.Given as goal

abbrev pub invariant-loop-line : goal.invariant-loop-line
invariant-loop-line l = All CanBeSettled l.asks.items
