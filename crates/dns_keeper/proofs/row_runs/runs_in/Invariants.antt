use Rattle.std.proofs.Common.{take}
use Rattle.dns_keeper.specs.RunsSoFar.{AreRunsOf}
use Rattle.dns_keeper.proofs.row_runs.runs_in.Given as goal

abbrev pub invariant-loop-row : goal.invariant-loop-row
invariant-loop-row l = AreRunsOf (take l.row-index l.rows) l.runs
