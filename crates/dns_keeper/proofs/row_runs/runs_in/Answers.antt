use Rattle.std.proofs.Common.{take, subst}
use Rattle.std.proofs.lemmas.List.{take_more, take_all}
use Rattle.dns_keeper.specs.RunsSoFar.{AreRunsOf}
use Rattle.dns_keeper.proofs.row_runs.runs_in.Goals as goal

pub loop-row-preserved : goal.loop-row-preserved
loop-row-preserved c =
    rw (take_more _ _ c.row-item.result c.loop-row-test.true, ← c.row-item.is) (c.in_ok-count_row.ensures (take c.loop-row.row-index c.args.rows.now) c.loop-row.invariant)

pub returns : goal.returns
returns c = c.into_batches.ensures c.args.rows.now (subst (λ rows. AreRunsOf rows c.loop-row.runs) (take_all c.loop-row.row-index c.args.rows.now c.loop-row-test.false) c.loop-row.invariant)
