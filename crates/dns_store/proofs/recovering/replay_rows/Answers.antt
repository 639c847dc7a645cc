use Rattle.dns_store.proofs.ReadRows.{runs_told}
use Rattle.dns_store.proofs.recovering.replay_rows.Goals as goal

pub returns-in-Ok-clause-runs : goal.returns-in-Ok-clause-runs
returns-in-Ok-clause-runs g c =
    let taken = c.in_ok-replaying.field-0 in
    runs_told (g.K.Keeper.keeper.told c.take_rows.new.keeper).rows taken.replaying taken.runs taken.row_count c.in-Ok.zone.records c.in_ok-replaying.ensures.all c.in-Ok.ensures.records
