use Rattle.dns_update.proofs.Rows.{runs_one, runs_on}
use Rattle.dns_update.proofs.laws.rows.Goals as goal

pub returns : goal.returns
returns c = record { one = runs_one; on = runs_on }
