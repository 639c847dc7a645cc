use Rattle.dns_counts.proofs.Runs.{types-run}
use Rattle.dns_counts.proofs.kinds.count_types.Goals as goal

pub returns-in-Run : goal.returns-in-Run
returns-in-Run c = rw (← c.form.ensures, c.in-Run.is, types-run) c.count_type.ensures
