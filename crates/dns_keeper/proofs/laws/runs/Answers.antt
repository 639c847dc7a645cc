use Rattle.dns_keeper.proofs.Runs.{runs_cover}
use Rattle.dns_keeper.proofs.RunsAscend.{runs_by_first}
use Rattle.dns_keeper.proofs.laws.runs.Goals as goal

pub returns : goal.returns
returns c = record { cover = runs_cover; by_first = runs_by_first }
