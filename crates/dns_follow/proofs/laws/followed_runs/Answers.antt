use Rattle.dns_follow.proofs.Hearing.{goes_runs}
use Rattle.dns_follow.proofs.laws.followed_runs.Goals as goal

pub returns : goal.returns
returns g c = λ s t steps goes. goes_runs g.K.Keeper.keeper s t steps goes
