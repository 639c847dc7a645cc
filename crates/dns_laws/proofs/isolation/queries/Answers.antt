use Rattle.dns_laws.proofs.Unchanged.{Settles-unchanged}
use Rattle.dns_laws.proofs.isolation.queries.Goals as goal

pub returns : goal.returns
returns g c = record { unchanged = Settles-unchanged g.K.Keeper.keeper }
