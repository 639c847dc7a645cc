use Rattle.dns_name.proofs.Stands.{StandsAt-one, StandsAt-written}
use Rattle.dns_name.proofs.name_laws.standing_names.Goals as goal

pub returns-clause-one : goal.returns-clause-one
returns-clause-one c = StandsAt-one

pub returns-clause-written : goal.returns-clause-written
returns-clause-written c = StandsAt-written
