use Rattle.dns_network.proofs.Words.{moment_clock, owing_clock}
use Rattle.dns_network.proofs.laws.one_clock.Goals as goal

pub returns-clause-moved : goal.returns-clause-moved
returns-clause-moved c = moment_clock

pub returns-clause-owing : goal.returns-clause-owing
returns-clause-owing c = owing_clock
