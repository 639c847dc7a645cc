use Rattle.dns_network.proofs.Words.{found_one}
use Rattle.dns_network.proofs.laws.steps.Goals as goal

pub returns-clause-looked : goal.returns-clause-looked
returns-clause-looked c = found_one _ _

pub returns-clause-stopped : goal.returns-clause-stopped
returns-clause-stopped c = found_one _ _

pub returns-clause-worked : goal.returns-clause-worked
returns-clause-worked c = found_one _ _

pub returns-clause-now : goal.returns-clause-now
returns-clause-now c = found_one _ _

pub returns-clause-wall : goal.returns-clause-wall
returns-clause-wall c = found_one _ _

pub returns-clause-moment : goal.returns-clause-moment
returns-clause-moment c = λ n. found_one _ _

pub returns-clause-unwatched : goal.returns-clause-unwatched
returns-clause-unwatched c = λ n. found_one _ _

pub returns-clause-crowded : goal.returns-clause-crowded
returns-clause-crowded c = λ n. found_one _ _

pub returns-clause-owing : goal.returns-clause-owing
returns-clause-owing c = λ n. found_one _ _
