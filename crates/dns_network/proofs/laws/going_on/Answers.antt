use Rattle.dns_network.proofs.Words.{found_one}
use Rattle.dns_network.proofs.laws.going_on.Goals as goal

pub returns-clause-looked : goal.returns-clause-looked
returns-clause-looked c = λ xs stopped. found_one _ _ xs _

pub returns-clause-stopped : goal.returns-clause-stopped
returns-clause-stopped c = λ xs stopped. found_one _ _ xs _

pub returns-clause-now : goal.returns-clause-now
returns-clause-now c = λ xs reading. found_one _ _ xs _

pub returns-clause-wall : goal.returns-clause-wall
returns-clause-wall c = λ xs reading. found_one _ _ xs _
