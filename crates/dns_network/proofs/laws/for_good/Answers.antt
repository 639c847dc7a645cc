use Rattle.dns_network.proofs.Words.{any_stays}
use Rattle.dns_network.proofs.laws.for_good.Goals as goal

pub returns-clause-ended : goal.returns-clause-ended
returns-clause-ended c = λ n. any_stays _

pub returns-clause-gone : goal.returns-clause-gone
returns-clause-gone c = λ n. any_stays _

pub returns-clause-shut : goal.returns-clause-shut
returns-clause-shut c = λ n. any_stays _

pub returns-clause-closed : goal.returns-clause-closed
returns-clause-closed c = λ n. any_stays _

pub returns-clause-ceased : goal.returns-clause-ceased
returns-clause-ceased c = any_stays _
