use Rattle.dns_update_client.proofs.Unique.{Answers-codes, Answers-not, StopsAt-one}
use Rattle.dns_update_client.proofs.laws.decided_exchanges.Goals as goal

pub returns-clause-codes : goal.returns-clause-codes
returns-clause-codes c = Answers-codes

pub returns-clause-either : goal.returns-clause-either
returns-clause-either c = Answers-not

pub returns-clause-fault : goal.returns-clause-fault
returns-clause-fault c = StopsAt-one
