use Rattle.dns_laws.proofs.OneReceiver.{one-exact}
use Rattle.dns_laws.proofs.OwnMessages.{own-done}
use Rattle.dns_laws.proofs.isolation.own_messages.Goals as goal

pub returns-clause-one : goal.returns-clause-one
returns-clause-one c = one-exact

pub returns-clause-own : goal.returns-clause-own
returns-clause-own c = own-done
