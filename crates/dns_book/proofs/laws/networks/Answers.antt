use Rattle.dns_book.proofs.Fronts.{net_of-family, net_of-bits, net_of-inside}
use Rattle.dns_book.proofs.laws.networks.Goals as goal

pub returns-clause-family : goal.returns-clause-family
returns-clause-family c = net_of-family

pub returns-clause-bits : goal.returns-clause-bits
returns-clause-bits c = net_of-bits

pub returns-clause-inside : goal.returns-clause-inside
returns-clause-inside c = net_of-inside
