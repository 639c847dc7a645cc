use Rattle.dns_net.proofs.Faultless.{bytes-faultless, faultless}
use Rattle.dns_net.proofs.laws.fetching_bytes.Goals as goal

pub returns-clause-bytes : goal.returns-clause-bytes
returns-clause-bytes c = λ said left rest result fetched sound room. bytes-faultless said result left rest fetched sound room

pub returns-clause-pieces : goal.returns-clause-pieces
returns-clause-pieces c = λ said left rest result fetched sound room. faultless said result left rest fetched sound room
