use Rattle.std.proofs.lemmas.Grind.{flat_map-append}
use Rattle.dns_network.proofs.laws.parts.Goals as goal

pub returns-clause-read : goal.returns-clause-read
returns-clause-read c = λ n. flat_map-append _

pub returns-clause-written : goal.returns-clause-written
returns-clause-written c = λ n. flat_map-append _

pub returns-clause-accepted : goal.returns-clause-accepted
returns-clause-accepted c = flat_map-append _

pub returns-clause-closed : goal.returns-clause-closed
returns-clause-closed c = flat_map-append _

pub returns-clause-received : goal.returns-clause-received
returns-clause-received c = flat_map-append _

pub returns-clause-sent : goal.returns-clause-sent
returns-clause-sent c = flat_map-append _
