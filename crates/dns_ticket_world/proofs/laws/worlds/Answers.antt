use Rattle.dns_ticket_world.proofs.Making.{starts}
use Rattle.dns_ticket_world.proofs.Meanings.{all_rows}
use Rattle.dns_ticket_world.proofs.Stepping.{keeps, keeps_all}
use Rattle.dns_ticket_world.proofs.laws.worlds.Goals as goal

pub returns : goal.returns
returns c = record { start = starts; step = keeps; steps = keeps_all; rows = all_rows }
