use Rattle.dns_ticket_world.proofs.Meanings.{alone, home, ticket_out, one_ticket, someones}
use Rattle.dns_ticket_world.proofs.laws.seats_and_tickets.Goals as goal

pub returns : goal.returns
returns c = record { alone = alone; home = home; out = ticket_out; one = one_ticket; each = someones }
