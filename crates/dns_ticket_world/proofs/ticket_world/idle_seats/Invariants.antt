use Rattle.std.proofs.Common.{◌≡◌, replicate}
use Rattle.dns_ticket_world.specs.Seats.{new_seat}
use Rattle.dns_ticket_world.proofs.ticket_world.idle_seats.Given as goal

abbrev pub invariant-loop-i : goal.invariant-loop-i
invariant-loop-i l = l.seats.items ≡ replicate l._i (new_seat l.seen)
