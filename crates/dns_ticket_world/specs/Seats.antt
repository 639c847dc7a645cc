-- What a seat of the world is at, and what it keeps.
use Rattle.std.specs.Prelude.{ℕ, ◌-◌, ◌==◌, Bool, true, false, if◌then◌else◌, List, [], slice_index_or}
use Rattle.dns_ticket_world.specs.declared.seat.Phase.{Phase}
use Rattle.dns_ticket_world.specs.declared.seat.Phase.TheVariants.{Idle, Waiting, HasTurn, Holding, HasCounted, HasGiven, Ended}
use Rattle.dns_ticket_world.specs.declared.seat.Seat.{Seat}

abbrev pub is_idle : Phase → Bool
is_idle Idle = true
is_idle phase = false

-- it waits or has its turn
abbrev pub may_take : Phase → Bool
may_take Waiting = true
may_take HasTurn = true
may_take phase = false

abbrev pub is_holding : Phase → Bool
is_holding Holding = true
is_holding phase = false

abbrev pub has_counted : Phase → Bool
has_counted HasCounted = true
has_counted phase = false

abbrev pub has_given : Phase → Bool
has_given HasGiven = true
has_given phase = false

-- it has the book: it holds or has counted
abbrev pub has_book : Phase → Bool
has_book Holding = true
has_book HasCounted = true
has_book phase = false

-- its turn has come: it has its turn, holds, has counted or has given
abbrev pub is_served : Phase → Bool
is_served HasTurn = true
is_served Holding = true
is_served HasCounted = true
is_served HasGiven = true
is_served phase = false

-- it has a ticket: it is not idle, and has not ended
abbrev pub has_ticket : Phase → Bool
has_ticket Idle = false
has_ticket Ended = false
has_ticket phase = true

abbrev pub has_ended : Phase → Bool
has_ended Ended = true
has_ended phase = false

-- a seat that makes no step
abbrev pub no_seat : Seat
no_seat = record { phase = Ended; ticket = 0; seen = 0; receipts = []; faults = 0 }

-- an idle seat that has seen so many rows
abbrev pub new_seat : ℕ → Seat
new_seat seen = record { phase = Idle; ticket = 0; seen = seen; receipts = []; faults = 0 }

-- the seat at a place, from 0
abbrev pub seat_at : List Seat → ℕ → Seat
seat_at seats place = slice_index_or seats place no_seat

-- the seat of a number, from 1. One that was not made makes no step
abbrev pub seat_of : List Seat → ℕ → Seat
seat_of seats number = if number == 0 then no_seat else seat_at seats (number - 1)
