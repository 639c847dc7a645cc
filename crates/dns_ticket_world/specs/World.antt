-- The world of tickets: seats that draw tickets for one book, and the rows that they add to it, one seat at a time.
use Rattle.std.specs.Prelude.{ℕ, ◌+◌, ◌-◌, ◌%◌, ◌^◌, ◌==◌, ◌&&◌, not, nat_lt, nat_le, max, Bool, true, false, if◌then◌else◌, List, [], ◌∷◌, ◌++◌, length, replicate, slice_set}
use Rattle.std.specs.List.{list_all}
use Rattle.dns_keeper.specs.declared.row.Row.{Row}
use Rattle.dns_ticket_world.specs.declared.seat.Phase.TheVariants.{Idle, Waiting, HasTurn, Holding, HasCounted, HasGiven, Ended}
use Rattle.dns_ticket_world.specs.declared.seat.Seat.{Seat}
use Rattle.dns_ticket_world.specs.declared.step.Step.{Step}
use Rattle.dns_ticket_world.specs.declared.step.Step.TheVariants.{Draw, Look, Take, Give, Pass, Split, Count, Join}
use Rattle.dns_ticket_world.specs.Seats.{is_idle, may_take, is_holding, has_counted, has_given, new_seat, seat_at, seat_of}
use Rattle.dns_ticket_world.specs.Rows.{are_numbered, bears, receipt_for, with_receipt}

pub record World : Type 0 where
  -- the ticket that is drawn next, and the one whose turn it is, both modulo 2^64
  pub next : ℕ
  pub serving : ℕ
  -- how many rows there were at the start. They are the first ones
  pub opening : ℕ
  pub rows : List Row
  -- no seat has the book
  pub is_home : Bool
  -- by how much the keeper's count of faults has risen since the start
  pub faults : ℕ
  -- the seats that were made, by number from 1. One that ended keeps its place and its receipts
  pub seats : List Seat

-- so many idle seats, which have seen the rows
abbrev pub started : ℕ → List Row → World
started seats rows = record {
  next = 0;
  serving = 0;
  opening = length rows;
  rows = rows;
  is_home = true;
  faults = 0;
  seats = replicate seats (new_seat (length rows));
}

abbrev pub is_allowed : World → Step → Bool
is_allowed w (Draw number) = is_idle (seat_of w.seats number).phase
is_allowed w (Look number) = may_take (seat_of w.seats number).phase
is_allowed w (Take number) = may_take (seat_of w.seats number).phase && ((seat_of w.seats number).ticket == w.serving && w.is_home)
is_allowed w (Give number) = has_counted (seat_of w.seats number).phase
is_allowed w (Pass number) = has_given (seat_of w.seats number).phase
is_allowed w (Split number) = number == 1 && (is_idle (seat_of w.seats number).phase && nat_lt (length w.seats) (2 ^ 32 - 1))
is_allowed w (Count number batch faults) =
    is_holding (seat_of w.seats number).phase && (list_all (bears number) batch && (are_numbered (length w.rows) batch && nat_le w.faults faults))
is_allowed w (Join number other) =
    number == 1 && (not (number == other) && (is_idle (seat_of w.seats number).phase && is_idle (seat_of w.seats other).phase))

-- the seat at this place draws a ticket, and waits
abbrev pub drawn : World → ℕ → World
drawn w place = record w {
  next = (w.next + 1) % 2 ^ 64;
  seats = slice_set w.seats place (record (seat_at w.seats place) { phase = Waiting; ticket = w.next });
}

-- it has its turn where its ticket is served
abbrev pub looked : World → ℕ → World
looked w place =
    if (seat_at w.seats place).ticket == w.serving then record w { seats = slice_set w.seats place (record (seat_at w.seats place) { phase = HasTurn }) } else w

-- it takes the book
abbrev pub taken : World → ℕ → World
taken w place = record w {
  is_home = false;
  seats = slice_set w.seats place (record (seat_at w.seats place) { phase = Holding });
}

-- it adds a batch to the rows, sees them all, and takes what the keeper's count has risen by on itself
abbrev pub counted : World → ℕ → List Row → ℕ → World
counted w place batch faults = record w {
  rows = w.rows ++ batch;
  faults = faults;
  seats = slice_set w.seats place (record (seat_at w.seats place) {
    phase = HasCounted;
    seen = length (w.rows ++ batch);
    receipts = with_receipt (seat_at w.seats place).receipts (receipt_for (place + 1) (length w.rows) batch);
    faults = (seat_at w.seats place).faults + (faults - w.faults);
  });
}

-- it gives the book back
abbrev pub given : World → ℕ → World
given w place = record w {
  is_home = true;
  seats = slice_set w.seats place (record (seat_at w.seats place) { phase = HasGiven });
}

-- the next ticket is served
abbrev pub passed : World → ℕ → World
passed w place = record w {
  serving = (w.serving + 1) % 2 ^ 64;
  seats = slice_set w.seats place (record (seat_at w.seats place) { phase = Idle });
}

-- a new seat has seen what it has seen
abbrev pub divided : World → ℕ → World
divided w place = record w { seats = w.seats ++ new_seat (seat_at w.seats place).seen ∷ [] }

-- it has seen what either has seen, and takes the faults of the other, which ends
abbrev pub joined : World → ℕ → ℕ → World
joined w place other = record w {
  seats = slice_set
      (slice_set w.seats other (record (seat_at w.seats other) { phase = Ended }))
      place
      (record (seat_at w.seats place) {
        seen = max (seat_at w.seats place).seen (seat_at w.seats other).seen;
        faults = (seat_at w.seats place).faults + (seat_at w.seats other).faults;
      });
}

-- the world after an allowed step
abbrev pub stepped : World → Step → World
stepped w (Draw number) = drawn w (number - 1)
stepped w (Look number) = looked w (number - 1)
stepped w (Take number) = taken w (number - 1)
stepped w (Give number) = given w (number - 1)
stepped w (Pass number) = passed w (number - 1)
stepped w (Split number) = divided w (number - 1)
stepped w (Count number batch faults) = counted w (number - 1) batch faults
stepped w (Join number other) = joined w (number - 1) (other - 1)

-- the world after a step. One that is not allowed changes nothing
abbrev pub after : World → Step → World
after w s = if is_allowed w s then stepped w s else w

-- the world after a list of steps
abbrev pub after_all : World → List Step → World
after_all w [] = w
after_all w (s ∷ steps) = after_all (after w s) steps
