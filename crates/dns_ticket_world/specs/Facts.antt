-- What every world keeps.
use Rattle.std.specs.Prelude.{◌≡◌, ℕ, ◌+◌, ◌-◌, ◌%◌, ◌^◌, ◌<◌, ◌≤◌, ◌==◌, ◌&&◌, nat_lt, Bool, true, if◌then◌else◌, List, ◌++◌, drop, length}
use Rattle.std.specs.List.{list_all, flat_map, count_by, sum_by}
use Rattle.dns_keeper.specs.declared.row.Row.{Row}
use Rattle.dns_ticket_world.specs.declared.seat.Seat.{Seat}
use Rattle.dns_ticket_world.specs.Seats.{has_book, has_ended, has_ticket, is_served, seat_at}
use Rattle.dns_ticket_world.specs.Rows.{are_numbered, bears_up_to, places_bearing, places_of}
use Rattle.dns_ticket_world.specs.World.{World}

-- how many tickets there are from one up to, but not including, another
abbrev pub ahead : ℕ → ℕ → ℕ
ahead serving ticket = (ticket + (2 ^ 64 - serving)) % 2 ^ 64

-- a ticket was drawn, and has not been passed
abbrev pub is_out : World → ℕ → Bool
is_out w ticket = nat_lt (ahead w.serving ticket) (ahead w.serving w.next)

-- a seat has this ticket
abbrev pub has_this : ℕ → Seat → Bool
has_this ticket s = has_ticket s.phase && s.ticket == ticket

abbrev pub has_any : Seat → Bool
has_any s = has_ticket s.phase

abbrev pub keeps_book : Seat → Bool
keeps_book s = has_book s.phase

-- the faults of a seat that has not ended
abbrev pub faults_of : Seat → ℕ
faults_of s = if has_ended s.phase then 0 else s.faults

abbrev pub once : Bool → ℕ
once b = if b then 1 else 0

-- rows begin with others
abbrev pub Begins : List Row → List Row → Type 0
Begins before rows = (more : List Row) × (rows ≡ before ++ more)

-- the world keeps these facts; each follows from the start through every list of steps
pub record Holds (w : World) : Type 0 where
  -- numbers are below 2^32, and tickets below 2^64
  pub few : length w.seats < 2 ^ 32
  pub next_fits : w.next < 2 ^ 64
  pub serving_fits : w.serving < 2 ^ 64
  -- one seat has the book where it is not at home, and none where it is
  pub book : count_by keeps_book w.seats ≡ (if w.is_home then 0 else 1)
  -- each ticket from the one that is served up to, but not including, the next one is one seat's, and no other ticket is any seat's
  pub tickets : (ticket : ℕ) → ticket < 2 ^ 64 → count_by (has_this ticket) w.seats ≡ once (is_out w ticket)
  pub tickets_fit : (k : ℕ) → k < length w.seats → (seat_at w.seats k).ticket < 2 ^ 64
  -- as many seats have a ticket as tickets are out
  pub waiting : count_by has_any w.seats ≡ ahead w.serving w.next
  -- a seat whose turn has come has the ticket that is served
  pub turns : (k : ℕ) → k < length w.seats → is_served (seat_at w.seats k).phase ≡ true → (seat_at w.seats k).ticket ≡ w.serving
  -- the rows have the ids from 1 on; the opening ones are the first
  pub ids : are_numbered 0 w.rows ≡ true
  pub opened : w.opening ≤ length w.rows
  -- what a seat has seen is the beginning of the rows
  pub seen : (k : ℕ) → k < length w.seats → (seat_at w.seats k).seen ≤ length w.rows
  -- the rows past the opening ones that bear a seat's number are those of its receipts, at their places, each once
  pub receipts : (k : ℕ) → k < length w.seats → places_bearing (k + 1) w.opening (drop w.opening w.rows) ≡ flat_map places_of (seat_at w.seats k).receipts
  -- a seat's receipts bear its number
  pub clients : (k : ℕ) → k < length w.seats → list_all (λ r. r.client == k + 1) (seat_at w.seats k).receipts ≡ true
  -- the rows past the opening ones bear numbers of seats that were made
  pub made : list_all (bears_up_to (length w.seats)) (drop w.opening w.rows) ≡ true
  -- the faults of the seats that have not ended sum to the world's
  pub faults : sum_by faults_of w.seats ≡ w.faults
