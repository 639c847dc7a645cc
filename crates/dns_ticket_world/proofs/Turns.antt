-- The facts of the world are kept where one seat moves on.
use Rattle.std.proofs.Common.{◌≡◌, ◌≢◌, ℕ, ◌+◌, ◌%◌, ◌^◌, ◌<◌, ◌≤◌, ◌==◌, Bool, true, false, cond, List, set, drop, length, count_by, flat_map, refl, sym, ap, ◌∙◌, arith}
use Rattle.std.specs.Prelude.{nat_lt, if◌then◌else◌}
use Rattle.std.specs.List.{list_all}
use Rattle.std.proofs.lemmas.Bool.Decides.{nat_tests}
use Rattle.std.proofs.lemmas.List.{length-set}
use Rattle.std.proofs.lemmas.List.Sums.{sum_by-set, get_or-le-sum_by, count_by-le-length}
use Rattle.dns_ticket_world.specs.declared.seat.Phase.{Phase}
use Rattle.dns_ticket_world.specs.declared.seat.Phase.TheVariants.{Idle, Waiting, HasTurn, Holding, HasGiven}
use Rattle.dns_ticket_world.specs.declared.seat.Seat.{Seat}
use Rattle.dns_ticket_world.specs.Seats.{is_idle, may_take, has_counted, has_given, has_ended, has_ticket, is_served, no_seat, seat_at}
use Rattle.dns_ticket_world.specs.Rows.{places_bearing, places_of}
use Rattle.dns_ticket_world.specs.World.{World, drawn, looked, taken, given, passed}
use Rattle.dns_ticket_world.specs.Facts.{Holds, ahead, is_out, has_this, has_any, keeps_book, faults_of, once}
use Rattle.dns_ticket_world.proofs.Tickets.{M, further, nearer, drawn_out, passed_out}
use Rattle.dns_ticket_world.proofs.SeatLists.{each_set, two_count}
use Rattle.dns_ticket_world.proofs.Phases.{idle_reads, taking_reads, counted_reads, given_reads, counted_served, given_served, served_has_one}

abbrev pub moved : World → ℕ → Phase → ℕ → Seat
moved w k phase ticket = record (seat_at w.seats k) { phase = phase; ticket = ticket }

abbrev pub moved_in : World → ℕ → Phase → ℕ → List Seat
moved_in w k phase ticket = set w.seats k (moved w k phase ticket)

-- a count after a change of one seat
pub count_set : (p : Seat → Bool) (seats : List Seat) (k : ℕ) (s : Seat) → k < length seats → count_by p (set seats k s) + once (p (seat_at seats k)) ≡ count_by p seats + once (p s)
count_set p seats k s small = sum_by-set (λ (x : Seat). cond (p x) 1 0) seats k s no_seat small

-- no more tickets are out than there are seats
pub few_out : (w : World) → Holds w → ahead w.serving w.next < 2 ^ 32
few_out w h = let is = h.waiting in let few = h.few in omega (arith, count_by-le-length has_any w.seats)

-- a seat that is counted
counted_at : (p : Seat → Bool) (seats : List Seat) (k : ℕ) → k < length seats → p (seat_at seats k) ≡ true → 0 < count_by p seats
counted_at p seats k small is =
    let one : once (p (seat_at seats k)) ≡ 1 = ap once is in
    let less : once (p (seat_at seats k)) ≤ count_by p seats = get_or-le-sum_by (λ (x : Seat). cond (p x) 1 0) seats k no_seat small in
    omega arith

at_most_once : (b : Bool) → once b ≤ 1
at_most_once true = omega arith
at_most_once false = omega arith

at_most_one : (b : Bool) → (if b then 0 else 1) ≤ 1
at_most_one true = omega arith
at_most_one false = omega arith

-- all facts, from those on tickets and the book
moves : (w : World) (k next serving : ℕ) (home : Bool) (phase : Phase) (ticket : ℕ) → Holds w → k < length w.seats
    → has_ended (seat_at w.seats k).phase ≡ false → has_ended phase ≡ false
    → next < M → serving < M → ticket < M
    → count_by keeps_book (moved_in w k phase ticket) ≡ (if home then 0 else 1)
    → ((t : ℕ) → t < M → count_by (has_this t) (moved_in w k phase ticket) ≡ once (nat_lt (ahead serving t) (ahead serving next)))
    → count_by has_any (moved_in w k phase ticket) ≡ ahead serving next
    → ((j : ℕ) → j ≢ k → j < length w.seats → is_served (seat_at w.seats j).phase ≡ true → (seat_at w.seats j).ticket ≡ serving)
    → (is_served phase ≡ true → ticket ≡ serving)
    → Holds (record w { next = next; serving = serving; is_home = home; seats = moved_in w k phase ticket })
moves w k next serving home phase ticket h small was now next_fits serving_fits ticket_fits book tickets waiting others mine =
    let s = moved w k phase ticket in
    let same = length-set w.seats k s in
    let old : faults_of (seat_at w.seats k) ≡ (seat_at w.seats k).faults = rw was refl in
    let new : faults_of s ≡ (seat_at w.seats k).faults = rw now refl in
    let sum = sum_by-set faults_of w.seats k s no_seat small in
    record {
      few = let f = h.few in omega arith;
      next_fits = next_fits;
      serving_fits = serving_fits;
      book = book;
      tickets = tickets;
      tickets_fit = each_set (λ j (x : Seat). x.ticket < M) w.seats k s ticket_fits (λ j n. h.tickets_fit j);
      waiting = waiting;
      turns = each_set (λ j (x : Seat). is_served x.phase ≡ true → x.ticket ≡ serving) w.seats k s mine others;
      ids = h.ids;
      opened = h.opened;
      seen = each_set (λ j (x : Seat). x.seen ≤ length w.rows) w.seats k s (h.seen k small) (λ j n. h.seen j);
      receipts = each_set (λ j (x : Seat). places_bearing (j + 1) w.opening (drop w.opening w.rows) ≡ flat_map places_of x.receipts) w.seats k s (h.receipts k small) (λ j n. h.receipts j);
      clients = each_set (λ j (x : Seat). list_all (λ r. r.client == j + 1) x.receipts ≡ true) w.seats k s (h.clients k small) (λ j n. h.clients j);
      made = rw same h.made;
      faults = let f = h.faults in omega arith;
    }

-- a seat draws a ticket
pub draws : (w : World) (k : ℕ) → Holds w → k < length w.seats → is_idle (seat_at w.seats k).phase ≡ true → Holds (drawn w k)
draws w k h small idle =
    let r = idle_reads (seat_at w.seats k).phase idle in
    let s = moved w k Waiting w.next in
    let few = few_out w h in
    let next_fits = h.next_fits in
    let book = count_set keeps_book w.seats k s small in
    let any = count_set has_any w.seats k s small in
    let no_book : once (keeps_book (seat_at w.seats k)) ≡ 0 = rw r.has_it refl in
    let no_ticket : once (has_any (seat_at w.seats k)) ≡ 0 = rw r.has_one refl in
    moves w k ((w.next + 1) % M) w.serving w.is_home Waiting w.next h small r.stays refl (omega arith) h.serving_fits h.next_fits
    (let b = h.book in omega arith)
    (λ t fits.
    let this = count_set (has_this t) w.seats k s small in
    let none : once (has_this t (seat_at w.seats k)) ≡ 0 = rw r.has_one refl in
    let was = h.tickets t fits in
    let out = drawn_out w.serving w.next t h.serving_fits h.next_fits fits few in
    omega arith)
    (let is = h.waiting in omega (arith, further w.serving w.next h.serving_fits h.next_fits few))
    (λ j n. h.turns j)
    (λ e. absurd (grind arith))

-- a seat that has a ticket goes on with it, and the home stays as it is where it does as before
stays_out : (w : World) (k : ℕ) (phase : Phase) (home : Bool) → Holds w → k < length w.seats → has_ticket (seat_at w.seats k).phase ≡ true → has_ended (seat_at w.seats k).phase ≡ false
    → has_ticket phase ≡ true → has_ended phase ≡ false
    → count_by keeps_book (moved_in w k phase (seat_at w.seats k).ticket) ≡ (if home then 0 else 1)
    → (is_served phase ≡ true → (seat_at w.seats k).ticket ≡ w.serving)
    → Holds (record w { is_home = home; seats = moved_in w k phase (seat_at w.seats k).ticket })
stays_out w k phase home h small had was has now book mine =
    let s = moved w k phase (seat_at w.seats k).ticket in
    let any = count_set has_any w.seats k s small in
    let one : once (has_any (seat_at w.seats k)) ≡ 1 = rw had refl in
    let same : once (has_any s) ≡ 1 = rw has refl in
    moves w k w.next w.serving home phase (seat_at w.seats k).ticket h small was now h.next_fits h.serving_fits (h.tickets_fit k small) book
    (λ t fits.
    let this = count_set (has_this t) w.seats k s small in
    let old : has_this t (seat_at w.seats k) ≡ ((seat_at w.seats k).ticket == t) = rw had refl in
    let new : has_this t s ≡ ((seat_at w.seats k).ticket == t) = rw has refl in
    let as_before : once (has_this t (seat_at w.seats k)) ≡ once (has_this t s) = ap once (old ∙ sym new) in
    let out = h.tickets t fits in
    omega arith)
    (let is = h.waiting in omega arith)
    (λ j n. h.turns j)
    mine

-- a seat looks whether it is its turn
pub looks : (w : World) (k : ℕ) → Holds w → k < length w.seats → may_take (seat_at w.seats k).phase ≡ true → Holds (looked w k)
looks w k h small may = by_test ((seat_at w.seats k).ticket == w.serving) refl
  where
    by_test : (b : Bool) → ((seat_at w.seats k).ticket == w.serving) ≡ b → Holds (looked w k)
    by_test false is = rw is h
    by_test true is =
        let r = taking_reads (seat_at w.seats k).phase may in
        let s = moved w k HasTurn (seat_at w.seats k).ticket in
        let book = count_set keeps_book w.seats k s small in
        let no_book : once (keeps_book (seat_at w.seats k)) ≡ 0 = rw r.has_it refl in
        rw is (stays_out w k HasTurn w.is_home h small r.has_one r.stays refl refl (let b = h.book in omega arith) (λ e. grind (arith, nat_tests)))

-- the seat whose turn it is takes the book
pub takes : (w : World) (k : ℕ) → Holds w → k < length w.seats → may_take (seat_at w.seats k).phase ≡ true → ((seat_at w.seats k).ticket == w.serving) ≡ true → w.is_home ≡ true → Holds (taken w k)
takes w k h small may turn home =
    let r = taking_reads (seat_at w.seats k).phase may in
    let s = moved w k Holding (seat_at w.seats k).ticket in
    let book = count_set keeps_book w.seats k s small in
    let no_book : once (keeps_book (seat_at w.seats k)) ≡ 0 = rw r.has_it refl in
    let none : count_by keeps_book w.seats ≡ 0 = h.book ∙ ap (λ (b : Bool). if b then 0 else 1) home in
    stays_out w k Holding false h small r.has_one r.stays refl refl (omega arith) (λ e. grind (arith, nat_tests))

-- the seat that has counted gives the book back
pub gives : (w : World) (k : ℕ) → Holds w → k < length w.seats → has_counted (seat_at w.seats k).phase ≡ true → Holds (given w k)
gives w k h small is =
    let r = counted_reads (seat_at w.seats k).phase is in
    let s = moved w k HasGiven (seat_at w.seats k).ticket in
    let book = count_set keeps_book w.seats k s small in
    let had : once (keeps_book (seat_at w.seats k)) ≡ 1 = rw r.has_it refl in
    stays_out w k HasGiven true h small r.has_one r.stays refl refl
    (let b = h.book in let most : (if w.is_home then 0 else 1) ≤ 1 = at_most_one w.is_home in omega arith)
    (λ e. h.turns k small (counted_served (seat_at w.seats k).phase is))

-- the seat that has given lets the next ticket be served
pub passes : (w : World) (k : ℕ) → Holds w → k < length w.seats → has_given (seat_at w.seats k).phase ≡ true → Holds (passed w k)
passes w k h small is =
    let r = given_reads (seat_at w.seats k).phase is in
    let ticket = h.turns k small (given_served (seat_at w.seats k).phase is) in
    let s = moved w k Idle (seat_at w.seats k).ticket in
    let book = count_set keeps_book w.seats k s small in
    let any = count_set has_any w.seats k s small in
    let no_book : once (keeps_book (seat_at w.seats k)) ≡ 0 = rw r.has_it refl in
    let had : once (has_any (seat_at w.seats k)) ≡ 1 = rw r.has_one refl in
    let is_any : has_any (seat_at w.seats k) ≡ true = r.has_one in
    let some_out : 0 < ahead w.serving w.next = let n = h.waiting in omega (arith, counted_at has_any w.seats k small is_any) in
    let serving_fits = h.serving_fits in
    moves w k w.next ((w.serving + 1) % M) w.is_home Idle (seat_at w.seats k).ticket h small r.stays refl h.next_fits (omega arith) (h.tickets_fit k small)
    (let b = h.book in omega arith)
    (λ t fits.
    let this = count_set (has_this t) w.seats k s small in
    let old : has_this t (seat_at w.seats k) ≡ (w.serving == t) = rw (r.has_one, ticket) refl in
    let one : once (has_this t (seat_at w.seats k)) ≡ once (w.serving == t) = ap once old in
    let was = h.tickets t fits in
    let out = passed_out w.serving w.next t h.serving_fits h.next_fits fits some_out in
    omega arith)
    (let n = h.waiting in omega (arith, nearer w.serving w.next h.serving_fits h.next_fits some_out))
    (λ j n small2 served. absurd (alone j n small2 served ticket r.has_one))
    (λ e. absurd (grind arith))
  where
    -- no other seat has the ticket that is served
    alone : (j : ℕ) → j ≢ k → j < length w.seats → is_served (seat_at w.seats j).phase ≡ true → (seat_at w.seats k).ticket ≡ w.serving → has_ticket (seat_at w.seats k).phase ≡ true → ⊥
    alone j n small2 served mine has =
        let same : (w.serving == w.serving) ≡ true = grind (arith, nat_tests) in
        let other : has_this w.serving (seat_at w.seats j) ≡ true = rw (served_has_one (seat_at w.seats j).phase served, h.turns j small2 served) same in
        let this : has_this w.serving (seat_at w.seats k) ≡ true = rw (has, mine) same in
        let two = two_count (has_this w.serving) w.seats j k refl n small2 small other this in
        let most : once (is_out w w.serving) ≤ 1 = at_most_once (is_out w w.serving) in
        let was = h.tickets w.serving h.serving_fits in
        omega arith
