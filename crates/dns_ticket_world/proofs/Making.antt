-- The facts of the world hold at the start, and are kept where a seat is made and where one joins another.
use Rattle.std.proofs.Common.{◌≡◌, ◌≢◌, ℕ, zero, suc, ◌+◌, ◌-◌, ◌^◌, ◌<◌, ◌≤◌, ◌==◌, Bool, true, cond, max, List, [], ◌∷◌, ◌++◌, set, replicate, drop, length, sum_by, count_by, flat_map, refl, sym, ap, subst, ◌∙◌, arith}
use Rattle.std.specs.Prelude.{nat_lt}
use Rattle.std.specs.List.{list_all}
use Rattle.std.proofs.lemmas.Bool.Decides.{nat_tests}
use Rattle.std.proofs.lemmas.List.{length-set, length_push, length-replicate, get_or-replicate, get_or-set_other, drop_all}
use Rattle.std.proofs.lemmas.List.Sums.{sum_by-set, sum_by_push, sum_by-cons}
use Rattle.dns_keeper.specs.declared.row.Row.{Row}
use Rattle.dns_ticket_world.specs.declared.seat.Phase.TheVariants.{Ended}
use Rattle.dns_ticket_world.specs.declared.seat.Seat.{Seat}
use Rattle.dns_ticket_world.specs.Seats.{is_idle, is_served, new_seat, no_seat, seat_at}
use Rattle.dns_ticket_world.specs.Rows.{are_numbered, places_bearing, places_of}
use Rattle.dns_ticket_world.specs.World.{World, started, divided, joined}
use Rattle.dns_ticket_world.specs.Facts.{Holds, ahead, has_this, has_any, keeps_book, faults_of, once}
use Rattle.dns_ticket_world.proofs.Tickets.{M}
use Rattle.dns_ticket_world.proofs.SeatLists.{each_set, each_push}
use Rattle.dns_ticket_world.proofs.RowPlaces.{made_further, none_above}
use Rattle.dns_ticket_world.proofs.Phases.{idle_reads}
use Rattle.dns_ticket_world.proofs.Turns.{count_set}

count_push : (p : Seat → Bool) (seats : List Seat) (s : Seat) → count_by p (seats ++ s ∷ []) ≡ count_by p seats + once (p s)
count_push p seats s = sum_by_push (λ (x : Seat). cond (p x) 1 0) seats s

-- a seat is made
pub divides : (w : World) (k : ℕ) → Holds w → k < length w.seats → length w.seats < 2 ^ 32 - 1 → Holds (divided w k)
divides w k h small room =
    let s = new_seat (seat_at w.seats k).seen in
    let long = length_push w.seats s in
    let book = count_push keeps_book w.seats s in
    let any = count_push has_any w.seats s in
    let sum = sum_by_push faults_of w.seats s in
    record {
      few = omega arith;
      next_fits = h.next_fits;
      serving_fits = h.serving_fits;
      book = let b = h.book in omega arith;
      tickets = λ t fits. let this = count_push (has_this t) w.seats s in let out = h.tickets t fits in omega arith;
      tickets_fit = each_push (λ j (x : Seat). x.ticket < M) w.seats s (omega arith) h.tickets_fit;
      waiting = let n = h.waiting in omega arith;
      turns = each_push (λ j (x : Seat). is_served x.phase ≡ true → x.ticket ≡ w.serving) w.seats s (λ e. absurd (grind arith)) h.turns;
      ids = h.ids;
      opened = h.opened;
      seen = each_push (λ j (x : Seat). x.seen ≤ length w.rows) w.seats s (h.seen k small) h.seen;
      receipts = each_push (λ j (x : Seat). places_bearing (j + 1) w.opening (drop w.opening w.rows) ≡ flat_map places_of x.receipts) w.seats s
          (none_above (length w.seats) w.opening (drop w.opening w.rows) h.made) h.receipts;
      clients = each_push (λ j (x : Seat). list_all (λ r. r.client == j + 1) x.receipts ≡ true) w.seats s refl h.clients;
      made = rw long (made_further (length w.seats) (drop w.opening w.rows) h.made);
      faults = let f = h.faults in omega arith;
    }

abbrev ending : World → ℕ → Seat
ending w other = record (seat_at w.seats other) { phase = Ended }

abbrev joining : World → ℕ → ℕ → Seat
joining w k other = record (seat_at w.seats k) {
  seen = max (seat_at w.seats k).seen (seat_at w.seats other).seen;
  faults = (seat_at w.seats k).faults + (seat_at w.seats other).faults;
}

-- a seat takes another in, which ends
pub joins : (w : World) (k other : ℕ) → Holds w → k ≢ other → k < length w.seats → other < length w.seats
    → is_idle (seat_at w.seats k).phase ≡ true → is_idle (seat_at w.seats other).phase ≡ true → Holds (joined w k other)
joins w k other h apart small small2 idle idle2 =
    let r = idle_reads (seat_at w.seats k).phase idle in
    let q = idle_reads (seat_at w.seats other).phase idle2 in
    let s = joining w k other in
    let e = ending w other in
    let mid = set w.seats other e in
    let within : k < length mid = omega (arith, length-set w.seats other e) in
    let as_was : seat_at mid k ≡ seat_at w.seats k = get_or-set_other w.seats other k e no_seat apart in
    let same : length (set mid k s) ≡ length w.seats = length-set mid k s ∙ length-set w.seats other e in
    let counted_as : (p : Seat → Bool) → once (p (seat_at w.seats k)) ≡ once (p s) → once (p (seat_at w.seats other)) ≡ once (p e) → count_by p (set mid k s) ≡ count_by p w.seats =
    λ p mine theirs.
    let first = count_set p w.seats other e small2 in
    let second = count_set p mid k s within in
    let was : once (p (seat_at mid k)) ≡ once (p (seat_at w.seats k)) = ap (λ (x : Seat). once (p x)) as_was in
    omega arith in
    let each : (P : ℕ → Seat → Type 0) → P k s → P other e → ((j : ℕ) → j < length w.seats → P j (seat_at w.seats j)) → (j : ℕ) → j < length (set mid k s) → P j (seat_at (set mid k s) j) =
    λ P mine theirs all. each_set P mid k s mine (λ j n below. each_set P w.seats other e theirs (λ i m. all i) j below) in
    let sum_first = sum_by-set faults_of w.seats other e no_seat small2 in
    let sum_then = sum_by-set faults_of mid k s no_seat within in
    let was : faults_of (seat_at mid k) ≡ (seat_at w.seats k).faults = ap faults_of as_was ∙ rw r.stays refl in
    let theirs : faults_of (seat_at w.seats other) ≡ (seat_at w.seats other).faults = rw q.stays refl in
    let both : faults_of s ≡ (seat_at w.seats k).faults + (seat_at w.seats other).faults = rw r.stays refl in
    record {
      few = let f = h.few in omega arith;
      next_fits = h.next_fits;
      serving_fits = h.serving_fits;
      book = counted_as keeps_book refl (rw q.has_it refl) ∙ h.book;
      tickets = λ t fits. counted_as (has_this t) refl (rw q.has_one refl) ∙ h.tickets t fits;
      tickets_fit = each (λ j (x : Seat). x.ticket < M) (h.tickets_fit k small) (h.tickets_fit other small2) h.tickets_fit;
      waiting = counted_as has_any refl (rw q.has_one refl) ∙ h.waiting;
      turns = each (λ j (x : Seat). is_served x.phase ≡ true → x.ticket ≡ w.serving) (h.turns k small) (λ is. absurd (grind arith)) h.turns;
      ids = h.ids;
      opened = h.opened;
      seen = each (λ j (x : Seat). x.seen ≤ length w.rows) (let a = h.seen k small in let b = h.seen other small2 in omega arith) (h.seen other small2) h.seen;
      receipts = each (λ j (x : Seat). places_bearing (j + 1) w.opening (drop w.opening w.rows) ≡ flat_map places_of x.receipts) (h.receipts k small) (h.receipts other small2) h.receipts;
      clients = each (λ j (x : Seat). list_all (λ r. r.client == j + 1) x.receipts ≡ true) (h.clients k small) (h.clients other small2) h.clients;
      made = rw same h.made;
      faults = let f = h.faults in omega arith;
    }

sum_alike : (f : Seat → ℕ) (n : ℕ) (s : Seat) → f s ≡ 0 → sum_by f (replicate n s) ≡ 0
sum_alike f zero s none = refl
sum_alike f (suc n) s none = let rest = sum_alike f n s none in let cons = sum_by-cons f s (replicate n s) in omega arith

all_alike : (P : ℕ → Seat → Type 0) (n : ℕ) (s : Seat) → ((j : ℕ) → P j s) → (j : ℕ) → j < length (replicate n s) → P j (seat_at (replicate n s) j)
all_alike P n s mine j small = subst (P j) (sym (get_or-replicate n j s no_seat (let is = length-replicate n s in omega arith))) (mine j)

-- the start
pub starts : (n : ℕ) (rows : List Row) → n ≤ 1024 → are_numbered 0 rows ≡ true → Holds (started n rows)
starts n rows few ids =
    let s = new_seat (length rows) in
    let past : drop (length rows) rows ≡ [] = drop_all (length rows) rows (omega arith) in
    record {
      few = let is = length-replicate n s in omega arith;
      next_fits = omega arith;
      serving_fits = omega arith;
      book = sum_alike (λ (x : Seat). cond (keeps_book x) 1 0) n s refl;
      tickets = λ t fits. sum_alike (λ (x : Seat). cond (has_this t x) 1 0) n s refl ∙ sym (none_out t);
      tickets_fit = all_alike (λ j (x : Seat). x.ticket < M) n s (λ j. omega arith);
      waiting = sum_alike (λ (x : Seat). cond (has_any x) 1 0) n s refl;
      turns = all_alike (λ j (x : Seat). is_served x.phase ≡ true → x.ticket ≡ 0) n s (λ j e. refl);
      ids = ids;
      opened = omega arith;
      seen = all_alike (λ j (x : Seat). x.seen ≤ length rows) n s (λ j. omega arith);
      receipts = all_alike (λ j (x : Seat). places_bearing (j + 1) (length rows) (drop (length rows) rows) ≡ flat_map places_of x.receipts) n s (λ j. rw past refl);
      clients = all_alike (λ j (x : Seat). list_all (λ r. r.client == j + 1) x.receipts ≡ true) n s (λ j. refl);
      made = rw past refl;
      faults = sum_alike faults_of n s refl;
    }
  where
    none_out : (t : ℕ) → once (nat_lt (ahead 0 t) (ahead 0 0)) ≡ 0
    none_out t = not_below (ahead 0 t) (ahead 0 0) (omega arith)
      where
        not_below : (a b : ℕ) → b ≤ a → once (nat_lt a b) ≡ 0
        not_below a b le = grind (arith, nat_tests)
