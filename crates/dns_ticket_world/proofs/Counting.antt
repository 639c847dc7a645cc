-- The facts of the world are kept where the seat that has the book counts its batch.
use Rattle.std.proofs.Common.{◌≡◌, ℕ, ◌+◌, ◌-◌, ◌<◌, ◌≤◌, ◌==◌, true, List, ◌++◌, drop, length, flat_map, refl, ap, ◌∙◌, arith}
use Rattle.std.specs.List.{list_all}
use Rattle.std.proofs.lemmas.List.{length-set, length-append}
use Rattle.std.proofs.lemmas.List.Sums.{sum_by-set}
use Rattle.dns_keeper.specs.declared.row.Row.{Row}
use Rattle.dns_ticket_world.specs.declared.seat.Phase.TheVariants.{HasCounted}
use Rattle.dns_ticket_world.specs.declared.seat.Seat.{Seat}
use Rattle.dns_ticket_world.specs.Seats.{is_holding, is_served, no_seat, seat_at}
use Rattle.dns_ticket_world.specs.Rows.{are_numbered, bears, places_bearing, places_of, receipt_for, with_receipt}
use Rattle.dns_ticket_world.specs.World.{World, counted}
use Rattle.dns_ticket_world.specs.Facts.{Holds, has_this, has_any, keeps_book, faults_of, once}
use Rattle.dns_ticket_world.proofs.Tickets.{M}
use Rattle.dns_ticket_world.proofs.SeatLists.{each_set}
use Rattle.dns_ticket_world.proofs.RowPlaces.{still_bears, own_places, own_clients, numbered_append, all_up_to, made_more}
use Rattle.dns_ticket_world.proofs.Phases.{holding_reads, holding_served}
use Rattle.dns_ticket_world.proofs.Turns.{count_set}

abbrev counting : World → ℕ → List Row → ℕ → Seat
counting w k batch faults = record (seat_at w.seats k) {
  phase = HasCounted;
  seen = length (w.rows ++ batch);
  receipts = with_receipt (seat_at w.seats k).receipts (receipt_for (k + 1) (length w.rows) batch);
  faults = (seat_at w.seats k).faults + (faults - w.faults);
}

pub counts : (w : World) (k : ℕ) (batch : List Row) (faults : ℕ) → Holds w → k < length w.seats → is_holding (seat_at w.seats k).phase ≡ true
    → list_all (bears (k + 1)) batch ≡ true → are_numbered (length w.rows) batch ≡ true → w.faults ≤ faults → Holds (counted w k batch faults)
counts w k batch faults h small holding theirs follow above =
    let r = holding_reads (seat_at w.seats k).phase holding in
    let s = counting w k batch faults in
    let same = length-set w.seats k s in
    let longer = length-append w.rows batch in
    let book = count_set keeps_book w.seats k s small in
    let any = count_set has_any w.seats k s small in
    let had_book : once (keeps_book (seat_at w.seats k)) ≡ 1 = rw r.has_it refl in
    let had_ticket : once (has_any (seat_at w.seats k)) ≡ 1 = rw r.has_one refl in
    let old : faults_of (seat_at w.seats k) ≡ (seat_at w.seats k).faults = rw r.stays refl in
    let sum = sum_by-set faults_of w.seats k s no_seat small in
    record {
      few = let f = h.few in omega arith;
      next_fits = h.next_fits;
      serving_fits = h.serving_fits;
      book = let b = h.book in omega arith;
      tickets = λ t fits.
          let this = count_set (has_this t) w.seats k s small in
          let was : has_this t (seat_at w.seats k) ≡ ((seat_at w.seats k).ticket == t) = rw r.has_one refl in
          let as_before : once (has_this t (seat_at w.seats k)) ≡ once (has_this t s) = ap once was in
          let out = h.tickets t fits in
          omega arith;
      tickets_fit = each_set (λ j (x : Seat). x.ticket < M) w.seats k s (h.tickets_fit k small) (λ j n. h.tickets_fit j);
      waiting = let n = h.waiting in omega arith;
      turns = each_set (λ j (x : Seat). is_served x.phase ≡ true → x.ticket ≡ w.serving) w.seats k s
          (λ e. h.turns k small (holding_served (seat_at w.seats k).phase holding)) (λ j n. h.turns j);
      ids = numbered_append 0 w.rows batch h.ids (ap (λ (n : ℕ). are_numbered n batch) (omega arith) ∙ follow);
      opened = let o = h.opened in omega arith;
      seen = each_set (λ j (x : Seat). x.seen ≤ length (w.rows ++ batch)) w.seats k s (omega arith) (λ j n below. let less = h.seen j below in omega arith);
      receipts = each_set (λ j (x : Seat). places_bearing (j + 1) w.opening (drop w.opening (w.rows ++ batch)) ≡ flat_map places_of x.receipts) w.seats k s
          (own_places (k + 1) w.opening w.rows batch (seat_at w.seats k).receipts h.opened theirs (h.receipts k small))
          (λ j n below. still_bears (j + 1) (k + 1) w.opening w.rows batch (λ e. n (omega arith)) h.opened theirs ∙ h.receipts j below);
      clients = each_set (λ j (x : Seat). list_all (λ r. r.client == j + 1) x.receipts ≡ true) w.seats k s
          (own_clients (k + 1) (length w.rows) (seat_at w.seats k).receipts batch (h.clients k small)) (λ j n. h.clients j);
      made = rw same (made_more w.opening (length w.seats) w.rows batch h.opened h.made (all_up_to (k + 1) (length w.seats) batch (omega arith) (omega arith) theirs));
      faults = let f = h.faults in omega arith;
    }
