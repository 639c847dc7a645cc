-- The faults of seats fit those of the world, and a count is its two halves.
use Rattle.std.proofs.Common.{◌≡◌, ◌≢◌, ℕ, ◌+◌, ◌-◌, ◌<◌, ◌≤◌, ◌==◌, ◌&&◌, not, Bool, true, false, List, ◌++◌, set, length, Option, refl, sym, ap, ◌∙◌, arith}
use Rattle.std.specs.Prelude.{nat_le}
use Rattle.std.specs.List.{list_all}
use Rattle.std.proofs.lemmas.Bool.Decides.{nat_tests}
use Rattle.std.proofs.lemmas.List.{length-set, set-set, get_or-set_same, get_or-set_other}
use Rattle.std.proofs.lemmas.List.Sums.{sum_by-set, get_or-le-sum_by}
use Rattle.dns_keeper.specs.declared.row.Row.{Row}
use Rattle.dns_ticket_world.specs.declared.receipt.Receipt.{Receipt}
use Rattle.dns_ticket_world.specs.declared.seat.Phase.TheVariants.{HasCounted}
use Rattle.dns_ticket_world.specs.declared.seat.Seat.{Seat}
use Rattle.dns_ticket_world.specs.declared.step.Step.TheVariants.{Count, Join}
use Rattle.dns_ticket_world.specs.Seats.{is_idle, is_holding, no_seat, seat_at, seat_of}
use Rattle.dns_ticket_world.specs.Rows.{are_numbered, bears, receipt_for, with_receipt}
use Rattle.dns_ticket_world.specs.World.{World, is_allowed, counted}
use Rattle.dns_ticket_world.specs.Changes.{with_batch, settled}
use Rattle.dns_ticket_world.specs.Facts.{Holds, faults_of}
use Rattle.dns_ticket_world.proofs.RowPlaces.{both}
use Rattle.dns_ticket_world.proofs.Phases.{idle_reads, holding_reads}
use Rattle.dns_ticket_world.proofs.MadeSeats.{stands}

-- two seats have no more faults than the world
two_faults : (w : World) (k other : ℕ) → Holds w → k ≢ other → k < length w.seats → other < length w.seats → faults_of (seat_at w.seats k) + faults_of (seat_at w.seats other) ≤ w.faults
two_faults w k other h apart small small2 =
    let fewer = sum_by-set faults_of w.seats k no_seat no_seat small in
    let as_was : faults_of (seat_at (set w.seats k no_seat) other) ≡ faults_of (seat_at w.seats other) = ap faults_of (get_or-set_other w.seats k other no_seat no_seat (λ e. apart (sym e))) in
    let some = get_or-le-sum_by faults_of (set w.seats k no_seat) other no_seat (omega (arith, length-set w.seats k no_seat)) in
    let sum = h.faults in
    omega arith

apart_by : (a b : ℕ) → not (a == b) ≡ true → a ≢ b
apart_by a b e same = by_test (a == b) refl e
  where
    by_test : (t : Bool) → (a == b) ≡ t → not t ≡ true → ⊥
    by_test true is f = absurd (grind arith)
    by_test false is f = absurd (grind (arith, nat_tests))

pub joined_faults : (w : World) (n other : ℕ) → Holds w → is_allowed w (Join n other) ≡ true → (seat_at w.seats (n - 1)).faults + (seat_at w.seats (other - 1)).faults ≤ w.faults
joined_faults w n other h e =
    let one = both (n == 1) (not (n == other) && (is_idle (seat_of w.seats n).phase && is_idle (seat_of w.seats other).phase)) e in
    let two = both (not (n == other)) (is_idle (seat_of w.seats n).phase && is_idle (seat_of w.seats other).phase) one.1 in
    let three = both (is_idle (seat_of w.seats n).phase) (is_idle (seat_of w.seats other).phase) two.1 in
    let at = stands is_idle w.seats n refl three.0 in
    let bt = stands is_idle w.seats other refl three.1 in
    let r = idle_reads (seat_at w.seats (n - 1)).phase at.phase in
    let q = idle_reads (seat_at w.seats (other - 1)).phase bt.phase in
    let mine : faults_of (seat_at w.seats (n - 1)) ≡ (seat_at w.seats (n - 1)).faults = rw r.stays refl in
    let theirs : faults_of (seat_at w.seats (other - 1)) ≡ (seat_at w.seats (other - 1)).faults = rw q.stays refl in
    let apart : n - 1 ≢ other - 1 = λ same. apart_by n other two.0 (let a = at.some in let b = bt.some in omega arith) in
    let less = two_faults w (n - 1) (other - 1) h apart at.within bt.within in
    omega arith

most_by : (a b : ℕ) → nat_le a b ≡ true → a ≤ b
most_by a b e = grind (arith, nat_tests)

pub counted_faults : (w : World) (n : ℕ) (batch : List Row) (receipt : Option Receipt) (faults : ℕ) → Holds w → is_allowed w (Count n batch faults) ≡ true
    → (seat_at (with_batch w (n - 1) batch receipt).seats (n - 1)).faults + (faults - w.faults) ≤ faults
counted_faults w n batch receipt faults h e =
    let one = both (is_holding (seat_of w.seats n).phase) (list_all (bears n) batch && (are_numbered (length w.rows) batch && nat_le w.faults faults)) e in
    let two = both (list_all (bears n) batch) (are_numbered (length w.rows) batch && nat_le w.faults faults) one.1 in
    let three = both (are_numbered (length w.rows) batch) (nat_le w.faults faults) two.1 in
    let at = stands is_holding w.seats n refl one.0 in
    let r = holding_reads (seat_at w.seats (n - 1)).phase at.phase in
    let mine : faults_of (seat_at w.seats (n - 1)) ≡ (seat_at w.seats (n - 1)).faults = rw r.stays refl in
    let less = get_or-le-sum_by faults_of w.seats (n - 1) no_seat at.within in
    let s : Seat = record (seat_at w.seats (n - 1)) { receipts = with_receipt (seat_at w.seats (n - 1)).receipts receipt } in
    let now : (seat_at (set w.seats (n - 1) s) (n - 1)).faults ≡ (seat_at w.seats (n - 1)).faults = ap (λ (x : Seat). x.faults) (get_or-set_same w.seats (n - 1) s no_seat at.within) in
    let sum = h.faults in
    let above = most_by w.faults faults three.1 in
    omega arith

-- a count is its two halves
pub halves : (w : World) (n : ℕ) (batch : List Row) (receipt : Option Receipt) (faults : ℕ) → is_allowed w (Count n batch faults) ≡ true
    → (are_numbered (length w.rows) batch ≡ true → receipt ≡ receipt_for n (length w.rows) batch)
    → settled (with_batch w (n - 1) batch receipt) (n - 1) faults ≡ counted w (n - 1) batch faults
halves w n batch receipt faults e given =
    let one = both (is_holding (seat_of w.seats n).phase) (list_all (bears n) batch && (are_numbered (length w.rows) batch && nat_le w.faults faults)) e in
    let two = both (list_all (bears n) batch) (are_numbered (length w.rows) batch && nat_le w.faults faults) one.1 in
    let three = both (are_numbered (length w.rows) batch) (nat_le w.faults faults) two.1 in
    let at = stands is_holding w.seats n refl one.0 in
    let back : n ≡ n - 1 + 1 = let some = at.some in omega arith in
    let is : receipt ≡ receipt_for (n - 1 + 1) (length w.rows) batch = given three.0 ∙ ap (λ (m : ℕ). receipt_for m (length w.rows) batch) back in
    let k = n - 1 in
    let s : Seat = record (seat_at w.seats k) { receipts = with_receipt (seat_at w.seats k).receipts receipt } in
    let same : seat_at (set w.seats k s) k ≡ s = get_or-set_same w.seats k s no_seat at.within in
    let end : Seat → Option Receipt → Seat = λ x one. record x { phase = HasCounted; seen = length (w.rows ++ batch); receipts = with_receipt (seat_at w.seats k).receipts one; faults = (seat_at w.seats k).faults + (faults - w.faults) } in
    let turn : Seat → Seat = λ x. record x { phase = HasCounted; seen = length (w.rows ++ batch); faults = x.faults + (faults - w.faults) } in
    ap (λ (x : Seat). record w { rows = w.rows ++ batch; faults = faults; seats = set (set w.seats k s) k (turn x) }) same
    ∙ (ap (λ (l : List Seat). record w { rows = w.rows ++ batch; faults = faults; seats = l }) (set-set w.seats k s (turn s))
    ∙ ap (λ (o : Option Receipt). record w { rows = w.rows ++ batch; faults = faults; seats = set w.seats k (end (seat_at w.seats k) o) }) is)
