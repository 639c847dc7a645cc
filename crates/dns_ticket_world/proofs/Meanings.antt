-- What the facts say of single seats, tickets and rows.
use Rattle.std.proofs.Common.{◌≡◌, ◌↔◌, ⊎_elim, ℕ, suc, ◌+◌, ◌-◌, ◌^◌, ◌<◌, ◌≤◌, ◌==◌, Bool, true, false, cond, List, [], ◌∷◌, ◌++◌, length, count_by, refl, sym, ap, ◌∙◌, arith}
use Rattle.std.specs.Prelude.{if◌then◌else◌}
use Rattle.std.proofs.lemmas.Bool.{cases_eq}
use Rattle.std.proofs.lemmas.Bool.Decides.{nat_tests}
use Rattle.std.proofs.lemmas.List.{append-nil, append_assoc}
use Rattle.std.proofs.lemmas.List.Sums.{sum_by-cons, get_or-le-sum_by}
use Rattle.dns_keeper.specs.declared.row.Row.{Row}
use Rattle.dns_ticket_world.specs.declared.seat.Seat.{Seat}
use Rattle.dns_ticket_world.specs.declared.step.Step.{Step}
use Rattle.dns_ticket_world.specs.declared.step.Step.TheVariants.{Draw, Look, Take, Give, Pass, Split, Count, Join}
use Rattle.dns_ticket_world.specs.Seats.{has_book, has_ticket, no_seat, seat_at}
use Rattle.dns_ticket_world.specs.World.{World, is_allowed, stepped, looked, after, after_all}
use Rattle.dns_ticket_world.specs.Facts.{Holds, is_out, has_this, keeps_book, once, Begins}
use Rattle.dns_ticket_world.proofs.SeatLists.{two_count}

-- where nothing is counted, no seat passes
none_passes : (p : Seat → Bool) (seats : List Seat) (k : ℕ) → k < length seats → count_by p seats ≡ 0 → p (seat_at seats k) ≡ false
none_passes p seats k small none = by_test (p (seat_at seats k)) refl
  where
    by_test : (b : Bool) → p (seat_at seats k) ≡ b → p (seat_at seats k) ≡ false
    by_test false e = e
    by_test true e =
        let one : once (p (seat_at seats k)) ≡ 1 = ap once e in
        let less : once (p (seat_at seats k)) ≤ count_by p seats = get_or-le-sum_by (λ (x : Seat). cond (p x) 1 0) seats k no_seat small in
        absurd (omega arith)

-- where no seat passes, nothing is counted
none_counted : (p : Seat → Bool) (seats : List Seat) → ((k : ℕ) → k < length seats → p (seat_at seats k) ≡ false) → count_by p seats ≡ 0
none_counted p [] none = refl
none_counted p (s ∷ seats) none =
    let first : once (p s) ≡ 0 = ap once (none 0 (omega arith)) in
    let rest = none_counted p seats (λ k small. none (suc k) (omega arith)) in
    let sum : count_by p (s ∷ seats) ≡ once (p s) + count_by p seats = sum_by-cons (λ (x : Seat). cond (p x) 1 0) s seats in
    omega arith

-- where something is counted, a seat passes
some_passes : (p : Seat → Bool) (seats : List Seat) → 0 < count_by p seats → (k : ℕ) × (k < length seats) × (p (seat_at seats k) ≡ true)
some_passes p [] some = absurd (omega arith)
some_passes p (s ∷ seats) some = by_test (λ more. some_passes p seats more) (p s) refl
  where
    by_test : (0 < count_by p seats → (k : ℕ) × (k < length seats) × (p (seat_at seats k) ≡ true)) → (b : Bool) → p s ≡ b → (k : ℕ) × (k < length (s ∷ seats)) × (p (seat_at (s ∷ seats) k) ≡ true)
    by_test rest true e = (0, omega arith, e)
    by_test rest false e =
        let first : once (p s) ≡ 0 = ap once e in
        let sum : count_by p (s ∷ seats) ≡ once (p s) + count_by p seats = sum_by-cons (λ (x : Seat). cond (p x) 1 0) s seats in
        let later = rest (omega arith) in
        (suc later.0, (let small = later.1 in omega arith), later.2)

at_most_once : (b : Bool) → once b ≤ 1
at_most_once true = omega arith
at_most_once false = omega arith

at_most_one : (b : Bool) → (if b then 0 else 1) ≤ 1
at_most_one true = omega arith
at_most_one false = omega arith

pub alone : (w : World) (i j : ℕ) → Holds w → i < length w.seats → j < length w.seats → has_book (seat_at w.seats i).phase ≡ true → has_book (seat_at w.seats j).phase ≡ true → i ≡ j
alone w i j h small small2 one two = ⊎_elim (λ same. same)
    (λ apart.
    let both = two_count keeps_book w.seats i j refl apart small small2 one two in
    let most : (if w.is_home then 0 else 1) ≤ 1 = at_most_one w.is_home in
    let book = h.book in
    absurd (omega arith))
    (cases_eq i j)

pub home : (w : World) → Holds w → (w.is_home ≡ true) ↔ ((k : ℕ) → k < length w.seats → has_book (seat_at w.seats k).phase ≡ false)
home w h = (λ e k small. none_passes keeps_book w.seats k small (h.book ∙ ap (λ (b : Bool). if b then 0 else 1) e), λ none. by_test w.is_home refl (none_counted keeps_book w.seats none))
  where
    by_test : (b : Bool) → w.is_home ≡ b → count_by keeps_book w.seats ≡ 0 → w.is_home ≡ true
    by_test true e none = e
    by_test false e none = let one : count_by keeps_book w.seats ≡ 1 = h.book ∙ ap (λ (b : Bool). if b then 0 else 1) e in absurd (omega arith)

this_one : (w : World) (k : ℕ) → has_ticket (seat_at w.seats k).phase ≡ true → has_this (seat_at w.seats k).ticket (seat_at w.seats k) ≡ true
this_one w k has = let same : ((seat_at w.seats k).ticket == (seat_at w.seats k).ticket) ≡ true = grind (arith, nat_tests) in rw has same

pub ticket_out : (w : World) (k : ℕ) → Holds w → k < length w.seats → has_ticket (seat_at w.seats k).phase ≡ true → is_out w (seat_at w.seats k).ticket ≡ true
ticket_out w k h small has = by_test (is_out w (seat_at w.seats k).ticket) refl
  where
    by_test : (b : Bool) → is_out w (seat_at w.seats k).ticket ≡ b → is_out w (seat_at w.seats k).ticket ≡ true
    by_test true e = e
    by_test false e =
        let none : count_by (has_this (seat_at w.seats k).ticket) w.seats ≡ 0 = h.tickets (seat_at w.seats k).ticket (h.tickets_fit k small) ∙ ap once e in
        let not = none_passes (has_this (seat_at w.seats k).ticket) w.seats k small none in
        let yes = this_one w k has in
        absurd (grind arith)

pub one_ticket : (w : World) (i j : ℕ) → Holds w → i < length w.seats → j < length w.seats → has_ticket (seat_at w.seats i).phase ≡ true → has_ticket (seat_at w.seats j).phase ≡ true
    → (seat_at w.seats i).ticket ≡ (seat_at w.seats j).ticket → i ≡ j
one_ticket w i j h small small2 one two same = ⊎_elim (λ is. is)
    (λ apart.
    let t = (seat_at w.seats i).ticket in
    let other : has_this t (seat_at w.seats j) ≡ true = ap (λ (n : ℕ). has_this n (seat_at w.seats j)) same ∙ this_one w j two in
    let both = two_count (has_this t) w.seats i j refl apart small small2 (this_one w i one) other in
    let most = at_most_once (is_out w t) in
    let out = h.tickets t (h.tickets_fit i small) in
    absurd (omega arith))
    (cases_eq i j)

pub someones : (w : World) (ticket : ℕ) → Holds w → ticket < 2 ^ 64 → is_out w ticket ≡ true → (k : ℕ) × (k < length w.seats) × (has_this ticket (seat_at w.seats k) ≡ true)
someones w ticket h fits out = some_passes (has_this ticket) w.seats (let one : count_by (has_this ticket) w.seats ≡ 1 = h.tickets ticket fits ∙ ap once out in omega arith)

same_rows : (w : World) → Begins w.rows w.rows
same_rows w = ([], sym (append-nil w.rows))

step_rows : (w : World) (s : Step) → Begins w.rows (stepped w s).rows
step_rows w (Draw n) = same_rows w
step_rows w (Look n) = by_test ((seat_at w.seats (n - 1)).ticket == w.serving) refl
  where
    by_test : (b : Bool) → ((seat_at w.seats (n - 1)).ticket == w.serving) ≡ b → Begins w.rows (looked w (n - 1)).rows
    by_test true e = rw e (same_rows w)
    by_test false e = rw e (same_rows w)
step_rows w (Take n) = same_rows w
step_rows w (Give n) = same_rows w
step_rows w (Pass n) = same_rows w
step_rows w (Split n) = same_rows w
step_rows w (Count n batch faults) = (batch, refl)
step_rows w (Join n other) = same_rows w

after_rows : (w : World) (s : Step) → Begins w.rows (after w s).rows
after_rows w s = by_test (is_allowed w s) refl
  where
    by_test : (b : Bool) → is_allowed w s ≡ b → Begins w.rows (after w s).rows
    by_test true e = rw e (step_rows w s)
    by_test false e = rw e (same_rows w)

pub all_rows : (w : World) (steps : List Step) → Begins w.rows (after_all w steps).rows
all_rows w [] = same_rows w
all_rows w (s ∷ steps) =
    let first = after_rows w s in
    let rest = all_rows (after w s) steps in
    (first.0 ++ rest.0, rest.1 ∙ (ap (λ (xs : List Row). xs ++ rest.0) first.1 ∙ append_assoc w.rows first.0 rest.0))
