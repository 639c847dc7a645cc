-- The seats after one of them has changed, and after a new one has come.
use Rattle.std.proofs.Common.{◌≡◌, ◌≢◌, ⊎_elim, ℕ, ◌<◌, ◌≤◌, Bool, true, false, cond, List, [], ◌∷◌, ◌++◌, set, length, count_by, refl, sym, subst, arith}
use Rattle.std.proofs.lemmas.Bool.{cases_eq}
use Rattle.std.proofs.lemmas.List.{length-set, length_push, get_or-set_same, get_or-set_other, get_or_append_left, get_or_push}
use Rattle.std.proofs.lemmas.List.Sums.{sum_by-set, get_or-le-sum_by}
use Rattle.dns_ticket_world.specs.declared.seat.Seat.{Seat}
use Rattle.dns_ticket_world.specs.Seats.{no_seat, seat_at}

-- a fact of each seat, after a change of one
pub each_set : (P : ℕ → Seat → Type 0) (seats : List Seat) (k : ℕ) (s : Seat) → P k s → ((j : ℕ) → j ≢ k → j < length seats → P j (seat_at seats j))
    → (j : ℕ) → j < length (set seats k s) → P j (seat_at (set seats k s) j)
each_set P seats k s mine others j small =
    let within : j < length seats = omega (arith, length-set seats k s) in
    ⊎_elim
    (λ same. subst (λ (i : ℕ). P i (seat_at (set seats k s) i)) (sym same) (subst (P k) (sym (get_or-set_same seats k s no_seat (let is = same in omega arith))) mine))
    (λ apart. subst (P j) (sym (get_or-set_other seats k j s no_seat apart)) (others j apart within))
    (cases_eq j k)

-- and after a new one has come
pub each_push : (P : ℕ → Seat → Type 0) (seats : List Seat) (s : Seat) → P (length seats) s → ((j : ℕ) → j < length seats → P j (seat_at seats j))
    → (j : ℕ) → j < length (seats ++ s ∷ []) → P j (seat_at (seats ++ s ∷ []) j)
each_push P seats s mine others j small =
    let long = length_push seats s in
    ⊎_elim
    (λ same. subst (λ (i : ℕ). P i (seat_at (seats ++ s ∷ []) i)) (sym same) (subst (P (length seats)) (sym (get_or_push seats s no_seat (length seats) refl)) mine))
    (λ apart. let within : j < length seats = omega arith in subst (P j) (sym (get_or_append_left seats (s ∷ []) no_seat j within)) (others j within))
    (cases_eq j (length seats))

-- two seats that pass a test are counted both
pub two_count : (p : Seat → Bool) (seats : List Seat) (i j : ℕ) → p no_seat ≡ false → i ≢ j → i < length seats → j < length seats
    → p (seat_at seats i) ≡ true → p (seat_at seats j) ≡ true → 2 ≤ count_by p seats
two_count p seats i j fails apart one two first second =
    let f : Seat → ℕ = λ s. cond (p s) 1 0 in
    let fewer = sum_by-set f seats i no_seat no_seat one in
    let left : f (seat_at (set seats i no_seat) j) ≡ 1 = rw (get_or-set_other seats i j no_seat no_seat (λ e. apart (sym e)), second) refl in
    let some = get_or-le-sum_by f (set seats i no_seat) j no_seat (omega (arith, length-set seats i no_seat)) in
    let was : f (seat_at seats i) ≡ 1 = rw first refl in
    let none : f no_seat ≡ 0 = rw fails refl in
    omega arith
