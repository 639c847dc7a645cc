-- A seat that makes a step was made.
use Rattle.std.proofs.Common.{◌≡◌, ⊎_elim, ℕ, ◌-◌, ◌<◌, ◌==◌, Bool, true, false, List, length, refl, sym, ap, ◌∙◌, arith}
use Rattle.std.proofs.lemmas.Bool.{cases_lt}
use Rattle.std.proofs.lemmas.Bool.Decides.{nat_tests}
use Rattle.std.proofs.lemmas.List.{get_or_past}
use Rattle.dns_ticket_world.specs.declared.seat.Phase.{Phase}
use Rattle.dns_ticket_world.specs.declared.seat.Phase.TheVariants.{Ended}
use Rattle.dns_ticket_world.specs.declared.seat.Seat.{Seat}
use Rattle.dns_ticket_world.specs.Seats.{is_idle, may_take, is_holding, has_counted, has_given, no_seat, seat_at, seat_of}

-- the seat of a number was made, and stands at the place below it
pub record Stands (is : Phase → Bool) (seats : List Seat) (number : ℕ) : Type 0 where
  pub some : 0 < number
  pub within : number - 1 < length seats
  pub at : seat_of seats number ≡ seat_at seats (number - 1)
  pub phase : is (seat_at seats (number - 1)).phase ≡ true

-- a seat that is at something but its end was made
pub stands : (is : Phase → Bool) (seats : List Seat) (number : ℕ) → is Ended ≡ false → is (seat_of seats number).phase ≡ true → Stands is seats number
stands is seats number ends e = by_test (number == 0) refl
  where
    by_test : (b : Bool) → (number == 0) ≡ b → Stands is seats number
    by_test true zero_is =
        let gone : seat_of seats number ≡ no_seat = rw zero_is refl in
        let never : is Ended ≡ true = ap (λ (s : Seat). is s.phase) (sym gone) ∙ e in
        absurd (grind arith)
    by_test false not_zero =
        let at : seat_of seats number ≡ seat_at seats (number - 1) = rw not_zero refl in
        let there : is (seat_at seats (number - 1)).phase ≡ true = ap (λ (s : Seat). is s.phase) (sym at) ∙ e in
        record {
          some = grind (arith, nat_tests);
          within = ⊎_elim (λ less. less) (λ past.
              let gone : seat_at seats (number - 1) ≡ no_seat = get_or_past seats (number - 1) no_seat past in
              let never : is Ended ≡ true = ap (λ (s : Seat). is s.phase) (sym gone) ∙ there in
              absurd (grind arith)) (cases_lt (number - 1) (length seats));
          at = at;
          phase = there;
        }

-- each seat that makes a step was made
pub idle_made : (seats : List Seat) (number : ℕ) → is_idle (seat_of seats number).phase ≡ true → number - 1 < length seats
idle_made seats number e = (stands is_idle seats number refl e).within

pub taking_made : (seats : List Seat) (number : ℕ) → may_take (seat_of seats number).phase ≡ true → number - 1 < length seats
taking_made seats number e = (stands may_take seats number refl e).within

pub holding_made : (seats : List Seat) (number : ℕ) → is_holding (seat_of seats number).phase ≡ true → number - 1 < length seats
holding_made seats number e = (stands is_holding seats number refl e).within

pub counted_made : (seats : List Seat) (number : ℕ) → has_counted (seat_of seats number).phase ≡ true → number - 1 < length seats
counted_made seats number e = (stands has_counted seats number refl e).within

pub given_made : (seats : List Seat) (number : ℕ) → has_given (seat_of seats number).phase ≡ true → number - 1 < length seats
given_made seats number e = (stands has_given seats number refl e).within

pub ruleset places_made = (idle_made, taking_made, holding_made, counted_made, given_made)
