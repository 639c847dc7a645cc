-- The table is compared with the definition byte by byte.
use Rattle.std.proofs.Common.{◌≡◌, ℕ, zero, suc, ◌<◌, Bool, true, false, ◌&&◌, not, ◌==◌, get_or, refl, arith, inl, inr}
use Rattle.std.specs.Bool.{beq}
use Rattle.std.proofs.lemmas.Bool.{cases_eq}
use Rattle.dns_presentation.specs.declared.words.TheConstants.{WORD_BYTES}
use Rattle.dns_presentation.specs.Words.{is_stop}
use Rattle.dns_presentation.proofs.words.goes_on.Goals as goal

-- two tests say the same of each number below another
same_below : (ℕ → Bool) → (ℕ → Bool) → ℕ → Bool
same_below one other zero = true
same_below one other (suc last) = beq (one last) (other last) && same_below one other last

equal : (x y : Bool) → beq x y ≡ true → x ≡ y
equal true true e = refl
equal true false e = absurd cc
equal false true e = absurd cc
equal false false e = refl

first_of_two : (x y : Bool) → (x && y) ≡ true → x ≡ true
first_of_two true y e = refl
first_of_two false y e = absurd cc

second_of_two : (x y : Bool) → (x && y) ≡ true → y ≡ true
second_of_two true y e = e
second_of_two false y e = absurd cc

told : (one other : ℕ → Bool) (most : ℕ) → same_below one other most ≡ true → (number : ℕ) → number < most → one number ≡ other number
unfolding same_below
told one other zero all number below = absurd (omega arith)
told one other (suc last) all number below = elim (cases_eq number last) [
  | inl is ↦ rw is (equal (one last) (other last) (first_of_two (beq (one last) (other last)) _ all))
  | inr before ↦ told one other last (second_of_two (beq (one last) (other last)) _ all) number (omega arith)
]

pub returns : goal.returns
unfolding same_below
returns c = told (λ byte. get_or WORD_BYTES byte 0 == 46) (λ byte. not (is_stop byte) && not (byte == 92)) 256 refl c.args.byte (omega arith)
