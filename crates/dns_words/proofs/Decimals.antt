-- Numbers that digits make.
use Rattle.std.proofs.Common.{◌≡◌, ℕ, ◌+◌, ◌-◌, ◌*◌, ◌≤◌, List, [], ◌∷◌, Option, None, Bool, true, false, if◌then◌else◌, refl, arith}
use Rattle.std.specs.Char.{is_ascii_digit}
use Rattle.std.proofs.lemmas.Bool.{le-ltb}
use Rattle.dns_words.specs.Values.{below, digits_behind}

-- none, whether a byte is a digit or not
no_digit : (test : Bool) (limit : ℕ) (number : Option ℕ) → below limit number ≡ None → below limit (if test then number else None) ≡ None
no_digit true limit number none = none
no_digit false limit number none = refl

-- digits behind a number that isn't below the limit make none that is
pub below-digits_behind : (limit n : ℕ) (digits : List ℕ) → limit ≤ n → below limit (digits_behind n digits) ≡ None
below-digits_behind limit n [] past = rw (le-ltb n limit past) refl
below-digits_behind limit n (b ∷ bs) past =
    no_digit (is_ascii_digit b) limit _ (below-digits_behind limit (10 * n + (b - 48)) bs (omega arith))

-- digits that are left behind a number, by the first of them
pub below-digit : (limit n b : ℕ) (bs left : List ℕ) → left ≡ b ∷ bs → limit ≤ 10 * n + (b - 48) → below limit (digits_behind n left) ≡ None
below-digit limit n b bs left is past =
    rw is (no_digit (is_ascii_digit b) limit _ (below-digits_behind limit (10 * n + (b - 48)) bs past))
