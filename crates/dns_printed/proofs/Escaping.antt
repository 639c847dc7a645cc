-- An escaped byte is read as that byte.
use Rattle.std.proofs.Common.{◌≡◌, ℕ, ◌+◌, ◌/◌, ◌%◌, ◌<◌, ◌≤◌, Bool, true, false, ◌==◌, ◌&&◌, nat_le, List, [], ◌∷◌, Some, refl, arith}
use Rattle.std.specs.Char.{is_ascii_alphanumeric}
use Rattle.std.specs.List.{AllByRecursion, list_all}
use Rattle.dns_name.specs.Escapes.{is_digit, decimal_of, escape_of}
use Rattle.dns_printed.specs.Printed.{is_plain}
use Rattle.dns_presentation.specs.Words.{is_stop}
use Rattle.dns_printed.proofs.Numbers.{is_digit-of, digit_bounds}

-- the three digits of a byte
pub hundreds : (byte : ℕ) → byte < 256 → is_digit (48 + byte / 100) ≡ true
hundreds byte below = is_digit-of (48 + byte / 100) (omega arith) (omega arith)

pub tens : (byte : ℕ) → is_digit (48 + byte / 10 % 10) ≡ true
tens byte = is_digit-of (48 + byte / 10 % 10) (omega arith) (omega arith)

pub units : (byte : ℕ) → is_digit (48 + byte % 10) ≡ true
units byte = is_digit-of (48 + byte % 10) (omega arith) (omega arith)

-- the number that three digits write
digits_back : (byte : ℕ) → byte < 256 → decimal_of (48 + byte / 100) (48 + byte / 10 % 10) (48 + byte % 10) ≡ byte
digits_back byte below = omega arith

-- an escape is read
pub escape_of-digits : (byte : ℕ) (rest : List ℕ) → byte < 256 → escape_of ((48 + byte / 100) ∷ (48 + byte / 10 % 10) ∷ (48 + byte % 10) ∷ rest) ≡ Some (byte, 3)
escape_of-digits byte rest below =
    let small : nat_le byte 255 ≡ true = grind arith in
    rw (hundreds byte below, tens byte, units byte, digits_back byte below, small) refl

-- a byte that has no meaning in a word
pub record IsOrdinary (byte : ℕ) : Type 0 where
  pub stop : is_stop byte ≡ false
  pub slash : (byte == 92) ≡ false
  pub dot : (byte == 46) ≡ false
  pub dollar : (byte == 36) ≡ false
  pub at : (byte == 64) ≡ false
  pub seen : 32 ≤ byte

pub IsOrdinary-digit : (byte : ℕ) → is_digit byte ≡ true → IsOrdinary byte
IsOrdinary-digit byte digit =
    let bounds = digit_bounds byte digit in
    record { stop = grind arith; slash = grind arith; dot = grind arith; dollar = grind arith; at = grind arith; seen = omega arith }

pub IsOrdinary-plain : (byte : ℕ) → is_plain byte ≡ true → IsOrdinary byte
IsOrdinary-plain byte plain = record { stop = grind arith; slash = grind arith; dot = grind arith; dollar = grind arith; at = grind arith; seen = grind arith }

IsOrdinary-alphanumeric : (byte : ℕ) → is_ascii_alphanumeric byte ≡ true → IsOrdinary byte
IsOrdinary-alphanumeric byte is = record { stop = grind arith; slash = grind arith; dot = grind arith; dollar = grind arith; at = grind arith; seen = grind arith }

-- letters and digits are ordinary
pub ordinary_alphanumeric : (bytes : List ℕ) → list_all is_ascii_alphanumeric bytes ≡ true → AllByRecursion IsOrdinary bytes
ordinary_alphanumeric [] all = tt
ordinary_alphanumeric (byte ∷ bytes) all =
    (IsOrdinary-alphanumeric byte (first (is_ascii_alphanumeric byte) (list_all is_ascii_alphanumeric bytes) all), ordinary_alphanumeric bytes (second (is_ascii_alphanumeric byte) (list_all is_ascii_alphanumeric bytes) all))
  where
    first : (a b : Bool) → (a && b) ≡ true → a ≡ true
    first true b both = refl
    first false b both = absurd cc

    second : (a b : Bool) → (a && b) ≡ true → b ≡ true
    second true b both = both
    second false b both = absurd cc
