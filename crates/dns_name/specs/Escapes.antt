-- Escapes in the text of a zone (RFC 1035 5.1).
use Rattle.std.specs.Prelude.{ℕ, ◌+◌, ◌-◌, ◌*◌, Bool, ◌&&◌, nat_le, if◌then◌else◌, List, [], ◌∷◌, Option, Some, None}

-- the byte is an ASCII digit
abbrev pub is_digit : ℕ → Bool
is_digit byte = nat_le 48 byte && nat_le byte 57

-- the number that three digits write
abbrev pub decimal_of : ℕ → ℕ → ℕ → ℕ
decimal_of a b c = 100 * (a - 48) + 10 * (b - 48) + (c - 48)

-- the byte that a backslash and a digit mean, and how many bytes behind the backslash belong to it: three digits write it
abbrev pub decimal_escape : ℕ → List ℕ → Option (ℕ × ℕ)
decimal_escape a (b ∷ c ∷ text) = if is_digit b && is_digit c && nat_le (decimal_of a b c) 255 then Some (decimal_of a b c, 3) else None
decimal_escape a text = None

-- the byte that a backslash before this text means, and how many bytes of the text belong to it: a character that is no
-- digit stands for itself
abbrev pub escape_of : List ℕ → Option (ℕ × ℕ)
escape_of [] = None
escape_of (a ∷ text) = if is_digit a then decimal_escape a text else Some (a, 1)
