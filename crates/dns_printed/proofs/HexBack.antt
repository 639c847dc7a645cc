-- Hex digits are read as the bytes that they write.
use Rattle.std.proofs.Common.{◌≡◌, ℕ, zero, suc, ◌/◌, ◌%◌, ◌<◌, true, false, List, [], ◌∷◌, length, slice_index, Some, refl, ap, arith}
use Rattle.std.specs.Result.{result_ok}
use Rattle.std.specs.List.{AllByRecursion}
use Rattle.hex.specs.Hex.{IsBytes, lower_digits, encode_with, encode_lower, decode_of}
use Rattle.hex.proofs.HexLemmas.{decode_of-encode_lower}
use Rattle.dns_presentation.specs.Words.{begins_plain}
use Rattle.dns_wire.specs.Kept.{AreBytes}
use Rattle.dns_printed.proofs.Escaping.{IsOrdinary, ordinary_alphanumeric}
use Rattle.dns_printed.proofs.Spans.{Passes-ordinary, Writes, Writes-plain}

bytes_at : (bytes : List ℕ) → AreBytes bytes → IsBytes bytes
bytes_at [] each i = omega arith
bytes_at (byte ∷ bytes) each zero = each.0
bytes_at (byte ∷ bytes) each (suc i) = bytes_at bytes each.1 i

-- the digits of bytes are read
pub hex_back : (bytes : List ℕ) → AreBytes bytes → result_ok (decode_of (encode_lower bytes)) ≡ Some bytes
hex_back bytes each = ap result_ok (decode_of-encode_lower bytes (bytes_at bytes each))

-- the digits of the table are ordinary
at_place : (digits : List ℕ) (place : ℕ) → AllByRecursion IsOrdinary digits → place < length digits → IsOrdinary (slice_index digits place)
at_place [] place all within = absurd (omega arith)
at_place (digit ∷ digits) zero all within = all.0
at_place (digit ∷ digits) (suc place) all within = at_place digits place all.1 (omega arith)

digit_at : (place : ℕ) → place < 16 → IsOrdinary (slice_index lower_digits place)
digit_at place below = at_place lower_digits place (ordinary_alphanumeric lower_digits refl) below

ordinary_hex : (bytes : List ℕ) → AreBytes bytes → AllByRecursion IsOrdinary (encode_lower bytes)
unfolding encode_with
ordinary_hex [] each = tt
ordinary_hex (byte ∷ bytes) each = (digit_at (byte / 16) (omega (arith, each.0)), (digit_at (byte % 16) (omega arith), ordinary_hex bytes each.1))

begins_hex : (bytes : List ℕ) → 0 < length bytes → AreBytes bytes → begins_plain (encode_lower bytes) ≡ true
unfolding encode_with
begins_hex [] some each = absurd (omega arith)
begins_hex (byte ∷ bytes) some each = rw (digit_at (byte / 16) (omega (arith, each.0))).stop refl

-- the digits of bytes, of which there is one, are one word
pub Writes-hex : (bytes : List ℕ) → 0 < length bytes → AreBytes bytes → Writes (encode_lower bytes) (record { quoted = false; text = encode_lower bytes })
Writes-hex bytes some each = Writes-plain (encode_lower bytes) (begins_hex bytes some each) (Passes-ordinary (encode_lower bytes) (ordinary_hex bytes each))
