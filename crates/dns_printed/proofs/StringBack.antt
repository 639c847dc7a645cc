-- A string in quotes is read as itself.
use Rattle.std.proofs.Common.{◌≡◌, ℕ, ◌+◌, ◌/◌, ◌%◌, ◌<◌, ◌≤◌, Bool, true, false, ◌==◌, if◌then◌else◌, List, [], ◌∷◌, ◌++◌, Some, refl, sym, ap, ◌∙◌, arith, append_assoc, append-nil}
use Rattle.std.specs.List.{AllByRecursion, flat_map}
use Rattle.dns_presentation.specs.Values.{string_from, string_of}
use Rattle.dns_wire.specs.Kept.{AreBytes}
use Rattle.dns_printed.specs.Printed.{escaped, is_shown, string_character, string_text}
use Rattle.dns_printed.proofs.Escaping.{escape_of-digits}
use Rattle.dns_printed.proofs.Spans.{PassesQuoted, PassesQuoted-append, PassesQuoted-byte, PassesQuoted-pair, PassesQuoted-all, Writes, Writes-quoted}

by_character : (P : List ℕ → Type 0) (byte : ℕ) → (is_shown byte ≡ true → P (byte ∷ [])) → P (escaped byte) → P (string_character byte)
by_character P byte shown other = cases (is_shown byte) refl
  where
    cases : (test : Bool) → is_shown byte ≡ test → P (if test then byte ∷ [] else escaped byte)
    cases true is = shown is
    cases false is = other

-- a byte that stands for itself in quotes
record IsQuiet (byte : ℕ) : Type 0 where
  quote : (byte == 34) ≡ false
  slash : (byte == 92) ≡ false
  seen : 32 ≤ byte

IsQuiet-shown : (byte : ℕ) → is_shown byte ≡ true → IsQuiet byte
IsQuiet-shown byte shown = record { quote = grind arith; slash = grind arith; seen = grind arith }

IsQuiet-digit : (byte : ℕ) → 48 ≤ byte → byte ≤ 57 → IsQuiet byte
IsQuiet-digit byte low high = record { quote = grind arith; slash = grind arith; seen = omega arith }

passes_byte : (byte : ℕ) → IsQuiet byte → PassesQuoted (byte ∷ [])
passes_byte byte quiet = PassesQuoted-byte byte quiet.quote quiet.slash quiet.seen

passes_escaped : (byte : ℕ) → byte < 256 → PassesQuoted (escaped byte)
passes_escaped byte below =
    PassesQuoted-append (92 ∷ (48 + byte / 100) ∷ []) ((48 + byte / 10 % 10) ∷ (48 + byte % 10) ∷ []) (PassesQuoted-pair (48 + byte / 100) (omega arith))
    (PassesQuoted-append ((48 + byte / 10 % 10) ∷ []) ((48 + byte % 10) ∷ []) (passes_byte (48 + byte / 10 % 10) (IsQuiet-digit (48 + byte / 10 % 10) (omega arith) (omega arith))) (passes_byte (48 + byte % 10) (IsQuiet-digit (48 + byte % 10) (omega arith) (omega arith))))

passes_character : (byte : ℕ) → byte < 256 → PassesQuoted (string_character byte)
passes_character byte below = by_character PassesQuoted byte (λ shown. passes_byte byte (IsQuiet-shown byte shown)) (passes_escaped byte below)

passes_characters : (bytes : List ℕ) → AreBytes bytes → AllByRecursion (λ byte. PassesQuoted (string_character byte)) bytes
passes_characters [] each = tt
passes_characters (byte ∷ bytes) each = (passes_character byte each.0, passes_characters bytes each.1)

-- the text of a string is one word in quotes
pub Writes-string : (bytes : List ℕ) → AreBytes bytes → Writes (string_text bytes) (record { quoted = true; text = flat_map string_character bytes })
Writes-string bytes each = Writes-quoted (flat_map string_character bytes) (PassesQuoted-all string_character bytes (passes_characters bytes each))

-- the text of a byte means the byte
abbrev MeansByte : ℕ → List ℕ → Type 0
MeansByte byte text = (front rest : List ℕ) → string_from 0 front (text ++ rest) ≡ string_from 0 (front ++ byte ∷ []) rest

means_shown : (byte : ℕ) → is_shown byte ≡ true → MeansByte byte (byte ∷ [])
means_shown byte shown front rest =
    let quiet = IsQuiet-shown byte shown in
    rw quiet.slash refl

means_escaped : (byte : ℕ) → byte < 256 → MeansByte byte (escaped byte)
means_escaped byte below front rest = rw (escape_of-digits byte rest below) refl

string_back : (front bytes : List ℕ) → AreBytes bytes → string_from 0 front (flat_map string_character bytes) ≡ Some (front ++ bytes)
string_back front [] each = ap Some (sym (append-nil front))
string_back front (byte ∷ bytes) each =
    by_character (MeansByte byte) byte (means_shown byte) (means_escaped byte each.0) front (flat_map string_character bytes)
    ∙ string_back (front ++ byte ∷ []) bytes each.1
    ∙ ap Some (append_assoc front (byte ∷ []) bytes)

-- the text between the quotes means the string
pub string_of-text : (bytes : List ℕ) → AreBytes bytes → string_of (flat_map string_character bytes) ≡ Some bytes
unfolding string_of
string_of-text bytes each = string_back [] bytes each
