-- The strings of a TXT record are read as themselves.
use Rattle.std.proofs.Common.{◌≡◌, ℕ, ◌+◌, ◌<◌, ◌≤◌, true, false, nat_lt, List, [], ◌∷◌, ◌++◌, length, map, Option, Some, refl, sym, ap, subst, ◌∙◌, arith, append_assoc, append-nil, length-append}
use Rattle.std.specs.List.{AllZip, flat_map}
use Rattle.dns_wire.specs.Texts.{AreTexts, texts_bytes}
use Rattle.dns_wire.specs.declared.rdata.Data.TheVariants.{Txt}
use Rattle.dns_presentation.specs.Words.{Word}
use Rattle.dns_presentation.specs.Values.{◌>>=◌}
use Rattle.dns_presentation.specs.DataText.{is_too_long, strings_from, txt_of}
use Rattle.dns_wire.specs.Kept.{AreOfBytes}
use Rattle.dns_printed.specs.Printed.{string_character, string_text}
use Rattle.dns_printed.proofs.Spans.{Writes}
use Rattle.dns_printed.proofs.StringBack.{Writes-string, string_of-text}

-- the words of strings
abbrev pub string_words : List (List ℕ) → List Word
string_words texts = map (λ text. record { quoted = true; text = flat_map string_character text }) texts

pub Writes-strings : (texts : List (List ℕ)) → AreOfBytes texts → AllZip Writes (map string_text texts) (string_words texts)
Writes-strings [] bytes = tt
Writes-strings (text ∷ texts) bytes = (Writes-string text bytes.0, Writes-strings texts bytes.1)

-- a string behind others makes them longer by its length byte and its bytes
length-push : (strings : List (List ℕ)) (string : List ℕ) → length (texts_bytes (strings ++ string ∷ [])) ≡ length (texts_bytes strings) + (length string + 1)
length-push [] string = omega (arith, length-append (length string ∷ string) [])
length-push (first ∷ strings) string =
    omega (arith, length-push strings string, length-append (length first ∷ first) (texts_bytes (strings ++ string ∷ [])), length-append (length first ∷ first) (texts_bytes strings))

-- strings before others are no longer than both
length-front : (strings others : List (List ℕ)) → length (texts_bytes strings) ≤ length (texts_bytes (strings ++ others))
length-front [] others = omega arith
length-front (first ∷ strings) others =
    omega (arith, length-front strings others, length-append (length first ∷ first) (texts_bytes strings), length-append (length first ∷ first) (texts_bytes (strings ++ others)))

not_long : (strings : List (List ℕ)) (string : List ℕ) → length string < 256 → length (texts_bytes strings) + (length string + 1) ≤ 65535 → is_too_long strings string ≡ false
not_long strings string short within =
    let one : nat_lt 255 (length string) ≡ false = grind arith in
    let all : nat_lt 65535 (length (texts_bytes strings) + (length string + 1)) ≡ false = grind arith in
    rw (one, all) refl

-- strings behind others
strings_back : (before texts : List (List ℕ)) → AreTexts texts → AreOfBytes texts → length (texts_bytes (before ++ texts)) ≤ 65535 → strings_from before (string_words texts) ≡ Some (before ++ texts)
strings_back before [] each bytes short = ap Some (sym (append-nil before))
strings_back before (text ∷ texts) each bytes short =
    let shift : (before ++ text ∷ []) ++ texts ≡ before ++ (text ∷ texts) = append_assoc before (text ∷ []) texts in
    let whole : length (texts_bytes ((before ++ text ∷ []) ++ texts)) ≤ 65535 = subst (λ (strings : List (List ℕ)). length (texts_bytes strings) ≤ 65535) (sym shift) short in
    let size = length-push before text in
    let front = length-front (before ++ text ∷ []) texts in
    rw (string_of-text text bytes.0, not_long before text each.0 (omega (arith, size, front, whole)))
    (strings_back (before ++ text ∷ []) texts each.1 bytes.1 whole ∙ ap Some shift)

-- the strings of a record, of which there is one
pub strings_read : (texts : List (List ℕ)) → 0 < length (texts_bytes texts) → AreTexts texts → AreOfBytes texts → length (texts_bytes texts) ≤ 65535 → txt_of (string_words texts) ≡ Some (Txt texts)
unfolding txt_of
strings_read [] some each bytes short = absurd (omega arith)
strings_read (text ∷ texts) some each bytes short =
    ap (λ (read : Option (List (List ℕ))). read >>= λ strings. Some (Txt strings)) (strings_back [] (text ∷ texts) each bytes short)
