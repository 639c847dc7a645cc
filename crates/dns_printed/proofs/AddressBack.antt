-- An IPv4 address is read as itself.
use Rattle.std.proofs.Common.{◌≡◌, ℕ, ◌+◌, ◌*◌, ◌/◌, ◌%◌, ◌^◌, ◌<◌, true, false, List, [], ◌∷◌, ◌++◌, Some, refl, sym, ap, ◌∙◌, arith, append_assoc, append-nil}
use Rattle.std.specs.Fmt.{decimal}
use Rattle.std.specs.Net.Text.{dotted_text}
use Rattle.dns_presentation.specs.Lines.{parts_from, parts_of}
use Rattle.dns_presentation.specs.Words.{begins_plain}
use Rattle.dns_presentation.specs.Values.{address_from}
use Rattle.dns_printed.specs.Printed.{address_text}
use Rattle.dns_printed.proofs.Numbers.{AreDigits, AreDigits-decimal, Led-decimal, number_up_to-decimal}
use Rattle.dns_printed.proofs.Escaping.{IsOrdinary-digit}
use Rattle.dns_printed.proofs.Spans.{Passes, Passes-append, Passes-dot, Passes-ordinary, ordinary_digits, Writes, Writes-plain}

-- digits belong to one part
parts_on : (part digits rest : List ℕ) → AreDigits digits → parts_from 46 part (digits ++ rest) ≡ parts_from 46 (part ++ digits) rest
parts_on part [] rest each = ap (λ (front : List ℕ). parts_from 46 front rest) (sym (append-nil part))
parts_on part (digit ∷ digits) rest each =
    let ordinary = IsOrdinary-digit digit each.0 in
    rw ordinary.dot (parts_on (part ++ digit ∷ []) digits rest each.1 ∙ ap (λ (front : List ℕ). parts_from 46 front rest) (append_assoc part (digit ∷ []) digits))

-- a number, and the dot behind it
parts_number : (n : ℕ) (rest : List ℕ) → n < 2 ^ 32 → parts_of 46 (decimal n ++ 46 ∷ rest) ≡ decimal n ∷ parts_of 46 rest
parts_number n rest below = parts_on [] (decimal n) (46 ∷ rest) (AreDigits-decimal n below)

parts_last : (n : ℕ) → n < 2 ^ 32 → parts_of 46 (decimal n) ≡ decimal n ∷ []
parts_last n below = ap (parts_of 46) (sym (append-nil (decimal n))) ∙ parts_on [] (decimal n) [] (AreDigits-decimal n below)

Passes-decimal : (n : ℕ) → n < 2 ^ 32 → Passes (decimal n)
Passes-decimal n below = Passes-ordinary (decimal n) (ordinary_digits (decimal n) (AreDigits-decimal n below))

-- four numbers of 8 bits with dots between them
module _ (a b c d : ℕ) (first : a < 256) (second : b < 256) (third : c < 256) (fourth : d < 256) where
  -- with its parts the one behind the other
  flat : dotted_text a b c d ≡ decimal a ++ (46 ∷ (decimal b ++ (46 ∷ (decimal c ++ (46 ∷ decimal d)))))
  flat = simp append_assoc

  parts_dotted : parts_of 46 (dotted_text a b c d) ≡ decimal a ∷ decimal b ∷ decimal c ∷ decimal d ∷ []
  parts_dotted =
      ap (parts_of 46) flat
      ∙ parts_number a (decimal b ++ (46 ∷ (decimal c ++ (46 ∷ decimal d)))) (omega arith)
      ∙ ap (λ (parts : List (List ℕ)). decimal a ∷ parts) (parts_number b (decimal c ++ (46 ∷ decimal d)) (omega arith)
      ∙ ap (λ (parts : List (List ℕ)). decimal b ∷ parts) (parts_number c (decimal d) (omega arith)
      ∙ ap (λ (parts : List (List ℕ)). decimal c ∷ parts) (parts_last d (omega arith))))

  dotted_back : address_from (parts_of 46 (dotted_text a b c d)) ≡ Some (16777216 * a + 65536 * b + 256 * c + d)
  unfolding address_from
  dotted_back =
      rw (
        parts_dotted,
        number_up_to-decimal 255 a (omega arith) (omega arith),
        number_up_to-decimal 255 b (omega arith) (omega arith),
        number_up_to-decimal 255 c (omega arith) (omega arith),
        number_up_to-decimal 255 d (omega arith) (omega arith),
      ) refl

  -- a word goes on with it
  passes_dotted : Passes (dotted_text a b c d)
  passes_dotted =
      Passes-append (decimal a ++ 46 ∷ [] ++ decimal b ++ 46 ∷ [] ++ decimal c ++ 46 ∷ []) (decimal d)
      (Passes-append (decimal a ++ 46 ∷ [] ++ decimal b ++ 46 ∷ [] ++ decimal c) (46 ∷ [])
      (Passes-append (decimal a ++ 46 ∷ [] ++ decimal b ++ 46 ∷ []) (decimal c)
      (Passes-append (decimal a ++ 46 ∷ [] ++ decimal b) (46 ∷ [])
      (Passes-append (decimal a ++ 46 ∷ []) (decimal b)
      (Passes-append (decimal a) (46 ∷ []) (Passes-decimal a (omega arith)) Passes-dot)
      (Passes-decimal b (omega arith))) Passes-dot) (Passes-decimal c (omega arith))) Passes-dot) (Passes-decimal d (omega arith))

  begins_dotted : begins_plain (dotted_text a b c d) ≡ true
  begins_dotted =
      let led = Led-decimal a (omega arith) in
      let ordinary = IsOrdinary-digit led.first led.digit in
      ap begins_plain flat ∙ rw (led.is, ordinary.stop) refl

-- the text of an address is one word
pub Writes-address : (address : ℕ) → address < 2 ^ 32 → Writes (address_text address) (record { quoted = false; text = address_text address })
Writes-address address below =
    Writes-plain (address_text address)
    (begins_dotted (address / 2 ^ 24) (address / 2 ^ 16 % 256) (address / 2 ^ 8 % 256) (address % 256) (omega arith) (omega arith) (omega arith) (omega arith))
    (passes_dotted (address / 2 ^ 24) (address / 2 ^ 16 % 256) (address / 2 ^ 8 % 256) (address % 256) (omega arith) (omega arith) (omega arith) (omega arith))

-- the text of an address is read as that address
pub address_back : (address : ℕ) → address < 2 ^ 32 → address_from (parts_of 46 (address_text address)) ≡ Some address
address_back address below =
    dotted_back (address / 2 ^ 24) (address / 2 ^ 16 % 256) (address / 2 ^ 8 % 256) (address % 256) (omega arith) (omega arith) (omega arith) (omega arith)
    ∙ ap Some whole
  where
    whole : 16777216 * (address / 2 ^ 24) + 65536 * (address / 2 ^ 16 % 256) + 256 * (address / 2 ^ 8 % 256) + address % 256 ≡ address
    whole = omega arith
