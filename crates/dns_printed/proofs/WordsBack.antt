-- What the words of names and numbers are read as.
use Rattle.std.proofs.Common.{◌≡◌, ℕ, ◌^◌, ◌<◌, true, false, nat_lt, List, [], ◌∷◌, Option, Some, None, refl, sym, ap, ◌∙◌, arith}
use Rattle.std.specs.Fmt.{decimal}
use Rattle.std.specs.Option.{option_or}
use Rattle.dns_name.specs.Name.{IsName, fold_of}
use Rattle.dns_presentation.specs.Words.{Word, begins_plain}
use Rattle.dns_presentation.specs.Values.{number_of, seconds_of, units_from}
use Rattle.dns_presentation.specs.DataText.{word_number, word_short, word_seconds, word_name, only_word, only_name}
use Rattle.dns_wire.specs.Kept.{AreOfBytes}
use Rattle.dns_printed.specs.Printed.{name_text}
use Rattle.dns_printed.proofs.Numbers.{Led-decimal, AreDigits-decimal, number_of-decimal}
use Rattle.dns_printed.proofs.Escaping.{IsOrdinary-digit}
use Rattle.dns_printed.proofs.Spans.{Passes-ordinary, ordinary_digits, Writes, Writes-plain}
use Rattle.dns_printed.proofs.NameBack.{name_in-name_text}

-- a word that stands in no quotes
abbrev pub bare : List ℕ → Word
bare text = record { quoted = false; text = text }

-- a number is one word
pub Writes-decimal : (n : ℕ) → n < 2 ^ 32 → Writes (decimal n) (bare (decimal n))
Writes-decimal n below =
    let led = Led-decimal n below in
    let begins : begins_plain (decimal n) ≡ true = rw (led.is, (IsOrdinary-digit led.first led.digit).stop) refl in
    Writes-plain (decimal n) begins (Passes-ordinary (decimal n) (ordinary_digits (decimal n) (AreDigits-decimal n below)))

pub word_number-decimal : (n : ℕ) → n < 2 ^ 32 → word_number (bare (decimal n)) ≡ Some n
unfolding word_number
word_number-decimal n below = number_of-decimal n below

pub word_short-decimal : (n : ℕ) → n < 2 ^ 16 → word_short (bare (decimal n)) ≡ Some n
unfolding word_short
word_short-decimal n below =
    let small : nat_lt 65535 n ≡ false = grind arith in
    rw (word_number-decimal n (omega arith), small) refl

seconds_from : (first : ℕ) (rest : List ℕ) (n : ℕ) → number_of (first ∷ rest) ≡ Some n → seconds_of (first ∷ rest) ≡ Some n
unfolding seconds_of
seconds_from first rest n is = ap (λ (read : Option ℕ). option_or read (units_from 0 None (first ∷ rest))) is

pub word_seconds-decimal : (n : ℕ) → n < 2 ^ 32 → word_seconds (bare (decimal n)) ≡ Some n
unfolding word_seconds
word_seconds-decimal n below =
    let led = Led-decimal n below in
    ap seconds_of led.is ∙ seconds_from led.first led.rest n (ap number_of (sym led.is) ∙ number_of-decimal n below)

-- a name under whatever origin
module _ (origin labels : List (List ℕ)) (is : IsName labels) (bytes : AreOfBytes labels) (small : fold_of labels ≡ labels) where
  pub word_name-back : word_name origin (bare (name_text labels)) ≡ Some labels
  unfolding word_name
  word_name-back = name_in-name_text origin labels is bytes small

  pub only_name-back : only_name origin (bare (name_text labels) ∷ []) ≡ Some labels
  unfolding only_name only_word
  only_name-back = word_name-back
