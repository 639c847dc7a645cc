-- What a word goes on with, and what it is then.
use Rattle.std.proofs.Common.{◌≡◌, ℕ, ◌≤◌, true, false, ◌==◌, List, [], ◌∷◌, ◌++◌, map, refl, sym, ap, ◌∙◌, arith, append_assoc, append-nil}
use Rattle.std.specs.List.{AllByRecursion, AllZip, flat_map}
use Rattle.dns_presentation.specs.Words.{Word, Worded, Token, Plain, Quoted, begins_plain, tokens_of, tokens_from}
use Rattle.dns_presentation.proofs.Wording.{tokens_of_plain}
use Rattle.dns_printed.specs.Printed.{spaced}
use Rattle.dns_printed.proofs.Numbers.{All-append, AreDigits}
use Rattle.dns_printed.proofs.Escaping.{IsOrdinary, IsOrdinary-digit}

-- a word out of quotes goes on with the text
pub record Passes (text : List ℕ) : Type 0 where
  pub on : (word rest : List ℕ) → tokens_from (Plain word) (text ++ rest) ≡ tokens_from (Plain (word ++ text)) rest
  pub seen : AllByRecursion (λ byte. 32 ≤ byte) text

pub Passes-none : Passes []
Passes-none = record { on = λ word rest. rw (append-nil word) refl; seen = tt }

pub Passes-append : (a b : List ℕ) → Passes a → Passes b → Passes (a ++ b)
Passes-append a b first second = record {
  on = λ word rest. ap (tokens_from (Plain word)) (append_assoc a b rest) ∙ first.on word (b ++ rest) ∙ second.on (word ++ a) rest ∙ ap (λ (text : List ℕ). tokens_from (Plain text) rest) (append_assoc word a b);
  seen = All-append (λ byte. 32 ≤ byte) a b first.seen second.seen;
}

pub Passes-byte : (byte : ℕ) → IsOrdinary byte → Passes (byte ∷ [])
Passes-byte byte ordinary = record { on = λ word rest. rw (ordinary.stop, ordinary.slash) refl; seen = (ordinary.seen, tt) }

-- a dot
pub Passes-dot : Passes (46 ∷ [])
Passes-dot = record { on = λ word rest. refl; seen = (omega arith, tt) }

-- a backslash and the byte behind it
pub Passes-pair : (byte : ℕ) → 32 ≤ byte → Passes (92 ∷ byte ∷ [])
Passes-pair byte seen = record {
  on = λ word rest. ap (λ (text : List ℕ). tokens_from (Plain text) rest) (append_assoc word (92 ∷ []) (byte ∷ []));
  seen = (omega arith, (seen, tt));
}

-- texts, each of which a word goes on with
pub Passes-all : {X : Type 0} (part : X → List ℕ) (xs : List X) → AllByRecursion (λ x. Passes (part x)) xs → Passes (flat_map part xs)
Passes-all part [] all = Passes-none
Passes-all part (x ∷ xs) all = Passes-append (part x) (flat_map part xs) all.0 (Passes-all part xs all.1)

pub Passes-ordinary : (text : List ℕ) → AllByRecursion IsOrdinary text → Passes text
Passes-ordinary [] all = Passes-none
Passes-ordinary (byte ∷ text) all = Passes-append (byte ∷ []) text (Passes-byte byte all.0) (Passes-ordinary text all.1)

pub ordinary_digits : (digits : List ℕ) → AreDigits digits → AllByRecursion IsOrdinary digits
ordinary_digits [] all = tt
ordinary_digits (digit ∷ digits) all = (IsOrdinary-digit digit all.0, ordinary_digits digits all.1)

-- a word in quotes goes on with the text
pub record PassesQuoted (text : List ℕ) : Type 0 where
  pub on : (word rest : List ℕ) → tokens_from (Quoted word) (text ++ rest) ≡ tokens_from (Quoted (word ++ text)) rest
  pub seen : AllByRecursion (λ byte. 32 ≤ byte) text

pub PassesQuoted-none : PassesQuoted []
PassesQuoted-none = record { on = λ word rest. rw (append-nil word) refl; seen = tt }

pub PassesQuoted-append : (a b : List ℕ) → PassesQuoted a → PassesQuoted b → PassesQuoted (a ++ b)
PassesQuoted-append a b first second = record {
  on = λ word rest. ap (tokens_from (Quoted word)) (append_assoc a b rest) ∙ first.on word (b ++ rest) ∙ second.on (word ++ a) rest ∙ ap (λ (text : List ℕ). tokens_from (Quoted text) rest) (append_assoc word a b);
  seen = All-append (λ byte. 32 ≤ byte) a b first.seen second.seen;
}

pub PassesQuoted-byte : (byte : ℕ) → (byte == 34) ≡ false → (byte == 92) ≡ false → 32 ≤ byte → PassesQuoted (byte ∷ [])
PassesQuoted-byte byte quote slash seen = record { on = λ word rest. rw (quote, slash) refl; seen = (seen, tt) }

pub PassesQuoted-pair : (byte : ℕ) → 32 ≤ byte → PassesQuoted (92 ∷ byte ∷ [])
PassesQuoted-pair byte seen = record {
  on = λ word rest. ap (λ (text : List ℕ). tokens_from (Quoted text) rest) (append_assoc word (92 ∷ []) (byte ∷ []));
  seen = (omega arith, (seen, tt));
}

pub PassesQuoted-all : {X : Type 0} (part : X → List ℕ) (xs : List X) → AllByRecursion (λ x. PassesQuoted (part x)) xs → PassesQuoted (flat_map part xs)
PassesQuoted-all part [] all = PassesQuoted-none
PassesQuoted-all part (x ∷ xs) all = PassesQuoted-append (part x) (flat_map part xs) all.0 (PassesQuoted-all part xs all.1)

-- the text is one word, alone or before a space
pub record Writes (text : List ℕ) (word : Word) : Type 0 where
  pub alone : tokens_of text ≡ Worded word ∷ []
  pub before : (rest : List ℕ) → tokens_of (text ++ 32 ∷ rest) ≡ Worded word ∷ tokens_of rest
  pub seen : AllByRecursion (λ byte. 32 ≤ byte) text

begins_on : (text rest : List ℕ) → begins_plain text ≡ true → begins_plain (text ++ rest) ≡ true
begins_on [] rest begins = absurd cc
begins_on (byte ∷ text) rest begins = begins

-- a word out of quotes
pub Writes-plain : (text : List ℕ) → begins_plain text ≡ true → Passes text → Writes text (record { quoted = false; text = text })
Writes-plain text begins passes = record {
  alone = tokens_of_plain text begins ∙ ap (tokens_from (Plain [])) (sym (append-nil text)) ∙ passes.on [] [];
  before = λ rest. tokens_of_plain (text ++ 32 ∷ rest) (begins_on text (32 ∷ rest) begins) ∙ passes.on [] (32 ∷ rest);
  seen = passes.seen;
}

-- a word in quotes
pub Writes-quoted : (text : List ℕ) → PassesQuoted text → Writes (34 ∷ text ++ 34 ∷ []) (record { quoted = true; text = text })
Writes-quoted text passes = record {
  alone = passes.on [] (34 ∷ []);
  before = λ rest. ap (λ (line : List ℕ). tokens_from (Quoted []) line) (append_assoc text (34 ∷ []) (32 ∷ rest)) ∙ passes.on [] (34 ∷ 32 ∷ rest);
  seen = (omega arith, All-append (λ byte. 32 ≤ byte) text (34 ∷ []) passes.seen (omega arith, tt));
}

-- texts of words, with a space before each but the first
pub tokens_of-words : (text : List ℕ) (word : Word) (texts : List (List ℕ)) (words : List Word) → Writes text word → AllZip Writes texts words → tokens_of (text ++ spaced texts) ≡ Worded word ∷ map Worded words
tokens_of-words text word [] [] first others = ap tokens_of (append-nil text) ∙ first.alone
tokens_of-words text word [] (other ∷ words) first others = absurd others
tokens_of-words text word (other ∷ texts) [] first others = absurd others
tokens_of-words text word (other ∷ texts) (second ∷ words) first others =
    first.before (other ++ spaced texts) ∙ ap (λ (tokens : List Token). Worded word ∷ tokens) (tokens_of-words other second texts words others.0 others.1)

-- none of the bytes of such a line ends a line
pub seen_words : (text : List ℕ) (word : Word) (texts : List (List ℕ)) (words : List Word) → Writes text word → AllZip Writes texts words → AllByRecursion (λ byte. 32 ≤ byte) (text ++ spaced texts)
seen_words text word [] [] first others = All-append (λ byte. 32 ≤ byte) text [] first.seen tt
seen_words text word [] (other ∷ words) first others = absurd others
seen_words text word (other ∷ texts) [] first others = absurd others
seen_words text word (other ∷ texts) (second ∷ words) first others =
    All-append (λ byte. 32 ≤ byte) text (32 ∷ other ++ spaced texts) first.seen (omega arith, seen_words other second texts words others.0 others.1)
