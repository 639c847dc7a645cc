-- A line's first word, and the words behind it.
use Rattle.std.proofs.Common.{◌≡◌, ℕ, ◌<◌, Bool, true, false, List, [], ◌∷◌, ◌++◌, length, refl, sym, ap, ◌∙◌, append_assoc, arith}
use Rattle.std.specs.Prelude.{if◌then◌else◌}
use Rattle.std.proofs.lemmas.List.{append-nil}
use Rattle.dns_presentation.specs.Words.{is_blank}
use Rattle.dns_update_script.specs.Words.{ended, words_from, words_of, from_word, before_blank, from_blank, behind_word}

-- a word that has a byte goes on to the first blank
words_from-word : (b : ℕ) (word line : List ℕ) → words_from (b ∷ word) line ≡ (b ∷ word ++ before_blank line) ∷ words_of (from_blank line)
words_from-word b word [] = ap (λ w. (b ∷ w) ∷ []) (sym (append-nil word))
words_from-word b word (c ∷ line) = by_blank (is_blank c) refl (words_from-word b (word ++ c ∷ []) line)
  where
    by_blank : (blank : Bool) → is_blank c ≡ blank → words_from (b ∷ word ++ c ∷ []) line ≡ (b ∷ (word ++ c ∷ []) ++ before_blank line) ∷ words_of (from_blank line)
        → (if blank then ended (b ∷ word) (words_from [] line) else words_from (b ∷ word ++ c ∷ []) line)
        ≡ (b ∷ word ++ (if blank then [] else c ∷ before_blank line)) ∷ words_of (if blank then c ∷ line else from_blank line)
    by_blank true is more = rw (append-nil word, is) refl
    by_blank false is more = more ∙ ap (λ w. (b ∷ w) ∷ words_of (from_blank line)) (append_assoc word (c ∷ []) (before_blank line))

-- blanks before the first word are no part of it
pub words_of-split : (line : List ℕ) → 0 < length (from_word line) → words_of line ≡ before_blank (from_word line) ∷ words_of (behind_word line)
words_of-split [] some = absurd (omega arith)
words_of-split (b ∷ line) some = by_blank (is_blank b) refl some (λ h. words_of-split line h)
  where
    by_blank : (blank : Bool) → is_blank b ≡ blank → 0 < length (if blank then from_word line else b ∷ line)
        → (0 < length (from_word line) → words_of line ≡ before_blank (from_word line) ∷ words_of (behind_word line))
        → (if blank then ended [] (words_from [] line) else words_from (b ∷ []) line)
        ≡ before_blank (if blank then from_word line else b ∷ line) ∷ words_of (from_blank (if blank then from_word line else b ∷ line))
    by_blank true is some more = more some
    by_blank false is some more = rw is (words_from-word b [] line)

pub words_of-none : (line : List ℕ) → length (from_word line) ≡ 0 → words_of line ≡ []
words_of-none [] none = refl
words_of-none (b ∷ line) none = by_blank (is_blank b) none (λ h. words_of-none line h)
  where
    by_blank : (blank : Bool) → length (if blank then from_word line else b ∷ line) ≡ 0 → (length (from_word line) ≡ 0 → words_of line ≡ []) → (if blank then ended [] (words_from [] line) else words_from (b ∷ []) line) ≡ []
    by_blank true none more = more none
    by_blank false none more = absurd (omega arith)
