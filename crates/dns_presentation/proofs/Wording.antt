-- How the words of a line are read from its front on.
use Rattle.std.proofs.Common.{◌≡◌, ℕ, ◌+◌, ◌<◌, Bool, true, false, ◌||◌, ◌==◌, List, [], ◌∷◌, length, take, drop, if◌then◌else◌, refl, ap, sym, ◌∙◌, arith}
use Rattle.std.proofs.lemmas.List.{take_more, at_drop_more}
use Rattle.dns_presentation.specs.Words.{Plain, PlainEscape, Quoted, QuotedEscape, is_blank, is_stop, begins_plain, tokens_of, tokens_from}

-- a choice that comes to the last case, whatever the first cases are
last_choice : {A : Type 0} (blank quote note opening closing : Bool) (x y z u v w other : A) → (blank || (quote || (note || (opening || closing)))) ≡ false
    → (if blank then x else if quote then y else if note then z else if opening then u else if closing then v else w) ≡ (if blank || (quote || (note || (opening || closing))) then other else w)
last_choice true quote note opening closing x y z u v w other none = absurd cc
last_choice false true note opening closing x y z u v w other none = absurd cc
last_choice false false true opening closing x y z u v w other none = absurd cc
last_choice false false false true closing x y z u v w other none = absurd cc
last_choice false false false false true x y z u v w other none = absurd cc
last_choice false false false false false x y z u v w other none = refl

-- a word out of quotes may be read as one that went on with no byte
pub tokens_of_plain : (line : List ℕ) → begins_plain line ≡ true → tokens_of line ≡ tokens_from (Plain []) line
tokens_of_plain [] plain = absurd cc
tokens_of_plain (byte ∷ line) plain =
    let none : is_stop byte ≡ false = grind arith in
    last_choice (is_blank byte) (byte == 34) (byte == 59) (byte == 40) (byte == 41) _ _ _ _ _ _ _ none

-- the byte behind a backslash is part of its word
pub plain_past : (line : List ℕ) (place : ℕ) → place < length line → tokens_from (PlainEscape (take place line)) (drop place line) ≡ tokens_from (Plain (take (place + 1) line)) (drop (place + 1) line)
plain_past line place within =
    at_drop_more (tokens_from (PlainEscape (take place line))) line place 0 within
    ∙ ap (λ word. tokens_from (Plain word) (drop (place + 1) line)) (sym (take_more line place 0 within))

-- so it is in quotes
pub quoted_past : (line : List ℕ) (place : ℕ) → place < length line → tokens_from (QuotedEscape (take place line)) (drop place line) ≡ tokens_from (Quoted (take (place + 1) line)) (drop (place + 1) line)
quoted_past line place within =
    at_drop_more (tokens_from (QuotedEscape (take place line))) line place 0 within
    ∙ ap (λ word. tokens_from (Quoted word) (drop (place + 1) line)) (sym (take_more line place 0 within))
