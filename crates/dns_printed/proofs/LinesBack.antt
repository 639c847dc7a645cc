-- The lines of a text are those that it was made of.
use Rattle.std.proofs.Common.{◌≡◌, ℕ, zero, suc, ◌-◌, ◌≤◌, false, ◌==◌, List, [], ◌∷◌, ◌++◌, length, slice_get, map, refl, ap, ◌∙◌, arith, append_assoc, append-nil}
use Rattle.std.specs.List.{AllByRecursion, flat_map}
use Rattle.dns_presentation.specs.Lines.{is_some_of, ends_in, without_return, lines_from, lines_of}
use Rattle.dns_printed.proofs.Numbers.{All-append}

-- a line without control characters
abbrev pub IsSeen : List ℕ → Type 0
IsSeen = AllByRecursion (λ byte. 32 ≤ byte)

no_return : (line : List ℕ) (place : ℕ) → IsSeen line → is_some_of 13 (slice_get line place) ≡ false
no_return [] place seen = refl
no_return (byte ∷ line) zero seen = grind (arith, seen.0)
no_return (byte ∷ line) (suc place) seen = no_return line place seen.1

whole_line : (line : List ℕ) → IsSeen line → without_return line ≡ line
whole_line line seen =
    let none : ends_in 13 line ≡ false = no_return line (length line - 1) seen in
    rw none refl

lines_on : (front line text : List ℕ) → IsSeen front → IsSeen line → lines_from front (line ++ 10 ∷ text) ≡ (front ++ line) ∷ lines_of text
lines_on front [] text before seen = rw (append-nil front, whole_line front before) refl
lines_on front (byte ∷ line) text before seen =
    let other : (byte == 10) ≡ false = grind (arith, seen.0) in
    rw other (lines_on (front ++ byte ∷ []) line text (All-append (λ byte. 32 ≤ byte) front (byte ∷ []) before (seen.0, tt)) seen.1
    ∙ ap (λ (line : List ℕ). line ∷ lines_of text) (append_assoc front (byte ∷ []) line))

-- lines, each with its end, are the lines of their text
pub lines_of-lines : {X : Type 0} (line : X → List ℕ) (xs : List X) → AllByRecursion (λ x. IsSeen (line x)) xs → lines_of (flat_map (λ x. line x ++ 10 ∷ []) xs) ≡ map line xs
lines_of-lines line [] seen = refl
lines_of-lines line (x ∷ xs) seen =
    ap lines_of (append_assoc (line x) (10 ∷ []) (flat_map (λ x. line x ++ 10 ∷ []) xs))
    ∙ lines_on [] (line x) (flat_map (λ x. line x ++ 10 ∷ []) xs) tt seen.0
    ∙ ap (λ (lines : List (List ℕ)). line x ∷ lines) (lines_of-lines line xs seen.1)
