-- A text that has bytes has a logical line.
use Rattle.std.proofs.Common.{◌≡◌, ℕ, ◌<◌, Bool, true, false, ◌==◌, List, [], ◌∷◌, ◌++◌, length, refl, length-append, arith}
use Rattle.std.specs.Prelude.{if◌then◌else◌}
use Rattle.std.proofs.lemmas.Bool.Decides.{Decides-eqb}
use Rattle.dns_presentation.specs.Lines.{without_return, lines_from}
use Rattle.dns_presentation.specs.LogicalLines.{LogicalLine, begun_line, longer_line, lines_after, logical_lines}

-- the list has an element
abbrev HasFirst : {X : Type 0} → List X → Type 0
HasFirst {X} xs = (first : X) × (rest : List X) × (xs ≡ first ∷ rest)

-- the last line, which has bytes
last_some : (line : List ℕ) → 0 < length line → HasFirst (lines_from line [])
last_some line filled = by_none (length line == 0) refl
  where
    by_none : (none : Bool) → (length line == 0) ≡ none → HasFirst (if none then [] else line ∷ [])
    by_none true is = let e : length line ≡ 0 = (Decides-eqb (length line) 0).0 is in absurd (omega arith)
    by_none false is = (line, [], refl)

lines_some : (line : List ℕ) (b : ℕ) (text : List ℕ) → HasFirst (lines_from line (b ∷ text))
lines_some line b [] = by_end (b == 10)
  where
    by_end : (end : Bool) → HasFirst (if end then without_return line ∷ lines_from [] [] else lines_from (line ++ b ∷ []) [])
    by_end true = (without_return line, lines_from [] [], refl)
    by_end false = last_some (line ++ b ∷ []) (omega (arith, length-append line (b ∷ [])))
lines_some line b (c ∷ text) = by_end (b == 10) (lines_some (line ++ b ∷ []) c text)
  where
    by_end : (end : Bool) → HasFirst (lines_from (line ++ b ∷ []) (c ∷ text)) → HasFirst (if end then without_return line ∷ lines_from [] (c ∷ text) else lines_from (line ++ b ∷ []) (c ∷ text))
    by_end true more = (without_return line, lines_from [] (c ∷ text), refl)
    by_end false more = more

lines_after-some : (line : LogicalLine) (lines : List (List ℕ)) → HasFirst (lines_after line lines)
lines_after-some line [] = (line, [], refl)
lines_after-some line (next ∷ lines) = by_open (line.open_count == 0) (lines_after-some (longer_line line next) lines)
  where
    by_open : (closed : Bool) → HasFirst (lines_after (longer_line line next) lines) → HasFirst (if closed then line ∷ lines_after (begun_line line.next next) lines else lines_after (longer_line line next) lines)
    by_open true more = (line, lines_after (begun_line line.next next) lines, refl)
    by_open false more = more

pub logical_lines-some : (number : ℕ) (text : List ℕ) → 0 < length text → (first : LogicalLine) × (rest : List LogicalLine) × (logical_lines number text ≡ first ∷ rest)
logical_lines-some number [] some = absurd (omega arith)
logical_lines-some number (b ∷ text) filled =
    let some = lines_some [] b text in
    rw (some.2) (lines_after-some (begun_line number some.0) some.1)
