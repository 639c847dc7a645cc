-- How a counter grows: each of its labels stands for a code, and counts how often that code was seen.
use Rattle.std.specs.Prelude.{ℕ, ◌+◌, ◌-◌, ◌^◌, min, max, List, [], ◌∷◌, ◌++◌, length, map, filter, Bool, true, not, ◌==◌, ◌&&◌}
use Rattle.std.specs.List.{list_any}

-- a count raised by a number: it stops at the greatest value of 64 bits, and never falls
abbrev pub raised : ℕ → ℕ → ℕ
raised count more = max count (min (count + more) (2 ^ 64 - 1))

-- counts raised each by its number; where there is no number they stay
abbrev pub grown : List ℕ → List ℕ → List ℕ
grown [] more = []
grown (n ∷ ns) [] = n ∷ ns
grown (n ∷ ns) (m ∷ ms) = raised n m ∷ grown ns ms

-- how often each of these codes was seen
unfoldable pub seen_of : List ℕ → List ℕ → List ℕ
seen_of codes seen = map (λ code. length (filter (λ one. one == code) seen)) codes

-- how often each of these codes was seen, and last how often one was seen that is none of them
unfoldable pub seen_or_unknown : List ℕ → List ℕ → List ℕ
seen_or_unknown codes seen = seen_of codes seen ++ length (filter (λ one. not (list_any (λ code. one == code) codes)) seen) ∷ []

-- no code stands twice
abbrev pub are_distinct : List ℕ → Bool
are_distinct [] = true
are_distinct (code ∷ codes) = not (list_any (λ other. code == other) codes) && are_distinct codes
