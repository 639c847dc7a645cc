-- Words on lists.
use Rattle.std.specs.Prelude.{◌≡◌, ℕ, ◌+◌, List, [], ◌∷◌, ◌++◌}

-- the items begin with what was seen
abbrev pub StartsWith : {X : Type 0} → List X → List X → Type 0
StartsWith {X} items seen = (more : List X) × (items ≡ seen ++ more)

-- f of each, added up
abbrev pub total : {X : Type 0} → (X → ℕ) → List X → ℕ
total f [] = 0
total f (x ∷ xs) = f x + total f xs

-- the first changed by f
abbrev pub with_head : {X : Type 0} → (X → X) → List X → List X
with_head f [] = []
with_head f (x ∷ xs) = f x ∷ xs

abbrev pub only_first : {X : Type 0} → List X → List X
only_first [] = []
only_first (x ∷ xs) = x ∷ []

abbrev pub but_first : {X : Type 0} → List X → List X
but_first [] = []
but_first (x ∷ xs) = xs
