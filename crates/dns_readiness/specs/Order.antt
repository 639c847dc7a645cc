-- Numbers in the order of their moments.
use Rattle.std.specs.Prelude.{◌≡◌, ◌≤◌, ◌<◌, ℕ, List, [], ◌∷◌}
use Rattle.std.specs.List.{AllByRecursion}

-- each entry is a moment and a number, and no moment is behind a later one
abbrev pub IsInOrder : List (ℕ × ℕ) → Type 0
IsInOrder [] = Unit {0}
IsInOrder (e ∷ es) = AllByRecursion (λ f. e.0 ≤ f.0) es × IsInOrder es

-- the first entry is one of a number, before a moment
pub record IsFirstBefore (moment number : ℕ) (entries : List (ℕ × ℕ)) : Type 0 where
  pub at : ℕ
  pub others : List (ℕ × ℕ)
  pub is : entries ≡ (at, number) ∷ others
  pub before : at < moment
