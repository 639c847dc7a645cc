-- Order numbers as they are held.
use Rattle.std.specs.Prelude.{ℕ, List, [], ◌∷◌}
use Rattle.dns_zone_map.specs.declared.sets.HeldNumbers.{HeldNumbers}
use Rattle.dns_zone_map.specs.declared.sets.HeldNumbers.TheVariants.{Empty, One, Several}

-- none, one alone, or several
abbrev pub numbers_of : HeldNumbers → List ℕ
numbers_of Empty = []
numbers_of (One number) = number ∷ []
numbers_of (Several numbers) = numbers.value.items
