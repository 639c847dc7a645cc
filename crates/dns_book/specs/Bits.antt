-- The bits of a number.
use Rattle.std.specs.Prelude.{ℕ, zero, suc, ◌/◌, ◌*◌, ◌%◌, ◌^◌, ◌-◌, List, [], ◌∷◌}

-- the bits of a number of this width, from the most significant down
unfoldable pub bits_of : ℕ → ℕ → List ℕ
bits_of zero n = []
bits_of (suc width) n = n / 2 ^ width % 2 ∷ bits_of width n

-- a number of this width with all but its first bits cleared, as many as the count says
abbrev pub front_of : ℕ → ℕ → ℕ → ℕ
front_of width count n = n / 2 ^ (width - count) * 2 ^ (width - count)
