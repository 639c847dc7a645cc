-- The pairs that stand in one of two forms.
use Rattle.std.specs.Prelude.{ℕ, List, replicate}
use Rattle.dns_counts.specs.declared.pairs.Form.{Form}
use Rattle.dns_counts.specs.declared.pairs.Form.TheVariants.{Run, Listed}

-- the pairs, in order: one that stands so many times, or those of a vector
abbrev pub pairs_of : Form → List (ℕ × ℕ)
pairs_of (Run pair times) = replicate times pair
pairs_of (Listed pairs) = pairs.items
