-- How a key stands to those that begin with another.
use Rattle.std.specs.Prelude.{ℕ, List, [], ◌∷◌}
use Rattle.std.specs.Ordering.{nat_cmp, ordering_then}
use Rattle.std.specs.declared.cmp.Ordering.{Ordering}
use Rattle.std.specs.declared.cmp.Ordering.TheVariants.{Less, Equal}

-- before them, among them, or behind them
unfoldable pub standing : List ℕ → List ℕ → Ordering
standing key [] = Equal
standing [] (f ∷ fs) = Less
standing (k ∷ ks) (f ∷ fs) = ordering_then (nat_cmp k f) (standing ks fs)
