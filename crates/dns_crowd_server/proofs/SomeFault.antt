-- A sum of counts of which one is above 0.
use Rattle.std.proofs.Common.{◌≡◌, ◌<◌, ◌+◌, ℕ, true, arith}
use Rattle.std.specs.Prelude.{min, nat_lt}
use Rattle.std.proofs.lemmas.Bool.Decides.{nat_tests}

pub one_of_first : (a b : ℕ) → nat_lt 0 a ≡ true → 1 ≡ min (a + b) 1
one_of_first a b h = let p : 0 < a = grind (arith, nat_tests, h) in omega (arith, p)

pub one_of_second : (a b : ℕ) → nat_lt 0 b ≡ true → 1 ≡ min (a + b) 1
one_of_second a b h = let p : 0 < b = grind (arith, nat_tests, h) in omega (arith, p)
