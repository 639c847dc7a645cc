use Rattle.std.proofs.Common.{◌≡◌, ℕ, zero, suc, ◌+◌, ◌≤◌, List, [], ◌∷◌, ◌++◌, set, refl, sym, ap, arith}
use mathlib.Core.Option.{some, some-injective, some-ne-none}
use lib.ListN.{get_elem?}
use Rattle.dns_ticket_lock.specs.Lists.{total}

-- the total after a change of one
pub total_set : {X : Type 0} (f : X → ℕ) (xs : List X) (i : ℕ) (v w : X) → get_elem? xs i ≡ some v → total f (set xs i w) + f v ≡ total f xs + f w
total_set f [] i v w e = absurd (some-ne-none v (sym e))
total_set f (x ∷ xs) zero v w e = let same : f x ≡ f v = ap f (some-injective x v e) in omega arith
total_set f (x ∷ xs) (suc i) v w e = let rest = total_set f xs i v w e in omega arith

pub total_snoc : {X : Type 0} (f : X → ℕ) (xs : List X) (v : X) → total f (xs ++ v ∷ []) ≡ total f xs + f v
total_snoc f [] v = omega arith
total_snoc f (x ∷ xs) v = let rest = total_snoc f xs v in omega arith

pub total_below : {X : Type 0} (f h : X → ℕ) (xs : List X) → ((i : ℕ) (x : X) → get_elem? xs i ≡ some x → f x ≤ h x) → total f xs ≤ total h xs
total_below f h [] less = omega arith
total_below f h (x ∷ xs) less = let one = less 0 x refl in let rest = total_below f h xs (λ i. less (suc i)) in omega arith

pub total_append : {X : Type 0} (f : X → ℕ) (xs ys : List X) → total f (xs ++ ys) ≡ total f xs + total f ys
total_append f [] ys = omega arith
total_append f (x ∷ xs) ys = let rest = total_append f xs ys in omega arith
