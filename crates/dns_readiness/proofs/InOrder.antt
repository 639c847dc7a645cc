-- Entries in the order of their moments.
use Rattle.std.proofs.Common.{◌≡◌, ◌≤◌, ◌<◌, ℕ, zero, suc, Bool, true, false, List, [], ◌∷◌, ◌++◌, length, take, drop, get_or, arith, subst}
use Rattle.std.specs.List.{AllByRecursion, insert, items_where_true}
use Rattle.dns_readiness.specs.Order.{IsInOrder}

pub all_weaker : (P Q : ℕ × ℕ → Type 0) → ((e : ℕ × ℕ) → P e → Q e) → (es : List (ℕ × ℕ)) → AllByRecursion P es → AllByRecursion Q es
all_weaker P Q f [] h = tt
all_weaker P Q f (e ∷ es) h = (f e h.0, all_weaker P Q f es h.1)

all_push : (P : ℕ × ℕ → Type 0) (es fs : List (ℕ × ℕ)) → AllByRecursion P es → AllByRecursion P fs → AllByRecursion P (es ++ fs)
all_push P [] fs h i = i
all_push P (e ∷ es) fs h i = (h.0, all_push P es fs h.1 i)

all_take : (P : ℕ × ℕ → Type 0) (es : List (ℕ × ℕ)) (i : ℕ) → AllByRecursion P es → AllByRecursion P (take i es)
all_take P es zero h = tt
all_take P [] (suc i) h = tt
all_take P (e ∷ es) (suc i) h = (h.0, all_take P es i h.1)

all_drop : (P : ℕ × ℕ → Type 0) (es : List (ℕ × ℕ)) (i : ℕ) → AllByRecursion P es → AllByRecursion P (drop i es)
all_drop P es zero h = h
all_drop P [] (suc i) h = tt
all_drop P (e ∷ es) (suc i) h = all_drop P es i h.1

pub all_at : (P : ℕ × ℕ → Type 0) (es : List (ℕ × ℕ)) (i : ℕ) (d : ℕ × ℕ) → i < length es → AllByRecursion P es → P (get_or es i d)
all_at P [] i d l h = absurd (omega arith)
all_at P (e ∷ es) zero d l h = h.0
all_at P (e ∷ es) (suc i) d l h = all_at P es i d (omega arith) h.1

-- one that stands between those that are no later and those that are later
pub in_order_insert : (es : List (ℕ × ℕ)) (i : ℕ) (y : ℕ × ℕ) → IsInOrder es → AllByRecursion (λ e. e.0 ≤ y.0) (take i es) → AllByRecursion (λ e. y.0 < e.0) (drop i es)
    → IsInOrder (insert es i y)
in_order_insert es zero y o a b = (all_weaker (λ e. y.0 < e.0) (λ e. y.0 ≤ e.0) (λ e l. omega (arith, l)) es b, o)
in_order_insert [] (suc i) y o a b = (tt, tt)
in_order_insert (e ∷ es) (suc i) y o a b = (
  all_push (λ f. e.0 ≤ f.0) (take i es) (y ∷ drop i es) (all_take (λ f. e.0 ≤ f.0) es i o.0) (a.0, all_drop (λ f. e.0 ≤ f.0) es i o.0),
  in_order_insert es i y o.1 a.1 b,
)

-- what is left of entries by answers
all_where : (P : ℕ × ℕ → Type 0) (bs : List Bool) (es : List (ℕ × ℕ)) → AllByRecursion P es → AllByRecursion P (items_where_true bs es)
all_where P [] es h = tt
all_where P (b ∷ bs) [] h = tt
all_where P (true ∷ bs) (e ∷ es) h = (h.0, all_where P bs es h.1)
all_where P (false ∷ bs) (e ∷ es) h = all_where P bs es h.1

pub in_order_where : (bs : List Bool) (es : List (ℕ × ℕ)) → IsInOrder es → IsInOrder (items_where_true bs es)
in_order_where [] es o = tt
in_order_where (b ∷ bs) [] o = tt
in_order_where (true ∷ bs) (e ∷ es) o = (all_where (λ f. e.0 ≤ f.0) bs es o.0, in_order_where bs es o.1)
in_order_where (false ∷ bs) (e ∷ es) o = in_order_where bs es o.1

-- those through a place whose moment is no later
pub all_through : (es : List (ℕ × ℕ)) (i : ℕ) (d : ℕ × ℕ) (at : ℕ) → IsInOrder es → i < length es → (get_or es i d).0 ≤ at → AllByRecursion (λ e. e.0 ≤ at) (take (suc i) es)
all_through [] i d at o l p = absurd (omega arith)
all_through (e ∷ es) zero d at o l p = (p, tt)
all_through (e ∷ es) (suc i) d at o l p =
    let q = all_at (λ f. e.0 ≤ f.0) es i d (omega arith) o.0 in
    (omega (arith, p, q), all_through es i d at o.1 (omega arith) p)

-- one more at the front of what is left
pub all_from : (P : ℕ × ℕ → Type 0) (es : List (ℕ × ℕ)) (i : ℕ) (d : ℕ × ℕ) → i < length es → P (get_or es i d) → AllByRecursion P (drop (suc i) es) → AllByRecursion P (drop i es)
all_from P [] i d l p h = absurd (omega arith)
all_from P (e ∷ es) zero d l p h = (p, h)
all_from P (e ∷ es) (suc i) d l p h = all_from P es i d (omega arith) p h

-- the first is no later than the others
pub first_least : (es : List (ℕ × ℕ)) (d : ℕ × ℕ) (moment : ℕ) → IsInOrder es → d ≡ get_or es 0 d → moment ≤ d.0 → AllByRecursion (λ e. moment ≤ e.0) es
first_least [] d moment o is l = tt
first_least (e ∷ es) d moment o is l =
    let first : moment ≤ e.0 = subst (λ (f : ℕ × ℕ). moment ≤ f.0) is l in
    (first, all_weaker (λ f. e.0 ≤ f.0) (λ f. moment ≤ f.0) (λ f k. omega (arith, first, k)) es o.0)
