-- The rows that a query shows, and those behind the first of them.
use Rattle.std.proofs.Common.{◌≡◌, ◌+ℤ◌, ◌<◌, ℕ, ℤ, zero, suc, pos, List, [], ◌∷◌, length, get_or, map, filter, take, Bool, true, false, cond, refl, sym, ap, subst, ◌∙◌, arith, Less, Equal, Greater, Ordering}
use Rattle.std.specs.List.{AllByRecursion}
use Rattle.std.specs.List.Sorted.{IsPermutation, IsSorted, IsSortedBy}
use Rattle.std.specs.Int.Signed.{le_z, ◌<ℤ◌}
use Rattle.std.specs.Ordering.{is_lt, is_ge, int_cmp, MatchOrdering}
use Rattle.std.specs.Cmp.{IsTotalOrder, int_ranks}
use Rattle.std.proofs.lemmas.Int.{ints}
use Rattle.std.proofs.lemmas.List.Kept.{IsSortedBy-filter}
use Rattle.std.proofs.lemmas.List.Sorted.{sorted_far}
use Rattle.sqlite_trees.proofs.ListLemmas.{filter-map, filter-filter, filter_all, all-permutation, IsPermutation-filter}
use Rattle.sqlite_value.proofs.OrderLemmas.{value_cmp_total, value_cmp-Int, value_cmp-Null}
use Rattle.sqlite.specs.declared.types.Value.{Value}
use Rattle.sqlite.specs.declared.types.Value.TheVariants.{Null, Int, Real, Text, Blob}
use Rattle.sqlite.specs.Collation.TheVariants.{Binary}
use Rattle.sqlite.specs.Ops.{binary, is_true}
use Rattle.sqlite_sql.specs.declared.ops.BinaryOp.TheVariants as op
use Rattle.sqlite_sql.specs.declared.ops.CompareOp.TheVariants as cmp
use Rattle.sqlite.specs.Order.{Row, column, value_cmp}
use Rattle.dns_sqlite.specs.Tables.{seen, not_below, by_key, HasRows, HasRow}
use Rattle.dns_sqlite.proofs.Finds.{lt, weak, is_lt_then, is_true_of}

-- ---- numbers

pub ge_is : (a b : ℤ) → is_ge (int_cmp a b) ≡ le_z b a
ge_is a b = go (int_cmp a b) (int_ranks a b)
  where
    go : (r : Ordering) → MatchOrdering r (a <ℤ b) (a ≡ b) (b <ℤ a) → is_ge r ≡ le_z b a
    go Less m = let it : le_z b a ≡ false = grind (arith, ints) in sym it
    go Equal m = let it : le_z b a ≡ true = grind (arith, ints) in sym it
    go Greater m = let it : le_z b a ≡ true = grind (arith, ints) in sym it

-- ---- values that are not below a number

-- what is not below a number is not below a lesser one
lower : (v : Value) (i j : ℤ) → le_z i j ≡ true → is_ge (value_cmp v (Int j)) ≡ true → is_ge (value_cmp v (Int i)) ≡ true
lower v i j least above = go (int_cmp i j) refl (int_ranks i j)
  where
    beside : (o : Ordering) → value_cmp v (Int i) ≡ o → int_cmp i j ≡ Less → is_ge (value_cmp v (Int i)) ≡ true
    beside Less e less =
        let order : IsTotalOrder value_cmp = value_cmp_total in
        let far : value_cmp v (Int j) ≡ Less = order.trans v (Int i) (Int j) e (value_cmp-Int i j ∙ less) in
        absurd (let no : is_ge Less ≡ true = subst (λ o. is_ge o ≡ true) far above in cc)
    beside Equal e less = rw e refl
    beside Greater e less = rw e refl

    go : (o : Ordering) → int_cmp i j ≡ o → MatchOrdering o (i <ℤ j) (i ≡ j) (j <ℤ i) → is_ge (value_cmp v (Int i)) ≡ true
    go Less e m = beside (value_cmp v (Int i)) refl e
    go Equal e m = subst (λ n. is_ge (value_cmp v (Int n)) ≡ true) (sym m) above
    go Greater e m = absurd (let it : le_z i j ≡ false = grind (arith, ints) in cc)

not_less_ge : (o : Ordering) → is_lt o ≡ false → is_ge o ≡ true
not_less_ge Less e = absurd (cc)
not_less_ge Equal e = refl
not_less_ge Greater e = refl

-- the test of the query, on what a row is sorted by
abbrev at_least : ℤ → Row × Row → Bool
at_least id o = is_true (binary (op.Compare cmp.Ge Binary) (column o.0 0) (Int id))

-- NULL is below all numbers, so it needs no test of its own
at_least_is : (id : ℤ) (v : Value) → is_true (binary (op.Compare cmp.Ge Binary) v (Int id)) ≡ is_ge (value_cmp v (Int id))
unfolding binary
at_least_is id Null = sym (ap is_ge (value_cmp-Null (Int id)))
at_least_is id (Int n) = is_true_of (is_ge (value_cmp (Int n) (Int id)))
at_least_is id (Real x) = is_true_of (is_ge (value_cmp (Real x) (Int id)))
at_least_is id (Text t) = is_true_of (is_ge (value_cmp (Text t) (Int id)))
at_least_is id (Blob b) = is_true_of (is_ge (value_cmp (Blob b) (Int id)))

lt_values : (x y : Row × Row) → lt x y ≡ is_lt (value_cmp (column x.0 0) (column y.0 0))
lt_values x y = is_lt_then (value_cmp (column x.0 0) (column y.0 0))

-- ---- what the query found

-- what is shown of a row begins with its key, and is not below the id
abbrev IsFound : ℤ → Row × Row → Type 0
IsFound id o = (column o.0 0 ≡ column o.1 0) × (at_least id o ≡ true)

found_all : (id : ℤ) (rows : List Row) → AllByRecursion (IsFound id) (map seen (filter (not_below id) rows))
found_all id [] = tt
found_all id (r ∷ rows) = go (not_below id r) refl (found_all id rows)
  where
    go : (b : Bool) → not_below id r ≡ b → AllByRecursion (IsFound id) (map seen (filter (not_below id) rows)) → AllByRecursion (IsFound id) (map seen (cond b (r ∷ filter (not_below id) rows) (filter (not_below id) rows)))
    go true e more = ((refl, e), more)
    go false e more = more

all_from : {X : Type 0} (P : X → Type 0) (xs : List X) (d : X) → ((j : ℕ) → j < length xs → P (get_or xs j d)) → AllByRecursion P xs
all_from P [] d h = tt
all_from P (x ∷ xs) d h = (h 0 (omega arith), all_from P xs d (λ j within. h (suc j) (omega arith)))

-- the second row passes the test, and so do all behind it
rest_above : (next : ℤ) (o t : Row × Row) (os : List (Row × Row)) → IsSorted by_key (o ∷ t ∷ os) → (m : ℤ) → column t.0 0 ≡ Int m → le_z next m ≡ true
    → AllByRecursion (λ x. at_least next x ≡ true) (t ∷ os)
rest_above next o t os up m is above =
    all_from (λ x. at_least next x ≡ true) (t ∷ os) t (λ j within.
    let x = get_or (t ∷ os) j t in
    let not_less : lt x t ≡ false = sorted_far lt weak (o ∷ t ∷ os) up 1 (suc j) t (omega arith) (omega arith) in
    let values : is_lt (value_cmp (column x.0 0) (Int m)) ≡ false = subst (λ v. is_lt (value_cmp (column x.0 0) v) ≡ false) is (sym (lt_values x t) ∙ not_less) in
    at_least_is next (column x.0 0) ∙ lower (column x.0 0) next m above (not_less_ge (value_cmp (column x.0 0) (Int m)) values))

-- the first row does not
first_below : (k : ℤ) (o : Row × Row) → column o.0 0 ≡ Int k → at_least (k +ℤ pos 1) o ≡ false
first_below k o is =
    let past : le_z (k +ℤ pos 1) k ≡ false = grind (arith, ints) in
    at_least_is (k +ℤ pos 1) (column o.0 0) ∙ subst (λ v. is_ge (value_cmp v (Int (k +ℤ pos 1))) ≡ false) (sym is) (ap is_ge (value_cmp-Int k (k +ℤ pos 1)) ∙ ge_is k (k +ℤ pos 1) ∙ past)

-- ---- the first row is passed

drop_first : {X : Type 0} (p : X → Bool) (x : X) (xs : List X) → p x ≡ false → AllByRecursion (λ y. p y ≡ true) xs → filter p (x ∷ xs) ≡ xs
drop_first p x xs none all = rw none (filter_all p xs all)

one_further : (a k : ℤ) → le_z a k ≡ true → le_z a (k +ℤ pos 1) ≡ true
one_further a k e = grind (arith, ints)

rest_found : (next k m : ℤ) (table : List Row) (o t : Row × Row) (os : List (Row × Row)) (count : ℕ) → column o.1 0 ≡ Int k → column t.1 0 ≡ Int m → le_z (k +ℤ pos 1) m ≡ true
    → IsPermutation (map seen (filter (not_below next) table)) (o ∷ t ∷ os) → IsSorted by_key (o ∷ t ∷ os) → HasRows (suc count) (k +ℤ pos 1) table (t.1 ∷ take count (map (λ (x : Row × Row). x.1) os))
rest_found next k m table o t os count first second above same up =
    let from = k +ℤ pos 1 in
    let all = all-permutation (IsFound next) _ (o ∷ t ∷ os) same (found_all next table) in
    let head : column o.0 0 ≡ Int k = all.0.0 ∙ first in
    let tests : is_ge (int_cmp k next) ≡ true = sym (ap is_ge (value_cmp-Int k next)) ∙ subst (λ v. is_ge (value_cmp v (Int next)) ≡ true) head (sym (at_least_is next (column o.0 0)) ∙ all.0.1) in
    let low : le_z next k ≡ true = sym (ge_is k next) ∙ tests in
    let lesser : le_z next (k +ℤ pos 1) ≡ true = one_further next k low in
    let kept : filter (at_least from) (o ∷ t ∷ os) ≡ t ∷ os = drop_first (at_least from) o (t ∷ os) (first_below k o head) (rest_above from o t os up m (all.1.0.0 ∙ second) above) in
    let implies = λ (r : Row) (e : not_below from r ≡ true). at_least_is next (column r 0) ∙ lower (column r 0) next from lesser (sym (at_least_is from (column r 0)) ∙ e) in
    let shown : filter (at_least from) (map seen (filter (not_below next) table)) ≡ map seen (filter (not_below from) table) =
    filter-map (at_least from) seen (filter (not_below next) table) ∙ ap (map seen) (filter-filter (not_below from) (not_below next) implies table) in
    let moved : IsPermutation (filter (at_least from) (map seen (filter (not_below next) table))) (filter (at_least from) (o ∷ t ∷ os)) = IsPermutation-filter (at_least from) _ _ same in (
      t ∷ os,
      subst (λ xs. IsPermutation xs (t ∷ os)) shown (subst (IsPermutation (filter (at_least from) (map seen (filter (not_below next) table)))) kept moved),
      subst (IsSortedBy lt) kept (IsSortedBy-filter lt weak (at_least from) (o ∷ t ∷ os) up),
      refl,
    )

-- The rows behind the first one are the rows from the id after its own, where the next of them has a greater id.
pub next_has : (count : ℕ) (next k m : ℤ) (table rest : List Row) (r s : Row) → column r 0 ≡ Int k → column s 0 ≡ Int m → le_z (k +ℤ pos 1) m ≡ true → HasRows count next table (r ∷ s ∷ rest)
    → (n : ℕ) × HasRows n (k +ℤ pos 1) table (s ∷ rest)
next_has count next k m table rest r s first second above has = go count has.0 has.1 has.2 has.3
  where
    go : (count : ℕ) (ordered : List (Row × Row)) → IsPermutation (map seen (filter (not_below next) table)) ordered → IsSorted by_key ordered → r ∷ s ∷ rest ≡ take count (map (λ (x : Row × Row). x.1) ordered)
        → (n : ℕ) × HasRows n (k +ℤ pos 1) table (s ∷ rest)
    go zero ordered same up e = absurd (cc)
    go (suc n) [] same up e = absurd (cc)
    go (suc zero) (o ∷ os) same up e = absurd (cc)
    go (suc (suc n)) (o ∷ []) same up e = absurd (cc)
    go (suc (suc n)) (o ∷ t ∷ os) same up e =
        let one : o.1 ≡ r = cc in
        let two : t.1 ≡ s = cc in
        let more : take n (map (λ (x : Row × Row). x.1) os) ≡ rest = cc in
        let it = rest_found next k m table o t os n (ap (λ (x : Row). column x 0) one ∙ first) (ap (λ (x : Row). column x 0) two ∙ second) above same up in
        (suc n, subst (λ xs. HasRows (suc n) (k +ℤ pos 1) table xs) (ap (λ x. x ∷ take n (map (λ (x : Row × Row). x.1) os)) two ∙ ap (λ xs. s ∷ xs) more) it)

-- ---- the first row

-- the first of some rows is the first of all
pub first_has : (count : ℕ) (id : ℤ) (table rows : List Row) (r : Row) → HasRows count id table (r ∷ rows) → HasRow id table (r ∷ [])
first_has count id table rows r h = (h.0, h.1, h.2, go count h.0 h.3)
  where
    go : (n : ℕ) (ordered : List (Row × Row)) → r ∷ rows ≡ take n (map (λ (x : Row × Row). x.1) ordered) → r ∷ [] ≡ take 1 (map (λ (x : Row × Row). x.1) ordered)
    go zero ordered e = absurd (cc)
    go (suc n) [] e = absurd (cc)
    go (suc n) (o ∷ os) e = let one : r ≡ o.1 = cc in ap (λ x. x ∷ []) one

pub none_has : (count : ℕ) (id : ℤ) (table : List Row) → HasRows (suc count) id table [] → HasRow id table []
none_has count id table h = (h.0, h.1, h.2, go h.0 h.3)
  where
    go : (ordered : List (Row × Row)) → [] ≡ take (suc count) (map (λ (x : Row × Row). x.1) ordered) → [] ≡ take 1 (map (λ (x : Row × Row). x.1) ordered)
    go [] e = refl
    go (o ∷ os) e = absurd (cc)
