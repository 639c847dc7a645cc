-- A stable sort of numbered records gives their list.
use Rattle.std.proofs.Common.{◌≡◌, Ordering, ℕ, suc, ◌<◌, ◌≤◌, Bool, true, false, List, [], ◌∷◌, length, get_or, map, refl, sym, ap, ◌∙◌, arith, ◌==◌, if◌then◌else◌, Result, Ok, Err, IfOk}
use Rattle.std.specs.Prelude.{filter, not, ◌&&◌}
use Rattle.std.specs.List.{AllByRecursion}
use Rattle.std.specs.List.Sorted.{IsStableBy, IsNonDecreasingBy, ties}
use Rattle.std.specs.Ordering.{nat_cmp, is_lt, MatchOrdering}
use Rattle.std.specs.declared.cmp.Ordering.TheVariants.{Less, Equal, Greater}
use Rattle.std.proofs.lemmas.Cmp.{ranked}
use Rattle.std.proofs.lemmas.Bool.Decides.{Decides-eqb}
use Rattle.dns_wire.specs.declared.record.Record.{Record}
use Rattle.dns_zone_map.specs.Order.{Numbered, by_number, plain, list_of}
use Rattle.dns_zone_map.proofs.Sorting.{IsAscending, ascending, sorted_stays, filter_sorted}
use Rattle.dns_zone_map.proofs.Lent.{filter_none, all_to}

abbrev tied : ℕ → Numbered → Bool
tied n y = y.number == n

same_itself : (n : ℕ) → (n == n) ≡ true
same_itself n = (Decides-eqb n n).1 refl

apart_test : (m n : ℕ) → (m ≡ n → ⊥) → (m == n) ≡ false
apart_test m n h = no_true (m == n) (λ t. h ((Decides-eqb m n).0 t))
  where
    no_true : (b : Bool) → (b ≡ true → ⊥) → b ≡ false
    no_true true h = absurd (h refl)
    no_true false h = refl

-- records of equal numbers are those that a sort by number leaves beside one another
ties_are : (x y : Numbered) → ties (λ a b. is_lt (nat_cmp a.number b.number)) x y ≡ tied x.number y
ties_are x y = go (nat_cmp x.number y.number) (nat_cmp y.number x.number) (ranked x.number y.number _ refl) (ranked y.number x.number _ refl)
  where
    go : (o p : Ordering) → MatchOrdering o (x.number < y.number) (x.number ≡ y.number) (y.number < x.number) → MatchOrdering p (y.number < x.number) (y.number ≡ x.number) (x.number < y.number) → (not (is_lt o) && not (is_lt p)) ≡ (y.number == x.number)
    go Less p a b = sym (apart_test y.number x.number (λ e. omega (arith, a, e)))
    go Equal Less a b = absurd (omega (arith, a, b))
    go Equal Equal a b = sym ((Decides-eqb y.number x.number).1 b)
    go Equal Greater a b = absurd (omega (arith, a, b))
    go Greater Less a b = sym (apart_test y.number x.number (λ e. omega (arith, a, e)))
    go Greater Equal a b = absurd (omega (arith, a, b))
    go Greater Greater a b = absurd (omega (arith, a, b))

filter_same : (p q : Numbered → Bool) → ((y : Numbered) → p y ≡ q y) → (ys : List Numbered) → filter p ys ≡ filter q ys
filter_same p q e [] = refl
filter_same p q e (y ∷ ys) = ap (λ b. if b then y ∷ filter p ys else filter p ys) (e y) ∙ ap (λ (zs : List Numbered). if q y then y ∷ zs else zs) (filter_same p q e ys)

kept_if : (n : ℕ) (b : Bool) (y : Numbered) (ys : List Numbered) → tied n y ≡ b → AllByRecursion (λ z. z.number ≡ n) (filter (tied n) ys) → AllByRecursion (λ z. z.number ≡ n) (if b then y ∷ filter (tied n) ys else filter (tied n) ys)
kept_if n true y ys t ih = ((Decides-eqb y.number n).0 t, ih)
kept_if n false y ys t ih = ih

kept_same : (n : ℕ) (ys : List Numbered) → AllByRecursion (λ z. z.number ≡ n) (filter (tied n) ys)
kept_same n [] = tt
kept_same n (y ∷ ys) = kept_if n (tied n y) y ys refl (kept_same n ys)

level : (n : ℕ) (ys : List Numbered) → AllByRecursion (λ z. z.number ≡ n) ys → IsAscending ys
level n [] h = tt
level n (y ∷ ys) h = (all_to (λ z. z.number ≡ n) (λ z. y.number ≤ z.number) (λ z e. let f : y.number ≡ n = h.0 in omega (arith, e, f)) ys h.1, level n ys h.1)

-- the records of one number stand in the list as they stood
tied_sorted : (n : ℕ) (xs : List Numbered) → filter (tied n) (by_number xs) ≡ filter (tied n) xs
tied_sorted n xs = filter_sorted (tied n) xs ∙ sorted_stays (filter (tied n) xs) (level n (filter (tied n) xs) (kept_same n xs))

none_tied : (n : ℕ) (ys : List Numbered) → AllByRecursion (λ y. n < y.number) ys → filter (tied n) ys ≡ []
none_tied n ys h = filter_none (tied n) ys (all_to (λ y. n < y.number) (λ y. tied n y ≡ false) (λ y p. apart_test y.number n (λ e. omega (arith, p, e))) ys h)

one_tied : (y : Numbered) (ys : List Numbered) → filter (tied y.number) (y ∷ ys) ≡ y ∷ filter (tied y.number) ys
one_tied y ys = rw (same_itself y.number) refl

lesser : (a b : Numbered) (A B : List Numbered) → a.number < b.number → IsAscending (b ∷ B) → filter (tied a.number) (a ∷ A) ≡ filter (tied a.number) (b ∷ B) → ⊥
lesser a b A B l s e =
    let none : filter (tied a.number) (b ∷ B) ≡ [] = none_tied a.number (b ∷ B) (l, all_to (λ y. b.number ≤ y.number) (λ y. a.number < y.number) (λ y p. omega (arith, l, p)) B s.0) in
    let long : suc (length (filter (tied a.number) A)) ≡ 0 = ap length (sym (one_tied a A) ∙ e ∙ none) in
    omega (arith, long)

tail_if : (n : ℕ) (b : Bool) (a : Numbered) (A B : List Numbered) → (if b then a ∷ filter (tied n) A else filter (tied n) A) ≡ (if b then a ∷ filter (tied n) B else filter (tied n) B) → filter (tied n) A ≡ filter (tied n) B
tail_if n true a A B e = cc
tail_if n false a A B e = e

joined : (a b : Numbered) (A B : List Numbered) → ((x : Numbered) → filter (tied x.number) (a ∷ A) ≡ filter (tied x.number) (b ∷ B)) → (((x : Numbered) → filter (tied x.number) A ≡ filter (tied x.number) B) → A ≡ B) → a.number ≡ b.number → a ∷ A ≡ b ∷ B
joined a b A B h ih e =
    let at_b : filter (tied a.number) (b ∷ B) ≡ b ∷ filter (tied a.number) B = ap (λ n. filter (tied n) (b ∷ B)) e ∙ one_tied b B ∙ ap (λ n. b ∷ filter (tied n) B) (sym e) in
    let both : a ∷ filter (tied a.number) A ≡ b ∷ filter (tied a.number) B = sym (one_tied a A) ∙ h a ∙ at_b in
    let same : a ≡ b = cc in
    let rest : A ≡ B = ih (λ x. tail_if x.number (tied x.number a) a A B (h x ∙ ap (λ c. filter (tied x.number) (c ∷ B)) (sym same))) in
    ap (λ c. c ∷ A) same ∙ ap (λ (C : List Numbered). b ∷ C) rest

by_rank : (o : Ordering) (a b : Numbered) (A B : List Numbered) → MatchOrdering o (a.number < b.number) (a.number ≡ b.number) (b.number < a.number) → IsAscending (a ∷ A) → IsAscending (b ∷ B) → ((x : Numbered) → filter (tied x.number) (a ∷ A) ≡ filter (tied x.number) (b ∷ B))
    → (((x : Numbered) → filter (tied x.number) A ≡ filter (tied x.number) B) → A ≡ B) → a ∷ A ≡ b ∷ B
by_rank Less a b A B l s t h ih = absurd (lesser a b A B l t (h a))
by_rank Equal a b A B e s t h ih = joined a b A B h ih e
by_rank Greater a b A B l s t h ih = absurd (lesser b a B A l s (sym (h b)))

-- two sorted lists with the same records of each number are the same
same_sorted : (A B : List Numbered) → IsAscending A → IsAscending B → ((x : Numbered) → filter (tied x.number) A ≡ filter (tied x.number) B) → A ≡ B
same_sorted [] [] s t h = refl
same_sorted [] (b ∷ B) s t h =
    let long : 0 ≡ suc (length (filter (tied b.number) B)) = ap length (h b ∙ one_tied b B) in
    absurd (omega (arith, long))
same_sorted (a ∷ A) [] s t h =
    let long : suc (length (filter (tied a.number) A)) ≡ 0 = ap length (sym (one_tied a A) ∙ h a) in
    absurd (omega (arith, long))
same_sorted (a ∷ A) (b ∷ B) s t h = by_rank (nat_cmp a.number b.number) a b A B (ranked a.number b.number _ refl) s t h (same_sorted A B s.1 t.1)

ascending_from : (ys : List Numbered) → IsNonDecreasingBy (λ y. y.number) ys → IsAscending ys
ascending_from [] h = tt
ascending_from (y ∷ ys) h = (heads y ys (λ j d l. h 0 (suc j) d (omega arith) (omega arith)), ascending_from ys (λ i j d k l. h (suc i) (suc j) d (omega arith) (omega arith)))
  where
    heads : (y : Numbered) (zs : List Numbered) → ((j : ℕ) (d : Numbered) → j < length zs → y.number ≤ (get_or zs j d).number) → AllByRecursion (λ z. y.number ≤ z.number) zs
    heads y [] h = tt
    heads y (z ∷ zs) h = (h 0 z (omega arith), heads y zs (λ j d l. h (suc j) d (omega arith)))

-- what a stable sort by number leaves is the list
pub sorted_is : (xs ys : List Numbered) → IsNonDecreasingBy (λ y. y.number) ys → IsStableBy (λ a b. is_lt (nat_cmp a.number b.number)) xs ys → map plain ys ≡ list_of xs
sorted_is xs ys sorted stable =
    ap (map plain)
    (same_sorted ys (by_number xs) (ascending_from ys sorted) (ascending xs)
    (λ x.
    sym (filter_same (ties (λ a b. is_lt (nat_cmp a.number b.number)) x) (tied x.number) (ties_are x) ys) ∙ stable x ∙ filter_same (ties (λ a b. is_lt (nat_cmp a.number b.number)) x) (tied x.number) (ties_are x) xs
    ∙ sym (tied_sorted x.number xs)))

pub listed_is : {A E : Type 0} (shown : A → List Record) (xs ys : List Numbered) (result : Result A E) → IsNonDecreasingBy (λ y. y.number) ys → IsStableBy (λ a b. is_lt (nat_cmp a.number b.number)) xs ys
    → IfOk result (λ records. shown records ≡ map plain ys) → IfOk result (λ records. shown records ≡ list_of xs)
listed_is shown xs ys (Ok records) sorted stable is = is ∙ sorted_is xs ys sorted stable
listed_is shown xs ys (Err e) sorted stable is = tt
