-- A change among the numbered records of which a test tells some: what it is to the list.
use Rattle.std.proofs.Common.{◌≡◌, ℕ, ◌+◌, ◌<◌, ◌≤◌, Bool, true, false, List, [], ◌∷◌, ◌++◌, length, map, refl, sym, ap, ◌∙◌, subst, arith, if◌then◌else◌, append_assoc, length-append, Some, None}
use Rattle.std.specs.Prelude.{filter, not, Option, is_some, ◌||◌}
use Rattle.std.specs.List.{AllByRecursion, list_any}
use Rattle.std.proofs.lemmas.List.{append-nil, map-append, length-map}
use Rattle.std.proofs.lemmas.List.Elements.{filter-append}
use Rattle.dns_wire.specs.declared.record.Record.{Record}
use Rattle.dns_zone_map.specs.Order.{Numbered, plain, list_of, of_plain, AreBelow}
use Rattle.dns_zone_map.specs.Changes.{put_over, first_that, replace_if, AtMostOne, at_record}
use Rattle.dns_zone_map.proofs.Sorting.{filter_list}
use Rattle.dns_zone_map.proofs.Lent.{filter_none, filter_all, all_to}
use Rattle.dns_zone_map.proofs.Putting.{put_replaced, put_new}
use Rattle.dns_zone_map.proofs.Exists.{all_append}
use Rattle.dns_zone_map.proofs.Rest.{Fails, all_front, all_back}

-- numbered records become others in the middle, and the test tells none of the rest
pub record Middle (test : Record → Bool) (xs ys mid new : List Numbered) : Type 0 where
  pub front : List Numbered
  pub back : List Numbered
  pub was : xs ≡ front ++ (mid ++ back)
  pub is : ys ≡ front ++ (new ++ back)
  pub front_fails : Fails test front
  pub back_fails : Fails test back

head_of : List Record → Option Record
head_of [] = None
head_of (r ∷ rs) = Some r

first_if : (b : Bool) (test : Record → Bool) (r : Record) (rs : List Record) → first_that test rs ≡ head_of (filter test rs) → (if b then Some r else first_that test rs) ≡ head_of (if b then r ∷ filter test rs else filter test rs)
unfolding head_of
first_if true test r rs ih = refl
first_if false test r rs ih = ih

first_filtered : (test : Record → Bool) (rs : List Record) → first_that test rs ≡ head_of (filter test rs)
unfolding head_of
first_filtered test [] = refl
first_filtered test (r ∷ rs) = first_if (test r) test r rs (first_filtered test rs)

no_head : (rs : List Record) → head_of rs ≡ None → rs ≡ []
unfolding head_of
no_head [] h = refl
no_head (r ∷ rs) h = absurd cc

-- where none is the first that passes, none passes
pub none_filtered : (test : Record → Bool) (rs : List Record) → first_that test rs ≡ None → filter test rs ≡ []
none_filtered test rs h = no_head (filter test rs) (sym (first_filtered test rs) ∙ h)

any_if : (b : Bool) (test : Record → Bool) (r : Record) (rs : List Record) → list_any test rs ≡ is_some (first_that test rs) → (b || list_any test rs) ≡ is_some (if b then Some r else first_that test rs)
any_if true test r rs ih = refl
any_if false test r rs ih = ih

-- one passes where there is a first one
pub any_first : (test : Record → Bool) (rs : List Record) → list_any test rs ≡ is_some (first_that test rs)
any_first test [] = refl
any_first test (r ∷ rs) = any_if (test r) test r rs (any_first test rs)

few_if : (b : Bool) (test : Record → Bool) (r : Record) (rs : List Record) → (b ≡ true → AllByRecursion (λ t. test t ≡ false) rs) → length (filter test rs) ≤ 1 → length (if b then r ∷ filter test rs else filter test rs) ≤ 1
few_if true test r rs one ih = let none : length (filter test rs) ≡ 0 = ap length (filter_none test rs (one refl)) in omega (arith, none)
few_if false test r rs one ih = ih

few : (test : Record → Bool) (rs : List Record) → AtMostOne test rs → length (filter test rs) ≤ 1
few test [] h = omega arith
few test (r ∷ rs) h = few_if (test r) test r rs h.0 (few test rs h.1)

none_if : (b : Bool) (test : Record → Bool) (r : Record) (rs : List Record) → test r ≡ b → length (if b then r ∷ filter test rs else filter test rs) ≡ 0 → (length (filter test rs) ≡ 0 → AllByRecursion (λ t. test t ≡ false) rs) → (test r ≡ false) × AllByRecursion (λ t. test t ≡ false) rs
none_if true test r rs t h ih = absurd (omega (arith, h))
none_if false test r rs t h ih = (t, ih h)

none_pass : (test : Record → Bool) (rs : List Record) → length (filter test rs) ≡ 0 → AllByRecursion (λ t. test t ≡ false) rs
none_pass test [] h = tt
none_pass test (r ∷ rs) h = none_if (test r) test r rs refl h (none_pass test rs)

one_if : (b : Bool) (test : Record → Bool) (r : Record) (rs : List Record) → test r ≡ b → length (if b then r ∷ filter test rs else filter test rs) ≤ 1 → (length (filter test rs) ≤ 1 → AtMostOne test rs) → (test r ≡ true → AllByRecursion (λ t. test t ≡ false) rs) × AtMostOne test rs
one_if true test r rs t h ih = ((λ _. none_pass test rs (omega (arith, h))), ih (omega (arith, h)))
one_if false test r rs t h ih = ((λ y. absurd (cc)), ih h)

one_of_few : (test : Record → Bool) (rs : List Record) → length (filter test rs) ≤ 1 → AtMostOne test rs
one_of_few test [] h = tt
one_of_few test (r ∷ rs) h = one_if (test r) test r rs refl h (one_of_few test rs)

same_here : (test : Record → Bool) (r : Record) (b : Bool) (x : Numbered) → test x.one ≡ b → b ≡ false → at_record (replace_if test r) x ≡ x
same_here test r true x t f = absurd cc
same_here test r false x t f = rw t refl

-- records at which the test fails stay
kept : (test : Record → Bool) (r : Record) (xs : List Numbered) → Fails test xs → map (at_record (replace_if test r)) xs ≡ xs
kept test r [] h = refl
kept test r (x ∷ xs) h = ap (λ (y : Numbered). y ∷ map (at_record (replace_if test r)) xs) (same_here test r (test x.one) x refl h.0) ∙ ap (λ (ys : List Numbered). x ∷ ys) (kept test r xs h.1)

pub turned_not : (b : Bool) → b ≡ false → not b ≡ true
turned_not true h = absurd cc
turned_not false h = refl

module _ (test : Record → Bool) (xs ys mid new : List Numbered) (m : Middle test xs ys mid new) where
  -- what passes is in the middle
  in_middle : filter (of_plain test) xs ≡ filter (of_plain test) mid
  in_middle =
      ap (filter (of_plain test)) m.was ∙ filter-append (of_plain test) m.front (mid ++ m.back) ∙ ap (λ (zs : List Numbered). zs ++ filter (of_plain test) (mid ++ m.back)) (filter_none (of_plain test) m.front m.front_fails)
      ∙ filter-append (of_plain test) mid m.back ∙ ap (λ (zs : List Numbered). filter (of_plain test) mid ++ zs) (filter_none (of_plain test) m.back m.back_fails) ∙ append-nil (filter (of_plain test) mid)

  module _ (sorted : list_of mid ≡ map plain mid) where
    pub filtered_mid : filter test (list_of xs) ≡ filter test (map plain mid)
    filtered_mid = filter_list test xs ∙ ap list_of in_middle ∙ sym (filter_list test mid) ∙ ap (filter test) sorted

    pub first_mid : first_that test (list_of xs) ≡ first_that test (map plain mid)
    first_mid = first_filtered test (list_of xs) ∙ ap head_of filtered_mid ∙ sym (first_filtered test (map plain mid))

    pub any_mid : list_any test (list_of xs) ≡ list_any test (map plain mid)
    any_mid = any_first test (list_of xs) ∙ ap is_some first_mid ∙ sym (any_first test (map plain mid))

    pub one_mid : AtMostOne test (list_of xs) → AtMostOne test (map plain mid)
    one_mid h = one_of_few test (map plain mid) (let l : length (filter test (list_of xs)) ≤ 1 = few test (list_of xs) h in subst (λ (rs : List Record). length rs ≤ 1) filtered_mid l)

    mapped : (r : Record) → new ≡ map (at_record (replace_if test r)) mid → ys ≡ map (at_record (replace_if test r)) xs
    mapped r e =
        let f : Numbered → Numbered = at_record (replace_if test r) in
        let parts : map f xs ≡ map f m.front ++ (map f mid ++ map f m.back) = ap (map f) m.was ∙ map-append f m.front (mid ++ m.back) ∙ ap (λ (zs : List Numbered). map f m.front ++ zs) (map-append f mid m.back) in
        m.is ∙ ap (λ (zs : List Numbered). m.front ++ (zs ++ m.back)) e
        ∙ sym (parts ∙ ap (λ (zs : List Numbered). zs ++ (map f mid ++ map f m.back)) (kept test r m.front m.front_fails) ∙ ap (λ (zs : List Numbered). m.front ++ (map f mid ++ zs)) (kept test r m.back m.back_fails))

    -- a record came in the place of the one that passes
    pub list_replaced : (r : Record) → new ≡ map (at_record (replace_if test r)) mid → AtMostOne test (list_of xs) → list_any test (map plain mid) ≡ true → put_over test r (list_of xs) ≡ list_of ys
    list_replaced r e one any = put_replaced test r xs one (any_mid ∙ any) ∙ ap list_of (sym (mapped r e))

    -- or behind the middle with a number above all others
    pub list_added : (x : Numbered) → new ≡ mid ++ x ∷ [] → list_any test (map plain mid) ≡ false → AreBelow x.number xs → put_over test x.one (list_of xs) ≡ list_of ys
    list_added x e none below =
        let was : xs ≡ (m.front ++ mid) ++ m.back = m.was ∙ sym (append_assoc m.front mid m.back) in
        let is : ys ≡ (m.front ++ mid) ++ x ∷ m.back =
        m.is ∙ ap (λ (zs : List Numbered). m.front ++ (zs ++ m.back)) e ∙ ap (λ (zs : List Numbered). m.front ++ zs) (append_assoc mid (x ∷ []) m.back) ∙ sym (append_assoc m.front mid (x ∷ m.back)) in
        let all : AreBelow x.number ((m.front ++ mid) ++ m.back) = subst (AreBelow x.number) was below in
        let fails : list_any test (list_of ((m.front ++ mid) ++ m.back)) ≡ false = subst (λ (zs : List Numbered). list_any test (list_of zs) ≡ false) was (any_mid ∙ none) in
        ap (λ (zs : List Numbered). put_over test x.one (list_of zs)) was
        ∙ put_new test x (m.front ++ mid) m.back (all_front (λ y. y.number < x.number) (m.front ++ mid) m.back all) (all_back (λ y. y.number < x.number) (m.front ++ mid) m.back all) fails ∙ ap list_of (sym is)

    -- the numbers after that
    pub below_replaced : (r : Record) (next : ℕ) → new ≡ map (at_record (replace_if test r)) mid → AreBelow next xs → AreBelow next ys
    below_replaced r next e h = subst (AreBelow next) (sym (mapped r e)) (still xs h)
      where
        still : (zs : List Numbered) → AreBelow next zs → AreBelow next (map (at_record (replace_if test r)) zs)
        still [] h = tt
        still (z ∷ zs) h = (h.0, still zs h.1)

    pub length_replaced : (r : Record) → new ≡ map (at_record (replace_if test r)) mid → length ys ≡ length xs
    length_replaced r e = ap length (mapped r e) ∙ length-map xs (at_record (replace_if test r))

  pub below_added : (x : Numbered) → new ≡ mid ++ x ∷ [] → AreBelow x.number xs → AreBelow (x.number + 1) ys
  below_added x e h =
      let up : AreBelow (x.number + 1) xs = all_to (λ y. y.number < x.number) (λ y. y.number < x.number + 1) (λ y p. omega arith) xs h in
      let all : AreBelow (x.number + 1) (m.front ++ (mid ++ m.back)) = subst (AreBelow (x.number + 1)) m.was up in
      let P : Numbered → Type 0 = λ y. y.number < x.number + 1 in
      let rest : AllByRecursion P (mid ++ m.back) = all_back P m.front (mid ++ m.back) all in
      let middle : AllByRecursion P (mid ++ x ∷ []) = all_append P mid (x ∷ []) (all_front P mid m.back rest) (omega arith, tt) in
      subst (AreBelow (x.number + 1)) (sym m.is) (all_append P m.front (new ++ m.back) (all_front P m.front (mid ++ m.back) all) (all_append P new m.back (subst (AllByRecursion P) (sym e) middle) (all_back P mid m.back rest)))

  pub length_added : (x : Numbered) → new ≡ mid ++ x ∷ [] → length ys ≡ length xs + 1
  length_added x e =
      omega (
        arith,
        ap length m.was,
        ap length m.is,
        ap length e,
        length-append m.front (mid ++ m.back),
        length-append m.front (new ++ m.back),
        length-append mid m.back,
        length-append new m.back,
        length-append mid (x ∷ []),
      )

  -- records that pass were taken away
  pub list_taken : new ≡ filter (λ x. not (of_plain test x)) mid → filter (λ r. not (test r)) (list_of xs) ≡ list_of ys
  list_taken e =
      let p : Numbered → Bool = λ x. not (of_plain test x) in
      let P : Numbered → Type 0 = λ x. of_plain test x ≡ false in
      let Q : Numbered → Type 0 = λ x. p x ≡ true in
      let front : filter p m.front ≡ m.front = filter_all p m.front (all_to P Q (λ x h. turned_not (of_plain test x) h) m.front m.front_fails) in
      let back : filter p m.back ≡ m.back = filter_all p m.back (all_to P Q (λ x h. turned_not (of_plain test x) h) m.back m.back_fails) in
      let parts : filter p xs ≡ filter p m.front ++ (filter p mid ++ filter p m.back) = ap (filter p) m.was ∙ filter-append p m.front (mid ++ m.back) ∙ ap (λ (zs : List Numbered). filter p m.front ++ zs) (filter-append p mid m.back) in
      filter_list (λ r. not (test r)) xs
      ∙ ap list_of
      (parts ∙ ap (λ (zs : List Numbered). zs ++ (filter p mid ++ filter p m.back)) front ∙ ap (λ (zs : List Numbered). m.front ++ (filter p mid ++ zs)) back ∙ ap (λ (zs : List Numbered). m.front ++ (zs ++ m.back)) (sym e) ∙ sym m.is)
