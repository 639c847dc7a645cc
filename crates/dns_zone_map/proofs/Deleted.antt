-- Deletions of sets, which leave those of the SOA and of NS records at the origin.
use Rattle.std.proofs.Common.{◌≡◌, ℕ, ◌≤◌, Bool, true, false, List, [], ◌∷◌, length, refl, sym, ap, ◌∙◌, subst, arith, ◌==◌, Result, Ok, Err, OnOk, OnErr}
use Rattle.std.specs.Prelude.{filter, not, ◌&&◌, if◌then◌else◌}
use Rattle.std.specs.List.{AllByRecursion, IsDistinct}
use Rattle.std.specs.Str.{bytes_eq}
use Rattle.std.specs.Cmp.Lexicographic.{pointwise}
use Rattle.std.proofs.lemmas.Bool.Decides.{Decides-eqb}
use Rattle.std.proofs.lemmas.List.Elements.{filter_agree}
use Rattle.std.proofs.lemmas.List.Filters.{length-filter_both}
use Rattle.dns_name.specs.Name.{fold_of, is_same_name}
use Rattle.dns_wire.specs.declared.record.Record.{Record}
use Rattle.dns_zone_map.specs.Changes.{bears, is_kept_type, is_kept_at, is_taken_with_name, is_taken_with_set, is_free_at}
use Rattle.dns_zone_map.specs.Mapped.{Mapped, contents}
use Rattle.dns_zone_map.specs.Zone.{Contents, is_in_set, is_rival, IsEntry, IsSoFar}
use Rattle.dns_zone_map.proofs.Keyed.{same_name}
use Rattle.dns_zone_map.proofs.Taken.{both}
use Rattle.dns_zone_map.proofs.Left.{all_filtered}

distinct_if : (b : Bool) (r : Record) (records : List Record) → AllByRecursion (λ o. is_rival r o ≡ false) records → IsDistinct is_rival records → IsDistinct is_rival (if b then r ∷ records else records)
unfolding IsDistinct
distinct_if true r records apart distinct = (apart, distinct)
distinct_if false r records apart distinct = distinct

pub distinct_left : (test : Record → Bool) (records : List Record) → IsDistinct is_rival records → IsDistinct is_rival (filter test records)
unfolding IsDistinct
distinct_left test [] distinct = tt
distinct_left test (r ∷ records) distinct = distinct_if (test r) r (filter test records) (all_filtered (λ o. is_rival r o ≡ false) test records distinct.0) (distinct_left test records distinct.1)

-- what is left of records that may become those of a zone may become those of one
pub so_far_left : (test : Record → Bool) (before after : Contents) → after.origin ≡ before.origin → after.records ≡ filter test before.records → IsSoFar before.origin before.records → IsSoFar after.origin after.records
so_far_left test before after top is so_far =
    subst (λ o. IsSoFar o after.records) (sym top) (subst (IsSoFar before.origin) (sym is) (record { entries = all_filtered (IsEntry before.origin) test before.records so_far.entries; distinct = distinct_left test before.records so_far.distinct }))

-- or are unchanged
pub so_far_either : {T E : Type 0} (test : Record → Bool) (before after : Mapped) (r : Result T E) → after.origin ≡ before.origin → OnOk r (after.records ≡ filter test before.records) → OnErr r (after ≡ before) → IsSoFar before.origin before.records → IsSoFar after.origin after.records
so_far_either test before after (Ok t) top is same so_far = so_far_left test (contents before) (contents after) top is so_far
so_far_either test before after (Err e) top is same so_far = subst (λ (m : Mapped). IsSoFar m.origin m.records) (sym same) so_far

-- fewer records are left
pub no_more : (test : Record → Bool) (before after : List Record) → after ≡ filter test before → length after ≤ length before
no_more test before after is = omega (arith, ap length is, length-filter_both test (λ r. not (test r)) (λ r. refl) before)

-- names that are the same to a test
same_bears : (a b : List (List ℕ)) (r : Record) → is_same_name a b ≡ true → bears a r ≡ bears b r
same_bears a b r same = ap (λ (n : List (List ℕ)). pointwise bytes_eq (fold_of r.name) n) (same_name a b same)

free_if : (here kept : Bool) → (here && not kept) ≡ (here && not (here && kept))
free_if true kept = refl
free_if false kept = refl

-- at the origin its free sets are taken
at_top : (origin name : List (List ℕ)) (r : Record) → is_same_name name origin ≡ true → is_free_at origin r ≡ is_taken_with_name origin name r
at_top origin name r same = free_if (bears origin r) (is_kept_type r.rtype) ∙ ap (λ b. b && not (is_kept_at origin r)) (sym (same_bears name origin r same))

below_if : (b : Bool) (kept here : Bool) → (b ≡ true → here ≡ false) → b ≡ (b && not (here && kept))
below_if false kept here h = refl
below_if true kept here h = rw (h refl) refl

-- the name of a record is not the origin where the record is of another name
not_top : (origin name : List (List ℕ)) (r : Record) → is_same_name name origin ≡ false → bears name r ≡ true → bears origin r ≡ false
not_top origin name r other b = ap (λ (n : List (List ℕ)). pointwise bytes_eq n (fold_of origin)) (same_name r.name name b) ∙ other

below_top : (origin name : List (List ℕ)) (r : Record) → is_same_name name origin ≡ false → bears name r ≡ is_taken_with_name origin name r
below_top origin name r other = below_if (bears name r) (is_kept_type r.rtype) (bears origin r) (not_top origin name r other)

module _ (origin name : List (List ℕ)) (before after : List Record) where
  pub top_deleted : is_same_name name origin ≡ true → after ≡ filter (λ r. not (is_free_at origin r)) before → after ≡ filter (λ r. not (is_taken_with_name origin name r)) before
  top_deleted same is = is ∙ filter_agree (λ r. not (is_free_at origin r)) (λ r. not (is_taken_with_name origin name r)) (λ r. ap not (at_top origin name r same)) before

  pub name_deleted : is_same_name name origin ≡ false → after ≡ filter (λ r. not (bears name r)) before → after ≡ filter (λ r. not (is_taken_with_name origin name r)) before
  name_deleted other is = is ∙ filter_agree (λ r. not (bears name r)) (λ r. not (is_taken_with_name origin name r)) (λ r. ap not (below_top origin name r other)) before

-- a set of the origin that stays
kept_if : (b kept here : Bool) → (b ≡ true → (here && kept) ≡ true) → (b && not (here && kept)) ≡ false
kept_if false kept here h = refl
kept_if true kept here h = rw (h refl) refl

free_set_if : (b kept here : Bool) → (b ≡ true → (here && kept) ≡ false) → b ≡ (b && not (here && kept))
free_set_if false kept here h = refl
free_set_if true kept here h = rw (h refl) refl

kept_at : (origin name : List (List ℕ)) (rtype : ℕ) (r : Record) → is_in_set name rtype r ≡ true → is_kept_at origin r ≡ (is_same_name name origin && is_kept_type rtype)
kept_at origin name rtype r h =
    let parts = both (r.rtype == rtype) (is_same_name r.name name) h in
    let typed : r.rtype ≡ rtype = (Decides-eqb r.rtype rtype).0 parts.0 in
    let named : is_same_name r.name origin ≡ is_same_name name origin = ap (λ (n : List (List ℕ)). pointwise bytes_eq n (fold_of origin)) (same_name r.name name parts.1) in
    rw (typed, named) refl

all_pass : (test : Record → Bool) (rs : List Record) → ((r : Record) → test r ≡ true) → rs ≡ filter test rs
all_pass test [] h = refl
all_pass test (r ∷ rs) h = rw (h r) (ap (λ (xs : List Record). r ∷ xs) (all_pass test rs h))

module _ (origin name : List (List ℕ)) (rtype : ℕ) (before : List Record) where
  pub set_stays : (is_same_name name origin && is_kept_type rtype) ≡ true → before ≡ filter (λ r. not (is_taken_with_set origin name rtype r)) before
  set_stays kept =
      all_pass (λ r. not (is_taken_with_set origin name rtype r)) before
      (λ r. ap not (kept_if (is_in_set name rtype r) (is_kept_type r.rtype) (bears origin r) (λ h. kept_at origin name rtype r h ∙ kept)))

  pub set_deleted : (after : List Record) → (is_same_name name origin && is_kept_type rtype) ≡ false → after ≡ filter (λ r. not (is_in_set name rtype r)) before → after ≡ filter (λ r. not (is_taken_with_set origin name rtype r)) before
  set_deleted after free is =
      is ∙ filter_agree (λ r. not (is_in_set name rtype r)) (λ r. not (is_taken_with_set origin name rtype r))
      (λ r. ap not (free_set_if (is_in_set name rtype r) (is_kept_type r.rtype) (bears origin r) (λ h. kept_at origin name rtype r h ∙ free))) before
