-- Where an update record changes nothing.
use Rattle.std.proofs.Common.{◌≡◌, ℕ, ◌≤◌, List, [], ◌∷◌, length, refl, sym, ap, ◌∙◌, subst, arith, Bool, true, false}
use Rattle.std.specs.Prelude.{filter, not, ◌==◌, ◌&&◌, ◌||◌, if◌then◌else◌}
use Rattle.std.specs.List.{list_any, AllByRecursion, IsDistinct}
use Rattle.std.proofs.lemmas.Bool.Decides.{Decides-eqb}
use Rattle.dns_name.proofs.SameNames.{is_same_name-Decides}
use Rattle.dns_wire.specs.declared.record.Record.{Record}
use Rattle.dns_zone_map.proofs.SameData.{data_eq-same}
use Rattle.dns_zone_map.specs.Changes.{put_over}
use Rattle.dns_zone_map.specs.Zone.{is_rival}
use Rattle.dns_update.specs.Change.{is_taken, is_taken_by_any, is_taken_by_none, ns_count, is_ignored, is_same_record, are_same_records, makes_change}
use Rattle.dns_update.proofs.SameRecords.{is_same_record-Decides, are_same_records-Decides, are_same_records-self}
use Rattle.dns_update.proofs.Rivals.{is_rival-on}
use Rattle.dns_update.proofs.MapSets.{any_same}

false_unless : (b : Bool) → (b ≡ true → ⊥) → b ≡ false
false_unless true f = absurd (f refl)
false_unless false f = refl

self : (r : Record) → is_same_record r r ≡ true
self r = (is_same_record-Decides r r).1 refl

-- a record is its own rival
or_true : (b : Bool) → (b || true) ≡ true
or_true true = refl
or_true false = refl

own_rival : (r : Record) → is_rival r r ≡ true
own_rival r =
    let type : (r.rtype == r.rtype) ≡ true = (Decides-eqb r.rtype r.rtype).1 refl in
    rw (type, (is_same_name-Decides r.name r.name).1 refl, data_eq-same r.rdata, or_true (r.rtype == 5), or_true (r.rtype == 6)) refl

-- among the rivals of a rival the record is not
not_among : (r : Record) (records : List Record) → AllByRecursion (λ o. is_rival r o ≡ false) records → list_any (is_same_record r) records ≡ false
not_among r [] apart = refl
not_among r (s ∷ records) apart =
    let differs : is_same_record r s ≡ false =
    false_unless (is_same_record r s) (λ passed.
    let same : r ≡ s = (is_same_record-Decides r s).0 passed in
    let rival : is_rival r s ≡ true = subst (λ (x : Record). is_rival r x ≡ true) same (own_rival r) in
    let apart = apart.0 in
    cc
    ) in
    rw (differs, not_among r records apart.1) refl

apart_on : (r s : Record) (records : List Record) → is_rival r s ≡ true → AllByRecursion (λ o. is_rival s o ≡ false) records → AllByRecursion (λ o. is_rival r o ≡ false) records
apart_on r s [] rival apart = tt
apart_on r s (o ∷ records) rival apart = (sym (is_rival-on r s o rival) ∙ apart.0, apart_on r s records rival apart.1)

and_true : (a : Bool) → (a && true) ≡ a
and_true true = refl
and_true false = refl

or_false : (a : Bool) → (a || false) ≡ a
or_false true = refl
or_false false = refl

put_if : (rival : Bool) (r s : Record) (records : List Record) → is_rival r s ≡ rival → AllByRecursion (λ o. is_rival s o ≡ false) records
    → are_same_records (put_over (is_rival r) r records) records ≡ list_any (is_same_record r) records
    → are_same_records (if rival then r ∷ records else s ∷ put_over (is_rival r) r records) (s ∷ records) ≡ (is_same_record r s || list_any (is_same_record r) records)
put_if true r s records rival apart rest =
    let none : list_any (is_same_record r) records ≡ false = not_among r records (apart_on r s records rival apart) in
    rw (are_same_records-self records, none) (and_true (is_same_record r s) ∙ sym (or_false (is_same_record r s)))
put_if false r s records rival apart rest =
    let differs : is_same_record r s ≡ false =
    false_unless (is_same_record r s) (λ passed.
    let same : r ≡ s = (is_same_record-Decides r s).0 passed in
    let own : is_rival r s ≡ true = subst (λ (x : Record). is_rival r x ≡ true) same (own_rival r) in
    cc
    ) in
    rw (self s, differs) rest

-- an addition changes nothing where the record is there
put_same : (r : Record) (records : List Record) → IsDistinct is_rival records → are_same_records (put_over (is_rival r) r records) records ≡ list_any (is_same_record r) records
unfolding IsDistinct
put_same r [] distinct = refl
put_same r (s ∷ records) distinct = put_if (is_rival r s) r s records refl distinct.0 (put_same r records distinct.1)

-- a deletion changes nothing where it takes nothing
filter_short : (t : Record → Bool) (records : List Record) → length (filter t records) ≤ length records
filter_short t [] = omega arith
filter_short t (s ∷ records) = by (t s) (filter_short t records)
  where
    by : (b : Bool) → length (filter t records) ≤ length records → length (if b then s ∷ filter t records else filter t records) ≤ length (s ∷ records)
    by true h = omega (arith, h)
    by false h = omega (arith, h)

filter_if : (b : Bool) (t : Record → Bool) (s : Record) (records : List Record) → not (are_same_records (filter (λ x. not (t x)) records) records) ≡ list_any t records
    → not (are_same_records (if not b then s ∷ filter (λ x. not (t x)) records else filter (λ x. not (t x)) records) (s ∷ records)) ≡ (b || list_any t records)
filter_if true t s records rest =
    let differs : are_same_records (filter (λ x. not (t x)) records) (s ∷ records) ≡ false =
    false_unless (are_same_records (filter (λ x. not (t x)) records) (s ∷ records)) (λ passed.
    let same = (are_same_records-Decides (filter (λ x. not (t x)) records) (s ∷ records)).0 passed in
    omega (arith, ap length same, filter_short (λ x. not (t x)) records)
    ) in
    rw differs refl
filter_if false t s records rest = rw (self s) rest

filter_same : (t : Record → Bool) (records : List Record) → not (are_same_records (filter (λ x. not (t x)) records) records) ≡ list_any t records
filter_same t [] = refl
filter_same t (s ∷ records) = filter_if (t s) t s records (filter_same t records)

-- what an addition changes
pub addition_changes : (ignored : Bool) (origin : List (List ℕ)) (records : List Record) (r : Record) → IsDistinct is_rival records → (r.class == 1) ≡ true → is_ignored origin records r ≡ ignored
    → makes_change origin records r ≡ (not ignored && not (list_any (is_same_record r) records))
addition_changes true origin records r distinct here e = rw (here, e, are_same_records-self records) refl
addition_changes false origin records r distinct here e = rw (here, e, put_same r records distinct) refl

-- and a deletion
pub deletion_changes : (origin : List (List ℕ)) (records : List Record) (r : Record) → (r.class == 1) ≡ false → makes_change origin records r ≡ list_any (is_taken origin (ns_count origin records) r) records
deletion_changes origin records r gone = rw gone (filter_same (is_taken origin (ns_count origin records) r) records)

-- by what a test of it answered
module _ (origin : List (List ℕ)) (records : List Record) (r : Record) where
  pub added_changes : (ignored there : Bool) → IsDistinct is_rival records → r.class ≡ 1 → ignored ≡ is_ignored origin records r → not ignored ≡ true → there ≡ list_any (is_same_record r) records → not there ≡ makes_change origin records r
  added_changes ignored there distinct here e taken found =
      let here : (r.class == 1) ≡ true = (Decides-eqb r.class 1).1 here in
      ap not found ∙ ap (λ x. x && not (list_any (is_same_record r) records)) (sym taken ∙ ap not e) ∙ sym (addition_changes (is_ignored origin records r) origin records r distinct here refl)

  pub ignored_changes : (ignored : Bool) → IsDistinct is_rival records → r.class ≡ 1 → ignored ≡ is_ignored origin records r → not ignored ≡ false → not ignored ≡ makes_change origin records r
  ignored_changes ignored distinct here e passed_over =
      let here : (r.class == 1) ≡ true = (Decides-eqb r.class 1).1 here in
      passed_over ∙ ap (λ x. x && not (list_any (is_same_record r) records)) (sym passed_over ∙ ap not e) ∙ sym (addition_changes (is_ignored origin records r) origin records r distinct here refl)

  pub any_changes : (takes : Bool) → r.class ≡ 255 → takes ≡ list_any (is_taken_by_any origin r) records → takes ≡ makes_change origin records r
  any_changes takes any e =
      let gone : (r.class == 1) ≡ false = rw any refl in
      let test : (r.class == 255) ≡ true = (Decides-eqb r.class 255).1 any in
      e ∙ any_same (is_taken_by_any origin r) (is_taken origin (ns_count origin records) r) (λ s. rw test refl) records ∙ sym (deletion_changes origin records r gone)

  pub none_changes : (takes : Bool) → (r.class ≡ 1 → ⊥) → (r.class ≡ 255 → ⊥) → takes ≡ list_any (is_taken_by_none origin (ns_count origin records) r) records → takes ≡ makes_change origin records r
  none_changes takes other none e =
      let gone : (r.class == 1) ≡ false = false_unless (r.class == 1) (λ passed. other ((Decides-eqb r.class 1).0 passed)) in
      let test : (r.class == 255) ≡ false = false_unless (r.class == 255) (λ passed. none ((Decides-eqb r.class 255).0 passed)) in
      e ∙ any_same (is_taken_by_none origin (ns_count origin records) r) (is_taken origin (ns_count origin records) r) (λ s. rw test refl) records ∙ sym (deletion_changes origin records r gone)
