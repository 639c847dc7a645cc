-- A set that was taken from the map was taken from its list.
use Rattle.std.proofs.Common.{◌≡◌, ℕ, suc, ◌+◌, ◌-◌, ◌<◌, ◌≤◌, Bool, true, false, List, [], ◌∷◌, ◌++◌, length, map, refl, sym, ap, ◌∙◌, subst, arith, ◌==◌, if◌then◌else◌, append_assoc, length-append, Some, None}
use Rattle.std.specs.Prelude.{filter, not, ◌&&◌, option_map}
use Rattle.std.specs.List.{AllByRecursion}
use Rattle.std.specs.Str.{bytes_eq}
use Rattle.std.proofs.lemmas.Bool.Decides.{Decides-eqb}
use Rattle.std.proofs.lemmas.List.Concat.{flat_map-append}
use Rattle.std.proofs.lemmas.Slice.Eq.{bytes_eq-Decides}
use Rattle.dns_name.specs.Name.{is_same_name, is_at_or_below}
use Rattle.dns_wire.specs.declared.record.Record.{Record}
use Rattle.dns_zone_map.specs.declared.sets.RecordSet.{RecordSet}
use Rattle.dns_zone_map.specs.Keys.{key_of}
use Rattle.dns_zone_map.specs.Zone.{Contents, is_in_set, set_of}
use Rattle.dns_zone_map.specs.Order.{Numbered, plain, list_of, of_plain, numbered, AreBelow}
use Rattle.dns_zone_map.specs.Sets.{TypesRise, in_set, in_sets, records_in, some_of}
use Rattle.dns_zone_map.specs.Tree.{in_entries, Belongs, IsSet, AreSets, AreEntries, IsTree, KeysApart}
use Rattle.dns_zone_map.specs.Removal.{TakenFrom, HasNone, IsTakenFrom}
use Rattle.dns_zone_map.proofs.Keyed.{same_keys}
use Rattle.dns_zone_map.proofs.Lent.{plain_again, set_list, bytes_turned, all_to, numbered_all, filter_none, filter_all, lent_set}
use Rattle.dns_zone_map.proofs.Exists.{all_append}
use Rattle.dns_zone_map.proofs.Rest.{Entries, Fails, FailsAt, all_front, all_back, sets_fail, entries_fail}
use Rattle.dns_zone_map.proofs.Middle.{Middle, filtered_mid, list_taken}
use Rattle.dns_zone_map.proofs.PutSets.{rise_lower, rise_upper}
use Rattle.dns_zone_map.proofs.Put.{around, around_entry, apart_front, apart_back}
use Rattle.dns_zone_map.proofs.Serials.{none_is}

pub both : (a b : Bool) → (a && b) ≡ true → (a ≡ true) × (b ≡ true)
both true b h = (refl, h)
both false b h = absurd cc

pub no_true : (b : Bool) → (b ≡ true → ⊥) → b ≡ false
no_true true h = absurd (h refl)
no_true false h = refl

pub turned : (b : Bool) → b ≡ true → not b ≡ false
turned true h = refl
turned false h = absurd cc

kept_if : (b : Bool) (test : Record → Bool) (r : Record) (rs : List Record) → (if b then r ∷ filter test rs else filter test rs) ≡ [] → (filter test rs ≡ [] → filter (λ s. not (test s)) rs ≡ rs) → (if not b then r ∷ filter (λ s. not (test s)) rs else filter (λ s. not (test s)) rs) ≡ r ∷ rs
kept_if true test r rs h ih = absurd cc
kept_if false test r rs h ih = ap (λ (xs : List Record). r ∷ xs) (ih h)

-- where none passes, taking those that pass away leaves all
pub all_stay : (test : Record → Bool) (rs : List Record) → filter test rs ≡ [] → filter (λ s. not (test s)) rs ≡ rs
all_stay test [] h = refl
all_stay test (r ∷ rs) h = kept_if (test r) test r rs h (all_stay test rs)

pub rise_without : (front back : List RecordSet) (s : RecordSet) → TypesRise (front ++ s ∷ back) → TypesRise (front ++ back)
rise_without [] back s h = h.1
rise_without (f ∷ front) back s h =
    (all_append (λ t. f.rtype < t.rtype) front back (all_front (λ t. f.rtype < t.rtype) front (s ∷ back) h.0) (all_back (λ t. f.rtype < t.rtype) front (s ∷ back) h.0).1, rise_without front back s h.1)

regroup : (a b c d : List Numbered) → a ++ ((b ++ c) ++ d) ≡ (a ++ b) ++ (c ++ d)
regroup a b c d = simp append_assoc

pub length-numbered : (ns : List ℕ) (rs : List Record) → length ns ≡ length rs → length (numbered ns rs) ≡ length rs
length-numbered [] [] h = refl
length-numbered [] (r ∷ rs) h = absurd (omega arith)
length-numbered (n ∷ ns) [] h = absurd (omega arith)
length-numbered (n ∷ ns) (r ∷ rs) h = ap suc (length-numbered ns rs (omega arith))

pub any_at_all : (xs : List Numbered) → AllByRecursion (λ x. Unit {0}) xs
any_at_all [] = tt
any_at_all (x ∷ xs) = (tt, any_at_all xs)

-- what was taken from the list and the map
pub record IsOut (origin : List (List ℕ)) (name : List (List ℕ)) (rtype : ℕ) (before after : Entries) (next : ℕ) (set : RecordSet) : Type 0 where
  pub list : list_of (in_entries after) ≡ filter (λ r. not (is_in_set name rtype r)) (list_of (in_entries before))
  pub records : set_of (list_of (in_entries before)) name rtype ≡ set.records
  pub some : 0 < length set.records
  pub each : AreEntries origin after
  pub below : AreBelow next (in_entries after)
  pub counted : length (in_entries after) + length set.records ≡ length (in_entries before)

module _ (origin name : List (List ℕ)) (rtype : ℕ) (within : is_at_or_below name origin ≡ true) (es fs : Entries) (next : ℕ) (set : RecordSet) (each : AreEntries origin es) (below : AreBelow next (in_entries es)) (apart : KeysApart es) (t : TakenFrom (key_of origin name) rtype es fs set) where
  abbrev test : Record → Bool
  test = is_in_set name rtype

  abbrev May : Record → Type 0
  May r = Unit {0}

  abbrev key : List ℕ
  key = key_of origin name

  other_key : (k : List ℕ) → bytes_eq key k ≡ false → (kind : ℕ) → FailsAt test May origin k kind
  other_key k other kind r b may =
      no_true (test r) (λ h.
      let named : is_same_name r.name name ≡ true = (both (r.rtype == rtype) (is_same_name r.name name) h).1 in
      let same : bytes_eq (key_of origin r.name) key ≡ true = sym (same_keys origin r.name name b.within within) ∙ named in
      let here : bytes_eq k key ≡ true = ap (λ (z : List ℕ). bytes_eq z key) (sym b.under) ∙ same in
      let there : bytes_eq k key ≡ false = bytes_turned k key ∙ other in
      cc)

  other_type : (k : List ℕ) (kind : ℕ) → (kind ≡ rtype → ⊥) → FailsAt test May origin k kind
  other_type k kind other r b may = no_true (test r) (λ h. other (sym b.typed ∙ (Decides-eqb r.rtype rtype).0 (both (r.rtype == rtype) (is_same_name r.name name) h).0))

  passes : (r : Record) → Belongs origin t.stored.items rtype r → test r ≡ true
  passes r b =
      let typed : (r.rtype == rtype) ≡ true = (Decides-eqb r.rtype rtype).1 b.typed in
      let same : is_same_name r.name name ≡ true = same_keys origin r.name name b.within within ∙ (bytes_eq-Decides (key_of origin r.name) key).1 (b.under ∙ t.keyed) in
      rw (typed, same) refl

  abbrev lower : List RecordSet
  lower = t.change.front

  abbrev upper : List RecordSet
  upper = t.change.back

  each_was : AreEntries origin (t.front ++ (t.stored, t.sets) ∷ t.back)
  each_was = subst (AreEntries origin) t.was each

  apart_was : KeysApart (t.front ++ (t.stored, t.sets) ∷ t.back)
  apart_was = subst KeysApart t.was apart

  here : AreSets origin t.stored.items t.sets
  here = (all_back (λ e. AreSets origin e.0.items e.1) t.front ((t.stored, t.sets) ∷ t.back) each_was).0

  each_front : AreEntries origin t.front
  each_front = all_front (λ e. AreSets origin e.0.items e.1) t.front ((t.stored, t.sets) ∷ t.back) each_was

  each_back : AreEntries origin t.back
  each_back = (all_back (λ e. AreSets origin e.0.items e.1) t.front ((t.stored, t.sets) ∷ t.back) each_was).1

  other_keys : (gs : Entries) → AllByRecursion (λ f. bytes_eq t.stored.items f.0.items ≡ false) gs → AllByRecursion (λ e. (kind : ℕ) → FailsAt test May origin e.0.items kind) gs
  other_keys gs h = all_to (λ f. bytes_eq t.stored.items f.0.items ≡ false) (λ f. (kind : ℕ) → FailsAt test May origin f.0.items kind) (λ f p. other_key f.0.items (ap (λ (z : List ℕ). bytes_eq z f.0.items) (sym t.keyed) ∙ p)) gs h

  each_set : AllByRecursion (IsSet origin t.stored.items) (lower ++ set ∷ upper)
  each_set = subst (AllByRecursion (IsSet origin t.stored.items)) t.change.was here.each

  rise : TypesRise (lower ++ set ∷ upper)
  rise = subst TypesRise t.change.was here.rise

  set_is : IsSet origin t.stored.items set
  set_is = (all_back (IsSet origin t.stored.items) lower (set ∷ upper) each_set).0

  some_fail : (ss : List RecordSet) → AllByRecursion (IsSet origin t.stored.items) ss → AllByRecursion (λ s. s.rtype ≡ rtype → ⊥) ss → Fails test (in_sets ss)
  some_fail ss e h = sets_fail test May origin t.stored.items ss e (all_to (λ s. s.rtype ≡ rtype → ⊥) (λ s. FailsAt test May origin t.stored.items s.rtype) (λ s p. other_type t.stored.items s.rtype p) ss h) (any_at_all (in_sets ss))

  lower_fails : Fails test (in_sets lower)
  lower_fails =
      some_fail lower (all_front (IsSet origin t.stored.items) lower (set ∷ upper) each_set)
      (all_to (λ s. s.rtype < set.rtype) (λ s. s.rtype ≡ rtype → ⊥) (λ s p e. omega (arith, p, e, t.change.typed)) lower (rise_lower lower upper set rise))

  upper_fails : Fails test (in_sets upper)
  upper_fails =
      some_fail upper (all_back (IsSet origin t.stored.items) lower (set ∷ upper) each_set).1
      (all_to (λ s. set.rtype < s.rtype) (λ s. s.rtype ≡ rtype → ⊥) (λ s p e. omega (arith, p, e, t.change.typed)) upper (rise_upper lower upper set rise))

  xs_are : in_entries es ≡ (in_entries t.front ++ in_sets lower) ++ (in_set set ++ (in_sets upper ++ in_entries t.back))
  xs_are = ap in_entries t.was ∙ ap (λ (ss : List RecordSet). in_entries (t.front ++ (t.stored, ss) ∷ t.back)) t.change.was ∙ around t.front t.back t.stored lower upper set

  ys_are : in_entries fs ≡ (in_entries t.front ++ in_sets lower) ++ (in_sets upper ++ in_entries t.back)
  ys_are =
      ap in_entries t.is ∙ around_entry t.front t.back t.stored t.changed
      ∙ ap (λ (xs : List Numbered). in_entries t.front ++ (xs ++ in_entries t.back)) (ap in_sets t.change.is ∙ flat_map-append in_set lower upper) ∙ regroup (in_entries t.front) (in_sets lower) (in_sets upper) (in_entries t.back)

  middle : Middle test (in_entries es) (in_entries fs) (in_set set) []
  middle = record {
    front = in_entries t.front ++ in_sets lower;
    back = in_sets upper ++ in_entries t.back;
    was = xs_are;
    is = ys_are;
    front_fails = all_append (λ y. of_plain test y ≡ false) (in_entries t.front) (in_sets lower)
        (entries_fail test May origin t.front each_front (other_keys t.front (apart_front t.front t.back (t.stored, t.sets) apart_was)) (any_at_all (in_entries t.front))) lower_fails;
    back_fails = all_append (λ y. of_plain test y ≡ false) (in_sets upper) (in_entries t.back) upper_fails
        (entries_fail test May origin t.back each_back (other_keys t.back (apart_back t.front t.back (t.stored, t.sets) apart_was)) (any_at_all (in_entries t.back)));
  }

  belong : AllByRecursion (Belongs origin t.stored.items rtype) set.records
  belong = subst (λ (n : ℕ). AllByRecursion (Belongs origin t.stored.items n) set.records) t.change.typed set_is.belong

  all_pass : AllByRecursion (λ r. test r ≡ true) set.records
  all_pass = all_to (Belongs origin t.stored.items rtype) (λ r. test r ≡ true) (λ r b. passes r b) set.records belong

  none_left : [] ≡ filter (λ x. not (of_plain test x)) (in_set set)
  none_left =
      sym (filter_none (λ x. not (of_plain test x)) (in_set set)
      (numbered_all (λ r. not (test r) ≡ false) set.numbers set.records (all_to (λ r. test r ≡ true) (λ r. not (test r) ≡ false) (λ r p. turned (test r) p) set.records all_pass)))

  plain_is : map plain (in_set set) ≡ set.records
  plain_is = plain_again set.numbers set.records set_is.paired

  sorted : list_of (in_set set) ≡ map plain (in_set set)
  sorted = set_list origin t.stored.items set set_is ∙ sym plain_is

  pub is_out : IsOut origin name rtype es fs next set
  is_out =
      let P : Numbered → Type 0 = λ y. y.number < next in
      let all : AllByRecursion P ((in_entries t.front ++ in_sets lower) ++ (in_set set ++ (in_sets upper ++ in_entries t.back))) = subst (AllByRecursion P) xs_are below in
      let a : AllByRecursion P (in_entries t.front ++ in_sets lower) = all_front P (in_entries t.front ++ in_sets lower) (in_set set ++ (in_sets upper ++ in_entries t.back)) all in
      let b : AllByRecursion P (in_sets upper ++ in_entries t.back) = all_back P (in_set set) (in_sets upper ++ in_entries t.back) (all_back P (in_entries t.front ++ in_sets lower) (in_set set ++ (in_sets upper ++ in_entries t.back)) all) in
      let changed_rise : TypesRise t.changed = subst TypesRise (sym t.change.is) (rise_without lower upper set rise) in
      let changed_each : AllByRecursion (IsSet origin t.stored.items) t.changed = subst (AllByRecursion (IsSet origin t.stored.items)) (sym t.change.is)
      (all_append (IsSet origin t.stored.items) lower upper (all_front (IsSet origin t.stored.items) lower (set ∷ upper) each_set) (all_back (IsSet origin t.stored.items) lower (set ∷ upper) each_set).1) in
      record {
        list = sym (list_taken test (in_entries es) (in_entries fs) (in_set set) [] middle none_left);
        records = filtered_mid test (in_entries es) (in_entries fs) (in_set set) [] middle sorted ∙ ap (filter test) plain_is ∙ filter_all test set.records all_pass;
        some = set_is.filled;
        each = subst (AreEntries origin) (sym t.is) (all_append (λ e. AreSets origin e.0.items e.1) t.front ((t.stored, t.changed) ∷ t.back) each_front (record { each = changed_each; rise = changed_rise }, each_back));
        below = subst (AreBelow next) (sym ys_are) (all_append P (in_entries t.front ++ in_sets lower) (in_sets upper ++ in_entries t.back) a b);
        counted = omega (
          arith,
          ap length xs_are,
          ap length ys_are,
          length-append (in_entries t.front ++ in_sets lower) (in_set set ++ (in_sets upper ++ in_entries t.back)),
          length-append (in_entries t.front ++ in_sets lower) (in_sets upper ++ in_entries t.back),
          length-append (in_set set) (in_sets upper ++ in_entries t.back),
          length-numbered set.numbers set.records set_is.paired,
        );
      }

-- the same of a map that is seen as its list
pub none_stays : (zone : Contents) (name : List (List ℕ)) (rtype : ℕ) → None ≡ some_of (set_of zone.records name rtype) → zone.records ≡ filter (λ r. not (is_in_set name rtype r)) zone.records
none_stays zone name rtype h = sym (all_stay (is_in_set name rtype) zone.records (none_is (set_of zone.records name rtype) h))

module _ (origin name : List (List ℕ)) (rtype : ℕ) (es : Entries) (next count : ℕ) (zone : Contents) (view : record { origin = origin; records = list_of (in_entries es) } ≡ zone) (tree : IsTree origin es next count) (within : is_at_or_below name origin ≡ true) (apart : KeysApart es) where
  same_records : list_of (in_entries es) ≡ zone.records
  same_records = ap (λ z. z.records) view

  module _ (fs : Entries) (key : List ℕ) (keyed : key ≡ key_of origin name) where
    -- there was none
    pub none_there : IsTakenFrom key rtype es fs None → None ≡ some_of (set_of zone.records name rtype)
    none_there none =
        let at : HasNone (key_of origin name) rtype es = subst (λ k. HasNone k rtype es) keyed none.1 in
        sym (ap (λ (rs : List Record). some_of (set_of rs name rtype)) (sym same_records) ∙ lent_set origin name rtype es within tree.each apart ∙ ap (option_map records_in) at)

    pub none_taken : IsTakenFrom key rtype es fs None → list_of (in_entries fs) ≡ filter (λ r. not (is_in_set name rtype r)) zone.records
    none_taken none = ap (λ (gs : Entries). list_of (in_entries gs)) none.0 ∙ same_records ∙ none_stays zone name rtype (none_there none)

    pub none_tree : IsTakenFrom key rtype es fs None → IsTree origin fs next count
    none_tree none = subst (λ (gs : Entries). IsTree origin gs next count) (sym none.0) tree

    -- or it was taken
    module _ (set : RecordSet) (taken : IsTakenFrom key rtype es fs (Some set)) where
      out : IsOut origin name rtype es fs next set
      out = is_out origin name rtype within es fs next set tree.each tree.below apart (subst (λ k. TakenFrom k rtype es fs set) keyed taken)

      pub list_after : list_of (in_entries fs) ≡ filter (λ r. not (is_in_set name rtype r)) zone.records
      list_after = out.list ∙ ap (filter (λ r. not (is_in_set name rtype r))) same_records

      pub fewer : length set.records ≤ count
      fewer = omega (arith, out.counted, tree.counted)

      pub tree_after : IsTree origin fs next (count - length set.records)
      tree_after = record { each = out.each; below = out.below; counted = omega (arith, out.counted, tree.counted); few = omega (arith, tree.few) }
