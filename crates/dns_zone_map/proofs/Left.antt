-- What is left of the list of a map when records of one name are taken from the map.
use Rattle.std.proofs.Common.{◌≡◌, ℕ, ◌+◌, ◌-◌, ◌<◌, ◌≤◌, Bool, true, false, List, [], ◌∷◌, ◌++◌, length, refl, sym, ap, ◌∙◌, subst, arith, length-append}
use Rattle.std.specs.Prelude.{filter, not, if◌then◌else◌}
use Rattle.std.specs.List.{AllByRecursion}
use Rattle.std.specs.Str.{bytes_eq}
use Rattle.std.proofs.lemmas.List.Elements.{filter-append}
use Rattle.dns_name.specs.Name.{is_same_name, is_at_or_below}
use Rattle.dns_wire.specs.declared.record.Record.{Record}
use Rattle.dns_zone_map.specs.declared.sets.RecordSet.{RecordSet}
use Rattle.dns_zone_map.specs.Keys.{key_of}
use Rattle.dns_zone_map.specs.Zone.{Contents}
use Rattle.dns_zone_map.specs.Order.{Numbered, list_of, of_plain, AreBelow}
use Rattle.dns_zone_map.specs.Sets.{TypesRise, in_set, in_sets}
use Rattle.dns_zone_map.specs.Tree.{in_entries, Belongs, IsSet, AreSets, AreEntries, IsTree, KeysApart}
use Rattle.dns_zone_map.specs.Removal.{is_key, ChangedFrom, IsAbsent}
use Rattle.dns_zone_map.proofs.Keyed.{same_keys}
use Rattle.dns_zone_map.proofs.Sorting.{filter_list}
use Rattle.dns_zone_map.proofs.Lent.{bytes_turned, all_to, numbered_all, filter_none, filter_all}
use Rattle.dns_zone_map.proofs.Exists.{all_append}
use Rattle.dns_zone_map.proofs.InEntries.{absent_all, other_bytes}
use Rattle.dns_zone_map.proofs.Rest.{Entries, Fails, FailsAt, all_front, all_back, entries_fail}
use Rattle.dns_zone_map.proofs.Middle.{Middle, list_taken, turned_not}
use Rattle.dns_zone_map.proofs.Outside.{not_same}
use Rattle.dns_zone_map.proofs.Put.{around_entry, apart_front, apart_back}
use Rattle.dns_zone_map.proofs.Taken.{no_true, any_at_all}

-- what a test leaves of the sets of a name
pub record AreLeft (origin : List (List ℕ)) (key : List ℕ) (test : Record → Bool) (sets changed : List RecordSet) : Type 0 where
  pub each : AllByRecursion (IsSet origin key) changed
  pub rise : TypesRise changed
  pub left : in_sets changed ≡ filter (λ x. not (of_plain test x)) (in_sets sets)

-- what it leaves of the map
pub record IsLeft (origin : List (List ℕ)) (test : Record → Bool) (before after : Entries) (next gone : ℕ) : Type 0 where
  pub list : list_of (in_entries after) ≡ filter (λ r. not (test r)) (list_of (in_entries before))
  pub each : AreEntries origin after
  pub below : AreBelow next (in_entries after)
  pub counted : length (in_entries after) + gone ≡ length (in_entries before)

kept_if : {X : Type 0} (P : X → Type 0) (b : Bool) (x : X) (xs : List X) → P x → AllByRecursion P xs → AllByRecursion P (if b then x ∷ xs else xs)
kept_if P true x xs h hs = (h, hs)
kept_if P false x xs h hs = hs

-- what holds of all holds of those that pass
pub all_filtered : {X : Type 0} (P : X → Type 0) (t : X → Bool) (xs : List X) → AllByRecursion P xs → AllByRecursion P (filter t xs)
all_filtered P t [] h = tt
all_filtered P t (x ∷ xs) h = kept_if P (t x) x (filter t xs) h.0 (all_filtered P t xs h.1)

rise_if : (b : Bool) (s : RecordSet) (ss : List RecordSet) → AllByRecursion (λ t. s.rtype < t.rtype) ss → TypesRise ss → TypesRise (if b then s ∷ ss else ss)
rise_if true s ss h r = (h, r)
rise_if false s ss h r = r

rise_filtered : (t : RecordSet → Bool) (ss : List RecordSet) → TypesRise ss → TypesRise (filter t ss)
rise_filtered t [] h = tt
rise_filtered t (s ∷ ss) h = rise_if (t s) s (filter t ss) (all_filtered (λ u. s.rtype < u.rtype) t ss h.0) (rise_filtered t ss h.1)

not_not : (b : Bool) → not (not b) ≡ b
not_not true = refl
not_not false = refl

-- where no record passes, all are left
all_left : (test : Record → Bool) (xs : List Numbered) → Fails test xs → filter (λ r. not (test r)) (list_of xs) ≡ list_of xs
all_left test xs h =
    filter_list (λ r. not (test r)) xs
    ∙ ap list_of (filter_all (λ x. not (of_plain test x)) xs (all_to (λ x. of_plain test x ≡ false) (λ x. not (of_plain test x) ≡ true) (λ x p. turned_not (of_plain test x) p) xs h))

module _ (origin name : List (List ℕ)) (test : Record → Bool) (narrow : (r : Record) → test r ≡ true → is_same_name r.name name ≡ true) where
  abbrev May : Record → Type 0
  May r = Unit {0}

  -- no record of a zone passes that is of a name outside it
  outside_fails : (es : Entries) → is_at_or_below name origin ≡ false → AreEntries origin es → Fails test (in_entries es)
  outside_fails es out each =
      entries_fail test May origin es each
      (all_to (λ e. AreSets origin e.0.items e.1) (λ e. (kind : ℕ) → FailsAt test May origin e.0.items kind) (λ e p kind r b may. no_true (test r) (λ h. not_same origin name 0 out r b.within (narrow r h))) es each)
      (any_at_all (in_entries es))

  pub outside_left : (es : Entries) (zone : Contents) → record { origin = origin; records = list_of (in_entries es) } ≡ zone → is_at_or_below name origin ≡ false → AreEntries origin es → zone.records ≡ filter (λ r. not (test r)) zone.records
  outside_left es zone view out each = subst (λ (rs : List Record). rs ≡ filter (λ r. not (test r)) rs) (ap (λ z. z.records) view) (sym (all_left test (in_entries es) (outside_fails es out each)))

  module _ (within : is_at_or_below name origin ≡ true) where
    abbrev key : List ℕ
    key = key_of origin name

    other_key : (k : List ℕ) → bytes_eq key k ≡ false → (kind : ℕ) → FailsAt test May origin k kind
    other_key k other kind r b may =
        no_true (test r) (λ h.
        let same : bytes_eq (key_of origin r.name) key ≡ true = sym (same_keys origin r.name name b.within within) ∙ narrow r h in
        let here : bytes_eq k key ≡ true = ap (λ (z : List ℕ). bytes_eq z key) (sym b.under) ∙ same in
        let there : bytes_eq k key ≡ false = bytes_turned k key ∙ other in
        cc)

    -- nor where the name owns nothing
    absent_fails : (es : Entries) → AreEntries origin es → IsAbsent key es → Fails test (in_entries es)
    absent_fails es each none =
        entries_fail test May origin es each
        (all_to (λ e. bytes_eq key e.0.items ≡ false) (λ e. (kind : ℕ) → FailsAt test May origin e.0.items kind) (λ e p. other_key e.0.items p) es (other_bytes key es (absent_all (is_key key) es none)))
        (any_at_all (in_entries es))

    module _ (es fs : Entries) (next : ℕ) (Change : List RecordSet → List RecordSet → Type 0) (each : AreEntries origin es) (below : AreBelow next (in_entries es)) (apart : KeysApart es) (t : ChangedFrom key Change es fs) where
      each_was : AreEntries origin (t.front ++ (t.stored, t.sets) ∷ t.back)
      each_was = subst (AreEntries origin) t.was each

      apart_was : KeysApart (t.front ++ (t.stored, t.sets) ∷ t.back)
      apart_was = subst KeysApart t.was apart

      each_front : AreEntries origin t.front
      each_front = all_front (λ e. AreSets origin e.0.items e.1) t.front ((t.stored, t.sets) ∷ t.back) each_was

      each_back : AreEntries origin t.back
      each_back = (all_back (λ e. AreSets origin e.0.items e.1) t.front ((t.stored, t.sets) ∷ t.back) each_was).1

      -- the sets that became others
      pub here : AreSets origin key t.sets
      here = subst (λ k. AreSets origin k t.sets) t.keyed (all_back (λ e. AreSets origin e.0.items e.1) t.front ((t.stored, t.sets) ∷ t.back) each_was).0

      other_keys : (gs : Entries) → AllByRecursion (λ f. bytes_eq t.stored.items f.0.items ≡ false) gs → AllByRecursion (λ e. (kind : ℕ) → FailsAt test May origin e.0.items kind) gs
      other_keys gs h = all_to (λ f. bytes_eq t.stored.items f.0.items ≡ false) (λ f. (kind : ℕ) → FailsAt test May origin f.0.items kind) (λ f p. other_key f.0.items (ap (λ (z : List ℕ). bytes_eq z f.0.items) (sym t.keyed) ∙ p)) gs h

      xs_are : in_entries es ≡ in_entries t.front ++ (in_sets t.sets ++ in_entries t.back)
      xs_are = ap in_entries t.was ∙ around_entry t.front t.back t.stored t.sets

      ys_are : in_entries fs ≡ in_entries t.front ++ (in_sets t.changed ++ in_entries t.back)
      ys_are = ap in_entries t.is ∙ around_entry t.front t.back t.stored t.changed

      module _ (left : AreLeft origin key test t.sets t.changed) (gone : ℕ) (count : gone + length (in_sets t.changed) ≡ length (in_sets t.sets)) where
        middle : Middle test (in_entries es) (in_entries fs) (in_sets t.sets) (in_sets t.changed)
        middle = record {
          front = in_entries t.front;
          back = in_entries t.back;
          was = xs_are;
          is = ys_are;
          front_fails = entries_fail test May origin t.front each_front (other_keys t.front (apart_front t.front t.back (t.stored, t.sets) apart_was)) (any_at_all (in_entries t.front));
          back_fails = entries_fail test May origin t.back each_back (other_keys t.back (apart_back t.front t.back (t.stored, t.sets) apart_was)) (any_at_all (in_entries t.back));
        }

        abbrev P : Numbered → Type 0
        P y = y.number < next

        all : AllByRecursion P (in_entries t.front ++ (in_sets t.sets ++ in_entries t.back))
        all = subst (AllByRecursion P) xs_are below

        rest : AllByRecursion P (in_sets t.sets ++ in_entries t.back)
        rest = all_back P (in_entries t.front) (in_sets t.sets ++ in_entries t.back) all

        below_changed : AllByRecursion P (in_sets t.changed)
        below_changed = subst (AllByRecursion P) (sym left.left) (all_filtered P (λ x. not (of_plain test x)) (in_sets t.sets) (all_front P (in_sets t.sets) (in_entries t.back) rest))

        pub is_left : IsLeft origin test es fs next gone
        is_left = record {
          list = sym (list_taken test (in_entries es) (in_entries fs) (in_sets t.sets) (in_sets t.changed) middle left.left);
          each = subst (AreEntries origin) (sym t.is) (all_append (λ e. AreSets origin e.0.items e.1) t.front ((t.stored, t.changed) ∷ t.back) each_front (record { each = subst (λ k. AllByRecursion (IsSet origin k) t.changed) (sym t.keyed) left.each; rise = left.rise }, each_back));
          below = subst (AreBelow next) (sym ys_are)
              (all_append P (in_entries t.front) (in_sets t.changed ++ in_entries t.back) (all_front P (in_entries t.front) (in_sets t.sets ++ in_entries t.back) all)
              (all_append P (in_sets t.changed) (in_entries t.back) below_changed (all_back P (in_sets t.sets) (in_entries t.back) rest)));
          counted = omega (
            arith,
            count,
            ap length xs_are,
            ap length ys_are,
            length-append (in_entries t.front) (in_sets t.sets ++ in_entries t.back),
            length-append (in_entries t.front) (in_sets t.changed ++ in_entries t.back),
            length-append (in_sets t.sets) (in_entries t.back),
            length-append (in_sets t.changed) (in_entries t.back),
          );
        }

-- sets of some types that were taken whole
module _ (origin : List (List ℕ)) (key : List ℕ) (test : Record → Bool) (stays : ℕ → Bool) (says : (r : Record) (kind : ℕ) → Belongs origin key kind r → test r ≡ not (stays kind)) where
  abbrev keep : RecordSet → Bool
  keep s = stays s.rtype

  abbrev stay : Numbered → Bool
  stay x = not (of_plain test x)

  set_stays : (s : RecordSet) (b : Bool) → stays s.rtype ≡ b → IsSet origin key s → AllByRecursion (λ x. stay x ≡ b) (in_set s)
  set_stays s b e h =
      numbered_all (λ r. not (test r) ≡ b) s.numbers s.records
      (all_to (Belongs origin key s.rtype) (λ r. not (test r) ≡ b) (λ r p. ap not (says r s.rtype p) ∙ ap (λ z. not (not z)) e ∙ not_not b) s.records h.belong)

  left_if : (b : Bool) (s : RecordSet) (ss : List RecordSet) → stays s.rtype ≡ b → IsSet origin key s → in_sets (filter keep ss) ≡ filter stay (in_sets ss) → in_sets (if b then s ∷ filter keep ss else filter keep ss) ≡ filter stay (in_sets (s ∷ ss))
  left_if true s ss e h ih = sym (filter-append stay (in_set s) (in_sets ss) ∙ ap (λ (xs : List Numbered). xs ++ filter stay (in_sets ss)) (filter_all stay (in_set s) (set_stays s true e h)) ∙ ap (λ (xs : List Numbered). in_set s ++ xs) (sym ih))
  left_if false s ss e h ih = sym (filter-append stay (in_set s) (in_sets ss) ∙ ap (λ (xs : List Numbered). xs ++ filter stay (in_sets ss)) (filter_none stay (in_set s) (set_stays s false e h)) ∙ sym ih)

  left_sets : (ss : List RecordSet) → AllByRecursion (IsSet origin key) ss → in_sets (filter keep ss) ≡ filter stay (in_sets ss)
  left_sets [] h = refl
  left_sets (s ∷ ss) h = left_if (keep s) s ss refl h.0 (left_sets ss h.1)

  pub whole_sets : (sets changed : List RecordSet) → AreSets origin key sets → changed ≡ filter keep sets → AreLeft origin key test sets changed
  whole_sets sets changed h is = record {
    each = subst (AllByRecursion (IsSet origin key)) (sym is) (all_filtered (IsSet origin key) keep sets h.each);
    rise = subst TypesRise (sym is) (rise_filtered keep sets h.rise);
    left = ap in_sets is ∙ left_sets sets h.each;
  }

-- the same of a map that is seen as its list
module _ (origin name : List (List ℕ)) (test : Record → Bool) (narrow : (r : Record) → test r ≡ true → is_same_name r.name name ≡ true) (es : Entries) (next count : ℕ) (zone : Contents) (view : record { origin = origin; records = list_of (in_entries es) } ≡ zone) (tree : IsTree origin es next count) where
  same_records : list_of (in_entries es) ≡ zone.records
  same_records = ap (λ z. z.records) view

  pub absent_stays : (fs : Entries) (at : List ℕ) → is_at_or_below name origin ≡ true → at ≡ key_of origin name → IsAbsent at es → fs ≡ es → list_of (in_entries fs) ≡ filter (λ r. not (test r)) zone.records
  absent_stays fs at within keyed none same =
      ap (λ (gs : Entries). list_of (in_entries gs)) same ∙ sym (all_left test (in_entries es) (absent_fails origin name test narrow within es tree.each (subst (λ k. IsAbsent k es) keyed none))) ∙ ap (filter (λ r. not (test r))) same_records

  module _ (fs : Entries) (gone : ℕ) (left : IsLeft origin test es fs next gone) where
    pub list_left : list_of (in_entries fs) ≡ filter (λ r. not (test r)) zone.records
    list_left = left.list ∙ ap (filter (λ r. not (test r))) same_records

    pub gone_fewer : gone ≤ count
    gone_fewer = omega (arith, left.counted, tree.counted)

    pub tree_left : IsTree origin fs next (count - gone)
    tree_left = record { each = left.each; below = left.below; counted = omega (arith, left.counted, tree.counted); few = omega (arith, tree.few) }
