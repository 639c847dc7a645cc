-- A record that was put into the map of a zone was put into its list.
use Rattle.std.proofs.Common.{◌≡◌, ℕ, ◌+◌, ◌<◌, ◌≤◌, Bool, true, false, List, [], ◌∷◌, ◌++◌, length, map, refl, sym, ap, ◌∙◌, subst, arith, append_assoc, inl, inr, Some, None, Vec, Global}
use Rattle.std.specs.Prelude.{Option, is_some}
use Rattle.std.specs.List.{AllByRecursion, list_any}
use Rattle.std.specs.Str.{bytes_eq}
use Rattle.std.proofs.lemmas.List.Concat.{flat_map-append}
use Rattle.dns_wire.specs.declared.record.Record.{Record}
use Rattle.dns_zone_map.specs.declared.sets.RecordSet.{RecordSet}
use Rattle.dns_zone_map.specs.Keys.{key_of}
use Rattle.dns_zone_map.specs.Zone.{Contents, is_rival, IsEntry, IsSoFar}
use Rattle.dns_zone_map.specs.Order.{Numbered, plain, list_of, of_plain, AreBelow}
use Rattle.dns_zone_map.specs.Changes.{put_over, first_that, AtMostOne}
use Rattle.dns_zone_map.specs.Sets.{TypesRise, in_set, in_sets}
use Rattle.dns_zone_map.specs.Tree.{in_entries, Belongs, IsSet, AreSets, AreEntries, IsTree, KeysApart}
use Rattle.dns_zone_map.specs.Insertion.{put_in_set, new_set, PutInSets, UnderName, UnderNewName, PutUnder}
use Rattle.dns_zone_map.proofs.Lent.{plain_again, set_list, bytes_turned, all_to}
use Rattle.dns_zone_map.proofs.Exists.{all_append}
use Rattle.dns_zone_map.proofs.Putting.{first_none}
use Rattle.dns_zone_map.proofs.Rivals.{one_rival, distinct_put}
use Rattle.dns_zone_map.proofs.Rest.{Entries, Fails, FailsAt, all_front, all_back, all_numbered, sets_fail, entries_fail, other_key, other_type}
use Rattle.dns_zone_map.proofs.Middle.{Middle, any_first, first_mid, one_mid, list_replaced, list_added, below_replaced, length_replaced, below_added, length_added}
use Rattle.dns_zone_map.proofs.PutSets.{all_over, set_replaced, set_added, put_type, is_set_put, is_set_new, rise_lower, rise_upper, rise_same, rise_new}

-- the records of sets, and of entries, around one of them
pub around_set : (front back : List RecordSet) (s : RecordSet) → in_sets (front ++ s ∷ back) ≡ in_sets front ++ (in_set s ++ in_sets back)
around_set front back s = flat_map-append in_set front (s ∷ back)

pub around_entry : (front back : Entries) (k : Vec ℕ Global) (ss : List RecordSet) → in_entries (front ++ (k, ss) ∷ back) ≡ in_entries front ++ (in_sets ss ++ in_entries back)
around_entry front back k ss = flat_map-append (λ (e : Vec ℕ Global × List RecordSet). in_sets e.1) front ((k, ss) ∷ back)

regroup : (a b m c d : List Numbered) → a ++ ((b ++ (m ++ c)) ++ d) ≡ (a ++ b) ++ (m ++ (c ++ d))
regroup a b m c d = simp append_assoc

-- the records of a map around those of one set
pub around : (front back : Entries) (k : Vec ℕ Global) (lower upper : List RecordSet) (s : RecordSet) → in_entries (front ++ (k, lower ++ s ∷ upper) ∷ back) ≡ (in_entries front ++ in_sets lower) ++ (in_set s ++ (in_sets upper ++ in_entries back))
around front back k lower upper s =
    around_entry front back k (lower ++ s ∷ upper) ∙ ap (λ (xs : List Numbered). in_entries front ++ (xs ++ in_entries back)) (around_set lower upper s) ∙ regroup (in_entries front) (in_sets lower) (in_set s) (in_sets upper) (in_entries back)

around_none : (front back : Entries) (k : Vec ℕ Global) (lower upper : List RecordSet) → in_entries (front ++ (k, lower ++ upper) ∷ back) ≡ (in_entries front ++ in_sets lower) ++ (in_sets upper ++ in_entries back)
around_none front back k lower upper =
    around_entry front back k (lower ++ upper) ∙ ap (λ (xs : List Numbered). in_entries front ++ (xs ++ in_entries back)) (flat_map-append in_set lower upper) ∙ regroup (in_entries front) (in_sets lower) [] (in_sets upper) (in_entries back)

-- the keys before and behind one are others
pub apart_front : (front back : Entries) (e : Vec ℕ Global × List RecordSet) → KeysApart (front ++ e ∷ back) → AllByRecursion (λ f. bytes_eq e.0.items f.0.items ≡ false) front
apart_front [] back e h = tt
apart_front (f ∷ front) back e h = (bytes_turned e.0.items f.0.items ∙ (all_back (λ g. bytes_eq f.0.items g.0.items ≡ false) front (e ∷ back) h.0).0, apart_front front back e h.1)

pub apart_back : (front back : Entries) (e : Vec ℕ Global × List RecordSet) → KeysApart (front ++ e ∷ back) → AllByRecursion (λ f. bytes_eq e.0.items f.0.items ≡ false) back
apart_back [] back e h = h.0
apart_back (f ∷ front) back e h = apart_back front back e h.1

-- what was put, and what of the numbers
abbrev pub Counted : Option Record → ℕ → List Numbered → List Numbered → Type 0
Counted None next xs ys = AreBelow (next + 1) ys × (length ys ≡ length xs + 1)
Counted (Some r) next xs ys = AreBelow next ys × (length ys ≡ length xs)

pub record IsPut (origin : List (List ℕ)) (before after : Entries) (next : ℕ) (one : Record) (old : Option Record) : Type 0 where
  pub list : list_of (in_entries after) ≡ put_over (is_rival one) one (list_of (in_entries before))
  pub replaced : old ≡ first_that (is_rival one) (list_of (in_entries before))
  pub each : AreEntries origin after
  pub counted : Counted old next (in_entries before) (in_entries after)

counted_some : (old : Option Record) (next : ℕ) (xs ys : List Numbered) → is_some old ≡ true → AreBelow next ys → length ys ≡ length xs → Counted old next xs ys
counted_some None next xs ys h b l = absurd cc
counted_some (Some r) next xs ys h b l = (b, l)

counted_none : (old : Option Record) (next : ℕ) (xs ys : List Numbered) → old ≡ None → AreBelow (next + 1) ys → length ys ≡ length xs + 1 → Counted old next xs ys
counted_none old next xs ys h b l = subst (λ (o : Option Record). Counted o next xs ys) (sym h) (b, l)

lower_other : (one : Record) (s : RecordSet) → s.rtype < one.rtype → one.rtype ≡ s.rtype → ⊥
lower_other one s h e = omega (arith, h, e)

upper_other : (one : Record) (s : RecordSet) → one.rtype < s.rtype → one.rtype ≡ s.rtype → ⊥
upper_other one s h e = omega (arith, h, e)

module _ (origin : List (List ℕ)) (one : Record) (entry : IsEntry origin one) (es fs : Entries) (next : ℕ) (each : AreEntries origin es) (below : AreBelow next (in_entries es)) (apart : KeysApart es) (so_far : IsSoFar origin (list_of (in_entries es))) where
  abbrev test : Record → Bool
  test = is_rival one

  abbrev key : List ℕ
  key = key_of origin one.name

  abbrev May : Record → Type 0
  May = IsEntry origin

  x : Numbered
  x = record { number = next; one = one }

  may : AllByRecursion (λ y. May y.one) (in_entries es)
  may = all_numbered May (in_entries es) so_far.entries

  few : AtMostOne test (list_of (in_entries es))
  few = one_rival one (list_of (in_entries es)) so_far.distinct

  belongs : (k : List ℕ) → k ≡ key → (rtype : ℕ) → rtype ≡ one.rtype → Belongs origin k rtype one
  belongs k e rtype t = record { within = entry.within; under = sym e; typed = sym t }

  other_keys : (k : List ℕ) (gs : Entries) → k ≡ key → AllByRecursion (λ f. bytes_eq k f.0.items ≡ false) gs → AllByRecursion (λ e. (rtype : ℕ) → FailsAt test May origin e.0.items rtype) gs
  other_keys k gs e h = all_to (λ f. bytes_eq k f.0.items ≡ false) (λ f. (rtype : ℕ) → FailsAt test May origin f.0.items rtype) (λ f p. other_key origin one entry f.0.items (ap (λ (z : List ℕ). bytes_eq z f.0.items) (sym e) ∙ p)) gs h

  -- a record that came without any beside it
  alone : (new : List Numbered) (old : Option Record) → new ≡ record { number = next; one = one } ∷ [] → Middle test (in_entries es) (in_entries fs) [] new → old ≡ None → AreEntries origin fs → IsPut origin es fs next one old
  alone new old e m none each_after =
      let y : Numbered = record { number = next; one = one } in
      record {
        list = sym (list_added test (in_entries es) (in_entries fs) [] new m refl y e refl below);
        replaced = none ∙ sym (first_mid test (in_entries es) (in_entries fs) [] new m refl);
        each = each_after;
        counted = counted_none old next (in_entries es) (in_entries fs) none (below_added test (in_entries es) (in_entries fs) [] new m y e below) (length_added test (in_entries es) (in_entries fs) [] new m y e);
      }

  module _ (front back : Entries) (stored : Vec ℕ Global) (sets changed : List RecordSet) (was : es ≡ front ++ (stored, sets) ∷ back) (keyed : stored.items ≡ key) (is : fs ≡ front ++ (stored, changed) ∷ back) where
    each_was : AreEntries origin (front ++ (stored, sets) ∷ back)
    each_was = subst (AreEntries origin) was each

    here : AreSets origin stored.items sets
    here = (all_back (λ e. AreSets origin e.0.items e.1) front ((stored, sets) ∷ back) each_was).0

    apart_was : KeysApart (front ++ (stored, sets) ∷ back)
    apart_was = subst KeysApart was apart

    may_was : AllByRecursion (λ y. May y.one) (in_entries front ++ (in_sets sets ++ in_entries back))
    may_was = subst (AllByRecursion (λ y. May y.one)) (ap in_entries was ∙ around_entry front back stored sets) may

    front_fails : Fails test (in_entries front)
    front_fails =
        entries_fail test May origin front (all_front (λ e. AreSets origin e.0.items e.1) front ((stored, sets) ∷ back) each_was) (other_keys stored.items front keyed (apart_front front back (stored, sets) apart_was))
        (all_front (λ y. May y.one) (in_entries front) (in_sets sets ++ in_entries back) may_was)

    rest_may : AllByRecursion (λ y. May y.one) (in_sets sets ++ in_entries back)
    rest_may = all_back (λ y. May y.one) (in_entries front) (in_sets sets ++ in_entries back) may_was

    back_fails : Fails test (in_entries back)
    back_fails =
        entries_fail test May origin back (all_back (λ e. AreSets origin e.0.items e.1) front ((stored, sets) ∷ back) each_was).1 (other_keys stored.items back keyed (apart_back front back (stored, sets) apart_was))
        (all_back (λ y. May y.one) (in_sets sets) (in_entries back) rest_may)

    sets_may : AllByRecursion (λ y. May y.one) (in_sets sets)
    sets_may = all_front (λ y. May y.one) (in_sets sets) (in_entries back) rest_may

    each_is : AreSets origin stored.items changed → AreEntries origin fs
    each_is h =
        subst (AreEntries origin) (sym is)
        (all_append (λ e. AreSets origin e.0.items e.1) front ((stored, changed) ∷ back) (all_front (λ e. AreSets origin e.0.items e.1) front ((stored, sets) ∷ back) each_was)
        (h, (all_back (λ e. AreSets origin e.0.items e.1) front ((stored, sets) ∷ back) each_was).1))

    some_fail : (ss : List RecordSet) → AllByRecursion (IsSet origin stored.items) ss → AllByRecursion (λ s. one.rtype ≡ s.rtype → ⊥) ss → AllByRecursion (λ y. May y.one) (in_sets ss) → Fails test (in_sets ss)
    some_fail ss e h m = sets_fail test May origin stored.items ss e (all_to (λ s. one.rtype ≡ s.rtype → ⊥) (λ s. FailsAt test May origin stored.items s.rtype) (λ s p. other_type origin one entry stored.items s.rtype p) ss h) m

    -- the record came among the records of its set
    module _ (lower upper : List RecordSet) (set : RecordSet) (old : Option Record) (sets_was : sets ≡ lower ++ set ∷ upper) (typed : set.rtype ≡ one.rtype) (sets_is : changed ≡ lower ++ put_in_set next one set ∷ upper) (first : old ≡ first_that test set.records) where
      each_set : AllByRecursion (IsSet origin stored.items) (lower ++ set ∷ upper)
      each_set = subst (AllByRecursion (IsSet origin stored.items)) sets_was here.each

      rise : TypesRise (lower ++ set ∷ upper)
      rise = subst TypesRise sets_was here.rise

      set_is : IsSet origin stored.items set
      set_is = (all_back (IsSet origin stored.items) lower (set ∷ upper) each_set).0

      may_sets : AllByRecursion (λ y. May y.one) (in_sets lower ++ (in_set set ++ in_sets upper))
      may_sets = subst (AllByRecursion (λ y. May y.one)) (ap in_sets sets_was ∙ around_set lower upper set) sets_may

      lower_fails : Fails test (in_sets lower)
      lower_fails =
          some_fail lower (all_front (IsSet origin stored.items) lower (set ∷ upper) each_set)
          (all_to (λ s. s.rtype < set.rtype) (λ s. one.rtype ≡ s.rtype → ⊥) (λ s p. lower_other one s (subst (λ n. s.rtype < n) typed p)) lower (rise_lower lower upper set rise))
          (all_front (λ y. May y.one) (in_sets lower) (in_set set ++ in_sets upper) may_sets)

      upper_fails : Fails test (in_sets upper)
      upper_fails =
          some_fail upper (all_back (IsSet origin stored.items) lower (set ∷ upper) each_set).1
          (all_to (λ s. set.rtype < s.rtype) (λ s. one.rtype ≡ s.rtype → ⊥) (λ s p. upper_other one s (subst (λ n. n < s.rtype) typed p)) upper (rise_upper lower upper set rise))
          (all_back (λ y. May y.one) (in_set set) (in_sets upper) (all_back (λ y. May y.one) (in_sets lower) (in_set set ++ in_sets upper) may_sets))

      xs_are : in_entries es ≡ (in_entries front ++ in_sets lower) ++ (in_set set ++ (in_sets upper ++ in_entries back))
      xs_are = ap in_entries was ∙ ap (λ (ss : List RecordSet). in_entries (front ++ (stored, ss) ∷ back)) sets_was ∙ around front back stored lower upper set

      middle : Middle test (in_entries es) (in_entries fs) (in_set set) (in_set (put_in_set next one set))
      middle = record {
        front = in_entries front ++ in_sets lower;
        back = in_sets upper ++ in_entries back;
        was = xs_are;
        is = ap in_entries is ∙ ap (λ (ss : List RecordSet). in_entries (front ++ (stored, ss) ∷ back)) sets_is ∙ around front back stored lower upper (put_in_set next one set);
        front_fails = all_append (λ y. of_plain test y ≡ false) (in_entries front) (in_sets lower) front_fails lower_fails;
        back_fails = all_append (λ y. of_plain test y ≡ false) (in_sets upper) (in_entries back) upper_fails back_fails;
      }

      plain_is : map plain (in_set set) ≡ set.records
      plain_is = plain_again set.numbers set.records set_is.paired

      sorted : list_of (in_set set) ≡ map plain (in_set set)
      sorted = set_list origin stored.items set set_is ∙ sym plain_is

      few_set : AtMostOne test set.records
      few_set = subst (AtMostOne test) plain_is (one_mid test (in_entries es) (in_entries fs) (in_set set) (in_set (put_in_set next one set)) middle sorted few)

      set_below : AreBelow next (in_set set)
      set_below =
          let all = subst (AreBelow next) xs_are below in
          all_front (λ y. y.number < next) (in_set set) (in_sets upper ++ in_entries back) (all_back (λ y. y.number < next) (in_entries front ++ in_sets lower) (in_set set ++ (in_sets upper ++ in_entries back)) all)

      changed_are : AreSets origin stored.items changed
      changed_are = record {
        each = subst (AllByRecursion (IsSet origin stored.items)) (sym sets_is)
            (all_append (IsSet origin stored.items) lower (put_in_set next one set ∷ upper) (all_front (IsSet origin stored.items) lower (set ∷ upper) each_set)
            (is_set_put next one set origin stored.items set_is (belongs stored.items keyed set.rtype typed) few_set set_below, (all_back (IsSet origin stored.items) lower (set ∷ upper) each_set).1));
        rise = subst TypesRise (sym sets_is) (rise_same lower upper set (put_in_set next one set) (put_type next one set) rise);
      }

      is_first : old ≡ first_that test (list_of (in_entries es))
      is_first = first ∙ ap (first_that test) (sym plain_is) ∙ sym (first_mid test (in_entries es) (in_entries fs) (in_set set) (in_set (put_in_set next one set)) middle sorted)

      put_set : (b : Bool) → list_any test set.records ≡ b → IsPut origin es fs next one old
      put_set true h =
          let e = set_replaced next one set few_set h in
          let any : list_any test (map plain (in_set set)) ≡ true = ap (list_any test) plain_is ∙ h in
          let is_one : is_some old ≡ true = ap is_some first ∙ sym (any_first test set.records) ∙ h in
          record {
            list = sym (list_replaced test (in_entries es) (in_entries fs) (in_set set) (in_set (put_in_set next one set)) middle sorted one e few any);
            replaced = is_first;
            each = each_is changed_are;
            counted = counted_some old next (in_entries es) (in_entries fs) is_one (below_replaced test (in_entries es) (in_entries fs) (in_set set) (in_set (put_in_set next one set)) middle sorted one next e below)
                (length_replaced test (in_entries es) (in_entries fs) (in_set set) (in_set (put_in_set next one set)) middle sorted one e);
          }
      put_set false h =
          let e : in_set (put_in_set next one set) ≡ in_set set ++ record { number = next; one = one } ∷ [] = set_added next one set set_is.paired h in
          let none : list_any test (map plain (in_set set)) ≡ false = ap (list_any test) plain_is ∙ h in
          let y : Numbered = record { number = next; one = one } in
          record {
            list = sym (list_added test (in_entries es) (in_entries fs) (in_set set) (in_set (put_in_set next one set)) middle sorted y e none below);
            replaced = is_first;
            each = each_is changed_are;
            counted = counted_none old next (in_entries es) (in_entries fs) (first ∙ first_none test set.records h) (below_added test (in_entries es) (in_entries fs) (in_set set) (in_set (put_in_set next one set)) middle y e below)
                (length_added test (in_entries es) (in_entries fs) (in_set set) (in_set (put_in_set next one set)) middle y e);
          }

    -- the record came alone into a set
    module _ (lower upper : List RecordSet) (old : Option Record) (sets_was : sets ≡ lower ++ upper) (lesser : AllByRecursion (λ s. s.rtype < one.rtype) lower) (greater : AllByRecursion (λ s. one.rtype < s.rtype) upper) (sets_is : changed ≡ lower ++ new_set next one ∷ upper) (none : old ≡ None) where
      each_beside : AllByRecursion (IsSet origin stored.items) (lower ++ upper)
      each_beside = subst (AllByRecursion (IsSet origin stored.items)) sets_was here.each

      may_beside : AllByRecursion (λ y. May y.one) (in_sets lower ++ in_sets upper)
      may_beside = subst (AllByRecursion (λ y. May y.one)) (ap in_sets sets_was ∙ flat_map-append in_set lower upper) sets_may

      lesser_fail : Fails test (in_sets lower)
      lesser_fail =
          some_fail lower (all_front (IsSet origin stored.items) lower upper each_beside) (all_to (λ s. s.rtype < one.rtype) (λ s. one.rtype ≡ s.rtype → ⊥) (λ s p. lower_other one s p) lower lesser)
          (all_front (λ y. May y.one) (in_sets lower) (in_sets upper) may_beside)

      greater_fail : Fails test (in_sets upper)
      greater_fail =
          some_fail upper (all_back (IsSet origin stored.items) lower upper each_beside) (all_to (λ s. one.rtype < s.rtype) (λ s. one.rtype ≡ s.rtype → ⊥) (λ s p. upper_other one s p) upper greater)
          (all_back (λ y. May y.one) (in_sets lower) (in_sets upper) may_beside)

      beside : Middle test (in_entries es) (in_entries fs) [] (in_set (new_set next one))
      beside = record {
        front = in_entries front ++ in_sets lower;
        back = in_sets upper ++ in_entries back;
        was = ap in_entries was ∙ ap (λ (ss : List RecordSet). in_entries (front ++ (stored, ss) ∷ back)) sets_was ∙ around_none front back stored lower upper;
        is = ap in_entries is ∙ ap (λ (ss : List RecordSet). in_entries (front ++ (stored, ss) ∷ back)) sets_is ∙ around front back stored lower upper (new_set next one);
        front_fails = all_append (λ y. of_plain test y ≡ false) (in_entries front) (in_sets lower) front_fails lesser_fail;
        back_fails = all_append (λ y. of_plain test y ≡ false) (in_sets upper) (in_entries back) greater_fail back_fails;
      }

      beside_are : AreSets origin stored.items changed
      beside_are = record {
        each = subst (AllByRecursion (IsSet origin stored.items)) (sym sets_is)
            (all_append (IsSet origin stored.items) lower (new_set next one ∷ upper) (all_front (IsSet origin stored.items) lower upper each_beside)
            (is_set_new next one origin stored.items (belongs stored.items keyed one.rtype refl), all_back (IsSet origin stored.items) lower upper each_beside));
        rise = subst TypesRise (sym sets_is) (rise_new lower upper (new_set next one) lesser greater (subst TypesRise sets_was here.rise));
      }

      put_new_set : IsPut origin es fs next one old
      put_new_set = alone (in_set (new_set next one)) old refl beside none (each_is beside_are)

  -- the record was put among the sets of its name
  put_under : (old : Option Record) → UnderName key next one es fs old → IsPut origin es fs next one old
  put_under old u = by_set u.put
    where
      by_set : PutInSets next one u.sets u.changed old → IsPut origin es fs next one old
      by_set (inl p) = put_set u.front u.back u.stored u.sets u.changed u.was u.keyed u.is p.front p.back p.set old p.was p.typed p.is p.replaced (list_any test p.set.records) refl
      by_set (inr p) = put_new_set u.front u.back u.stored u.sets u.changed u.was u.keyed u.is p.front p.back old p.was p.lower p.upper p.is p.replaced

  -- or its name is new
  put_new_name : (old : Option Record) → UnderNewName key next one es fs old → IsPut origin es fs next one old
  put_new_name old u =
      let fails : Fails test (in_entries es) = entries_fail test May origin es each (all_to (λ e. bytes_eq key e.0.items ≡ false) (λ e. (rtype : ℕ) → FailsAt test May origin e.0.items rtype) (λ e p. other_key origin one entry e.0.items p) es u.absent) may in
      let split : in_entries es ≡ in_entries u.front ++ in_entries u.back = ap in_entries u.was ∙ flat_map-append (λ (e : Vec ℕ Global × List RecordSet). in_sets e.1) u.front u.back in
      let fails_split : Fails test (in_entries u.front ++ in_entries u.back) = subst (Fails test) split fails in
      let each_split : AreEntries origin (u.front ++ u.back) = subst (AreEntries origin) u.was each in
      let m : Middle test (in_entries es) (in_entries fs) [] (in_sets (new_set next one ∷ [])) = record {
        front = in_entries u.front;
        back = in_entries u.back;
        was = split;
        is = ap in_entries u.is ∙ around_entry u.front u.back u.stored (new_set next one ∷ []);
        front_fails = all_front (λ y. of_plain test y ≡ false) (in_entries u.front) (in_entries u.back) fails_split;
        back_fails = all_back (λ y. of_plain test y ≡ false) (in_entries u.front) (in_entries u.back) fails_split;
      } in
      let sets : AreSets origin u.stored.items (new_set next one ∷ []) = record { each = (is_set_new next one origin u.stored.items (belongs u.stored.items u.keyed one.rtype refl), tt); rise = (tt, tt) } in
      alone (in_sets (new_set next one ∷ [])) old refl m u.replaced
      (subst (AreEntries origin) (sym u.is)
      (all_append (λ e. AreSets origin e.0.items e.1) u.front ((u.stored, new_set next one ∷ []) ∷ u.back) (all_front (λ e. AreSets origin e.0.items e.1) u.front u.back each_split)
      (sets, all_back (λ e. AreSets origin e.0.items e.1) u.front u.back each_split)))

  pub put_done : (old : Option Record) → PutUnder key next one es fs old → IsPut origin es fs next one old
  put_done old (inl u) = put_under old u
  put_done old (inr u) = put_new_name old u

-- the list after that may become that of a zone
pub so_far_put : (origin : List (List ℕ)) (records after : List Record) (one : Record) → after ≡ put_over (is_rival one) one records → IsEntry origin one → IsSoFar origin records → IsSoFar origin after
so_far_put origin records after one is entry before =
    subst (IsSoFar origin) (sym is) (record { entries = all_over (IsEntry origin) (is_rival one) one records entry before.entries; distinct = distinct_put one records before.distinct })

-- the same of a map that is seen as its list
module _ (origin : List (List ℕ)) (es : Entries) (next count : ℕ) (zone : Contents) (one : Record) (view : record { origin = origin; records = list_of (in_entries es) } ≡ zone) (tree : IsTree origin es next count) (entry : IsEntry zone.origin one) (so_far : IsSoFar zone.origin zone.records) where
  same_origin : zone.origin ≡ origin
  same_origin = sym (ap (λ z. z.origin) view)

  same_records : list_of (in_entries es) ≡ zone.records
  same_records = ap (λ z. z.records) view

  entry_here : IsEntry origin one
  entry_here = subst (λ o. IsEntry o one) same_origin entry

  so_far_here : IsSoFar origin (list_of (in_entries es))
  so_far_here = subst (λ o. IsSoFar o (list_of (in_entries es))) same_origin (subst (IsSoFar zone.origin) (sym same_records) so_far)

  pub rising_all : AllByRecursion (λ e. TypesRise e.1) es
  rising_all = all_to (λ e. AreSets origin e.0.items e.1) (λ e. TypesRise e.1) (λ e p. p.rise) es tree.each

  module _ (fs : Entries) (key : List ℕ) (old : Option Record) (apart : KeysApart es) (keyed : key ≡ key_of origin one.name) (put : PutUnder key next one es fs old) where
    pub put_seen : IsPut origin es fs next one old
    put_seen = put_done origin one entry_here es fs next tree.each tree.below apart so_far_here old (subst (λ k. PutUnder k next one es fs old) keyed put)

    pub records_after : list_of (in_entries fs) ≡ put_over (is_rival one) one zone.records
    records_after = put_seen.list ∙ ap (put_over (is_rival one) one) same_records

    pub replaced_is : old ≡ first_that (is_rival one) zone.records
    replaced_is = put_seen.replaced ∙ ap (first_that (is_rival one)) same_records

    pub so_far_after : IsSoFar origin (list_of (in_entries fs))
    so_far_after = so_far_put origin (list_of (in_entries es)) (list_of (in_entries fs)) one put_seen.list entry_here so_far_here

    pub tree_same : (r : Record) → old ≡ Some r → IsTree origin fs next count
    tree_same r e =
        let n = subst (λ (o : Option Record). Counted o next (in_entries es) (in_entries fs)) e put_seen.counted in
        record { each = put_seen.each; below = n.0; counted = tree.counted ∙ sym n.1; few = tree.few }

    pub tree_more : old ≡ None → IsTree origin fs (next + 1) (count + 1)
    tree_more e =
        let n = subst (λ (o : Option Record). Counted o next (in_entries es) (in_entries fs)) e put_seen.counted in
        record { each = put_seen.each; below = n.0; counted = ap (λ k. k + 1) tree.counted ∙ sym n.1; few = let l : count ≤ next = tree.few in omega arith }
