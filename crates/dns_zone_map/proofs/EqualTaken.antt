-- A record equal to another one, taken from its set and from the sets of its name.
use Rattle.std.proofs.Common.{◌≡◌, ℕ, zero, suc, ◌+◌, ◌<◌, ◌≤◌, Bool, true, false, List, [], ◌∷◌, ◌++◌, length, get_or, take, drop, refl, sym, ap, ◌∙◌, subst, arith, ◌==◌, if◌then◌else◌, length-append, Some, None}
use Rattle.std.specs.Prelude.{filter, not, ◌&&◌, slice_set, Option, IfSome}
use Rattle.std.specs.List.{AllByRecursion}
use Rattle.std.proofs.lemmas.Bool.{ne_eqb}
use Rattle.std.proofs.lemmas.Bool.Decides.{Decides-eqb}
use Rattle.std.proofs.lemmas.List.{take-append-drop, drop_more, length-take-le, take-set, drop-set-lt, get_or-set_same}
use Rattle.std.proofs.lemmas.List.Concat.{flat_map-append}
use Rattle.std.proofs.lemmas.List.Elements.{filter-append}
use Rattle.dns_name.specs.Name.{is_same_name}
use Rattle.dns_wire.specs.declared.record.Record.{Record}
use Rattle.dns_zone_map.specs.declared.sets.RecordSet.{RecordSet}
use Rattle.dns_zone_map.specs.SameData.{data_eq}
use Rattle.dns_zone_map.specs.Zone.{is_equal}
use Rattle.dns_zone_map.specs.Changes.{AtMostOne}
use Rattle.dns_zone_map.specs.Order.{Numbered, numbered, of_plain, IsRising}
use Rattle.dns_zone_map.specs.Sets.{TypesRise, set_in, in_set, in_sets}
use Rattle.dns_zone_map.specs.Tree.{Belongs, IsSet, AreSets}
use Rattle.dns_zone_map.specs.Insertion.{StandsAt}
use Rattle.dns_zone_map.specs.Removal.{IsFirstEqual, EqualTaken, EqualTakenAt, with_set, OneTaken, HasNoEqual}
use Rattle.dns_zone_map.proofs.Lent.{all_to, numbered_all, filter_all}
use Rattle.dns_zone_map.proofs.Exists.{all_append}
use Rattle.dns_zone_map.proofs.Rest.{Fails, FailsAt, all_front, all_back, sets_fail}
use Rattle.dns_zone_map.proofs.Middle.{turned_not}
use Rattle.dns_zone_map.proofs.PutSets.{rise_lower, rise_upper, rise_same}
use Rattle.dns_zone_map.proofs.Taken.{both, no_true, turned, rise_without, any_at_all}
use Rattle.dns_zone_map.proofs.Left.{AreLeft}

pub parts_at : {X : Type 0} (xs : List X) (place : ℕ) (d : X) → place < length xs → xs ≡ take place xs ++ get_or xs place d ∷ drop (place + 1) xs
parts_at xs place d within = sym (take-append-drop place xs) ∙ ap (λ ys. take place xs ++ ys) (drop_more xs place d within)

-- the first equal record of a set is taken
pub taken_first : (one r : Record) (s : RecordSet) (read rs : List Record) (ns : List ℕ) (place : ℕ) → read ≡ s.records → length s.numbers ≡ length s.records → IsFirstEqual one read place → r ≡ get_or s.records place r → rs ≡ take place s.records ++ drop (place + 1) s.records
    → ns ≡ take place s.numbers ++ drop (place + 1) s.numbers → EqualTaken one r s (record { rtype = s.rtype; records = rs; numbers = ns })
taken_first one r s read rs ns place same paired found at gone less =
    let here : IsFirstEqual one s.records place = subst (λ (xs : List Record). IsFirstEqual one xs place) same found in
    let within : place < length s.numbers = omega (arith, here.within, paired) in
    record {
      front = take place s.records;
      back = drop (place + 1) s.records;
      lower = take place s.numbers;
      number = get_or s.numbers place 0;
      upper = drop (place + 1) s.numbers;
      was = parts_at s.records place r here.within ∙ ap (λ x. take place s.records ++ x ∷ drop (place + 1) s.records) (sym at);
      were = parts_at s.numbers place 0 within;
      beside = omega (arith, length-take-le place s.numbers (omega (arith, within)), length-take-le place s.records (omega (arith, here.within)));
      first = here.first;
      equal = subst (λ (x : Record). is_equal one x ≡ true) (sym at) (here.equal r);
      is = ap (λ (xs : List Record). record { rtype = s.rtype; records = xs; numbers = ns }) gone ∙ ap (λ (ms : List ℕ). record { rtype = s.rtype; records = take place s.records ++ drop (place + 1) s.records; numbers = ms }) less;
    }

-- the set of a type stands where it stands
skip_lower : (rtype : ℕ) (front back : List RecordSet) (s : RecordSet) → AllByRecursion (λ t. t.rtype < rtype) front → s.rtype ≡ rtype → set_in rtype (front ++ s ∷ back) ≡ Some s
skip_lower rtype [] back s l t = let e : (s.rtype == rtype) ≡ true = (Decides-eqb s.rtype rtype).1 t in rw e refl
skip_lower rtype (f ∷ front) back s l t = let e : (f.rtype == rtype) ≡ false = ne_eqb f.rtype rtype (λ e. let m : f.rtype < rtype = l.0 in omega (arith, m, e)) in rw e (skip_lower rtype front back s l.1 t)

stands_in : (rtype : ℕ) (sets : List RecordSet) (place : ℕ) (d : RecordSet) → StandsAt rtype sets place → set_in rtype sets ≡ Some (get_or sets place d)
stands_in rtype sets place d at = ap (set_in rtype) (parts_at sets place d at.within) ∙ skip_lower rtype (take place sets) (drop (place + 1) sets) (get_or sets place d) at.lower (at.typed d)

pub no_set : RecordSet
no_set = record { rtype = 0; records = []; numbers = [] }

-- where no record of the set is equal, none is
pub none_in : (one : Record) (items read seen : List RecordSet) (place : ℕ) → items ≡ seen → read ≡ items → StandsAt one.rtype read place → ((d : RecordSet) → HasNoEqual one (get_or items place d)) → IfSome (set_in one.rtype seen) (HasNoEqual one)
none_in one items read seen place view same at none =
    let here : StandsAt one.rtype items place = subst (λ (ss : List RecordSet). StandsAt one.rtype ss place) same at in
    subst (λ (found : Option RecordSet). IfSome found (HasNoEqual one)) (sym (ap (set_in one.rtype) (sym view) ∙ stands_in one.rtype items place no_set here)) (none no_set)

pub none_of_type : (one : Record) (sets : List RecordSet) → set_in one.rtype sets ≡ None → IfSome (set_in one.rtype sets) (HasNoEqual one)
none_of_type one sets none = subst (λ (found : Option RecordSet). IfSome found (HasNoEqual one)) (sym none) tt

-- or one is taken
pub taken_one : (one r : Record) (items read seen between after : List RecordSet) (place : ℕ) → items ≡ seen → read ≡ items → StandsAt one.rtype read place → EqualTakenAt one r place items between
    → ((d : RecordSet) → after ≡ with_set (take place between) (get_or between place d) (drop (place + 1) between)) → OneTaken one r seen after
taken_one one r items read seen between after place view same at t is =
    let here : StandsAt one.rtype items place = subst (λ (ss : List RecordSet). StandsAt one.rtype ss place) same at in
    record {
      front = take place items;
      set = t.set;
      changed = t.changed;
      back = drop (place + 1) items;
      was = sym view ∙ parts_at items place no_set here.within ∙ ap (λ s. take place items ++ s ∷ drop (place + 1) items) (t.here no_set);
      typed = ap (λ (s : RecordSet). s.rtype) (sym (t.here no_set)) ∙ here.typed no_set;
      is = is no_set ∙ ap (λ (ss : List RecordSet). with_set (take place ss) (get_or ss place no_set) (drop (place + 1) ss)) t.is
          ∙ ap (λ (ss : List RecordSet). with_set ss (get_or (slice_set items place t.changed) place no_set) (drop (place + 1) (slice_set items place t.changed))) (take-set items place t.changed)
          ∙ ap (λ (s : RecordSet). with_set (take place items) s (drop (place + 1) (slice_set items place t.changed))) (get_or-set_same items place t.changed no_set here.within)
          ∙ ap (λ (ss : List RecordSet). with_set (take place items) t.changed ss) (drop-set-lt (place + 1) items place t.changed (omega arith));
      taken = t.taken;
    }

numbered_parts : (ns ms : List ℕ) (rs ss : List Record) → length ns ≡ length rs → numbered (ns ++ ms) (rs ++ ss) ≡ numbered ns rs ++ numbered ms ss
numbered_parts [] ms [] ss h = refl
numbered_parts [] ms (r ∷ rs) ss h = absurd (omega (arith, h))
numbered_parts (n ∷ ns) ms [] ss h = absurd (omega (arith, h))
numbered_parts (n ∷ ns) ms (r ∷ rs) ss h = ap (λ (xs : List Numbered). record { number = n; one = r } ∷ xs) (numbered_parts ns ms rs ss (omega (arith, h)))

few_behind : (test : Record → Bool) (front back : List Record) (r : Record) → AtMostOne test (front ++ r ∷ back) → test r ≡ true → AllByRecursion (λ s. test s ≡ false) back
few_behind test [] back r h t = h.0 t
few_behind test (f ∷ front) back r h t = few_behind test front back r h.1 t

rising_without : (front back : List ℕ) (n : ℕ) → IsRising (front ++ n ∷ back) → IsRising (front ++ back)
rising_without [] back n h = h.1
rising_without (f ∷ front) back n h =
    (all_append (λ m. f ≤ m) front back (all_front (λ m. f ≤ m) front (n ∷ back) h.0) (all_back (λ m. f ≤ m) front (n ∷ back) h.0).1, rising_without front back n h.1)

numbered_none : (ns : List ℕ) (rs : List Record) → length rs ≡ 0 → numbered ns rs ≡ []
numbered_none [] rs h = refl
numbered_none (n ∷ ns) [] h = refl
numbered_none (n ∷ ns) (r ∷ rs) h = absurd (omega (arith, h))

-- equal records are of one name and one type
pub equal_type : (one r : Record) → is_equal one r ≡ true → one.rtype ≡ r.rtype
equal_type one r h = (Decides-eqb one.rtype r.rtype).0 (both (one.rtype == r.rtype) (is_same_name one.name r.name && data_eq one.rdata r.rdata) h).0

pub equal_name : (one r : Record) → is_equal one r ≡ true → is_same_name one.name r.name ≡ true
equal_name one r h = (both (is_same_name one.name r.name) (data_eq one.rdata r.rdata) (both (one.rtype == r.rtype) (is_same_name one.name r.name && data_eq one.rdata r.rdata) h).1).0

module _ (one r : Record) (set changed : RecordSet) (t : EqualTaken one r set changed) where
  abbrev stay : Numbered → Bool
  stay x = not (of_plain (is_equal one) x)

  in_was : in_set set ≡ numbered t.lower t.front ++ record { number = t.number; one = r } ∷ numbered t.upper t.back
  in_was = ap (λ (ns : List ℕ). numbered ns set.records) t.were ∙ ap (numbered (t.lower ++ t.number ∷ t.upper)) t.was ∙ numbered_parts t.lower (t.number ∷ t.upper) t.front (r ∷ t.back) t.beside

  in_is : in_set changed ≡ numbered t.lower t.front ++ numbered t.upper t.back
  in_is = ap in_set t.is ∙ numbered_parts t.lower t.upper t.front t.back t.beside

  all_stay : (ns : List ℕ) (rs : List Record) → AllByRecursion (λ s. is_equal one s ≡ false) rs → filter stay (numbered ns rs) ≡ numbered ns rs
  all_stay ns rs h = filter_all stay (numbered ns rs) (numbered_all (λ s. not (is_equal one s) ≡ true) ns rs (all_to (λ s. is_equal one s ≡ false) (λ s. not (is_equal one s) ≡ true) (λ s p. turned_not (is_equal one s) p) rs h))

  -- what is left of the set
  pub set_left : AtMostOne (is_equal one) set.records → in_set changed ≡ filter stay (in_set set)
  set_left few =
      let behind : AllByRecursion (λ s. is_equal one s ≡ false) t.back = few_behind (is_equal one) t.front t.back r (subst (AtMostOne (is_equal one)) t.was few) t.equal in
      let goes : stay (record { number = t.number; one = r }) ≡ false = turned (is_equal one r) t.equal in
      let x : Numbered = record { number = t.number; one = r } in
      in_is
      ∙ sym (ap (filter stay) in_was ∙ filter-append stay (numbered t.lower t.front) (x ∷ numbered t.upper t.back) ∙ ap (λ (xs : List Numbered). xs ++ filter stay (x ∷ numbered t.upper t.back)) (all_stay t.lower t.front t.first)
      ∙ ap (λ (b : Bool). numbered t.lower t.front ++ (if b then x ∷ filter stay (numbered t.upper t.back) else filter stay (numbered t.upper t.back))) goes ∙ ap (λ (xs : List Numbered). numbered t.lower t.front ++ xs) (all_stay t.upper t.back behind))

  -- it is a set, if it is not empty
  pub set_still : (origin : List (List ℕ)) (key : List ℕ) → IsSet origin key set → (length changed.records == 0) ≡ false → IsSet origin key changed
  set_still origin key is some =
      let records : changed.records ≡ t.front ++ t.back = ap (λ (s : RecordSet). s.records) t.is in
      let numbers : changed.numbers ≡ t.lower ++ t.upper = ap (λ (s : RecordSet). s.numbers) t.is in
      let typed : changed.rtype ≡ set.rtype = ap (λ (s : RecordSet). s.rtype) t.is in
      let P : Record → Type 0 = Belongs origin key set.rtype in
      let all : AllByRecursion P (t.front ++ r ∷ t.back) = subst (AllByRecursion P) t.was is.belong in
      let belong : AllByRecursion P (t.front ++ t.back) = all_append P t.front t.back (all_front P t.front (r ∷ t.back) all) (all_back P t.front (r ∷ t.back) all).1 in
      record {
        filled = filled (length changed.records) some;
        paired = omega (
          arith,
          is.paired,
          t.beside,
          ap length records,
          ap length numbers,
          ap length t.was,
          ap length t.were,
          length-append t.front t.back,
          length-append t.lower t.upper,
          length-append t.front (r ∷ t.back),
          length-append t.lower (t.number ∷ t.upper),
        );
        belong = subst (λ (n : ℕ). AllByRecursion (Belongs origin key n) changed.records) (sym typed) (subst (AllByRecursion P) (sym records) belong);
        rising = subst IsRising (sym numbers) (rising_without t.lower t.upper t.number (subst IsRising t.were is.rising));
      }
    where
      filled : (n : ℕ) → (n == 0) ≡ false → 0 < n
      filled zero h = absurd cc
      filled (suc n) h = omega arith

-- the sets of the name
module _ (origin : List (List ℕ)) (key : List ℕ) (one r : Record) (sets changed : List RecordSet) (are : AreSets origin key sets) (o : OneTaken one r sets changed) (few : AtMostOne (is_equal one) o.set.records) where
  abbrev May : Record → Type 0
  May s = Unit {0}

  abbrev stays : Numbered → Bool
  stays x = not (of_plain (is_equal one) x)

  each : AllByRecursion (IsSet origin key) (o.front ++ o.set ∷ o.back)
  each = subst (AllByRecursion (IsSet origin key)) o.was are.each

  each_front : AllByRecursion (IsSet origin key) o.front
  each_front = all_front (IsSet origin key) o.front (o.set ∷ o.back) each

  each_back : AllByRecursion (IsSet origin key) o.back
  each_back = (all_back (IsSet origin key) o.front (o.set ∷ o.back) each).1

  set_is : IsSet origin key o.set
  set_is = (all_back (IsSet origin key) o.front (o.set ∷ o.back) each).0

  rise : TypesRise (o.front ++ o.set ∷ o.back)
  rise = subst TypesRise o.was are.rise

  other_type : (kind : ℕ) → (kind ≡ o.set.rtype → ⊥) → FailsAt (is_equal one) May origin key kind
  other_type kind other s b may = no_true (is_equal one s) (λ h. other (sym b.typed ∙ sym (equal_type one s h) ∙ sym o.typed))

  others_stay : (ss : List RecordSet) → AllByRecursion (IsSet origin key) ss → AllByRecursion (λ s. s.rtype ≡ o.set.rtype → ⊥) ss → filter stays (in_sets ss) ≡ in_sets ss
  others_stay ss e h =
      let fails : Fails (is_equal one) (in_sets ss) = sets_fail (is_equal one) May origin key ss e (all_to (λ s. s.rtype ≡ o.set.rtype → ⊥) (λ s. FailsAt (is_equal one) May origin key s.rtype) (λ s p. other_type s.rtype p) ss h) (any_at_all (in_sets ss)) in
      filter_all stays (in_sets ss) (all_to (λ x. of_plain (is_equal one) x ≡ false) (λ x. stays x ≡ true) (λ x p. turned_not (of_plain (is_equal one) x) p) (in_sets ss) fails)

  in_left : (b : Bool) → (length o.changed.records == 0) ≡ b → in_sets (if b then o.front ++ o.back else o.front ++ o.changed ∷ o.back) ≡ in_sets o.front ++ (in_set o.changed ++ in_sets o.back)
  in_left true h = flat_map-append in_set o.front o.back ∙ ap (λ (xs : List Numbered). in_sets o.front ++ (xs ++ in_sets o.back)) (sym (numbered_none o.changed.numbers o.changed.records ((Decides-eqb (length o.changed.records) 0).0 h)))
  in_left false h = flat_map-append in_set o.front (o.changed ∷ o.back)

  each_left : (b : Bool) → (length o.changed.records == 0) ≡ b → AllByRecursion (IsSet origin key) (if b then o.front ++ o.back else o.front ++ o.changed ∷ o.back)
  each_left true h = all_append (IsSet origin key) o.front o.back each_front each_back
  each_left false h = all_append (IsSet origin key) o.front (o.changed ∷ o.back) each_front (set_still one r o.set o.changed o.taken origin key set_is h, each_back)

  rise_left : (b : Bool) → TypesRise (if b then o.front ++ o.back else o.front ++ o.changed ∷ o.back)
  rise_left true = rise_without o.front o.back o.set rise
  rise_left false = rise_same o.front o.back o.set o.changed (ap (λ (s : RecordSet). s.rtype) o.taken.is) rise

  in_changed : in_sets changed ≡ in_sets o.front ++ (in_set o.changed ++ in_sets o.back)
  in_changed = ap in_sets o.is ∙ in_left (length o.changed.records == 0) refl

  in_before : in_sets sets ≡ in_sets o.front ++ (in_set o.set ++ in_sets o.back)
  in_before = ap in_sets o.was ∙ flat_map-append in_set o.front (o.set ∷ o.back)

  pub one_left : AreLeft origin key (is_equal one) sets changed
  one_left =
      let lower : filter stays (in_sets o.front) ≡ in_sets o.front =
      others_stay o.front each_front (all_to (λ s. s.rtype < o.set.rtype) (λ s. s.rtype ≡ o.set.rtype → ⊥) (λ s p e. omega (arith, p, e)) o.front (rise_lower o.front o.back o.set rise)) in
      let upper : filter stays (in_sets o.back) ≡ in_sets o.back =
      others_stay o.back each_back (all_to (λ s. o.set.rtype < s.rtype) (λ s. s.rtype ≡ o.set.rtype → ⊥) (λ s p e. omega (arith, p, e)) o.back (rise_upper o.front o.back o.set rise)) in
      record {
        each = subst (AllByRecursion (IsSet origin key)) (sym o.is) (each_left (length o.changed.records == 0) refl);
        rise = subst TypesRise (sym o.is) (rise_left (length o.changed.records == 0));
        left = in_changed
            ∙ sym (ap (filter stays) in_before ∙ filter-append stays (in_sets o.front) (in_set o.set ++ in_sets o.back) ∙ ap (λ (xs : List Numbered). xs ++ filter stays (in_set o.set ++ in_sets o.back)) lower
            ∙ ap (λ (xs : List Numbered). in_sets o.front ++ xs) (filter-append stays (in_set o.set) (in_sets o.back) ∙ ap (λ (xs : List Numbered). xs ++ filter stays (in_sets o.back)) (sym (set_left one r o.set o.changed o.taken few)) ∙ ap (λ (xs : List Numbered). in_set o.changed ++ xs) upper));
      }

  pub one_count : 1 + length (in_sets changed) ≡ length (in_sets sets)
  one_count =
      omega (
        arith,
        ap length in_changed,
        ap length in_before,
        length-append (in_sets o.front) (in_set o.changed ++ in_sets o.back),
        length-append (in_sets o.front) (in_set o.set ++ in_sets o.back),
        length-append (in_set o.changed) (in_sets o.back),
        length-append (in_set o.set) (in_sets o.back),
        ap length (in_was one r o.set o.changed o.taken),
        ap length (in_is one r o.set o.changed o.taken),
        length-append (numbered o.taken.lower o.taken.front) (record { number = o.taken.number; one = r } ∷ numbered o.taken.upper o.taken.back),
        length-append (numbered o.taken.lower o.taken.front) (numbered o.taken.upper o.taken.back),
      )
