-- A record that is put into the map: where its name stands.
use Rattle.std.proofs.Common.{◌≡◌, Ordering, ℕ, Bool, true, false, List, [], ◌∷◌, ◌++◌, refl, sym, ap, ◌∙◌, subst, inl, inr, Some, None, Vec, Global, Result, Ok, Err, IfOk, OnErr}
use Rattle.std.specs.Prelude.{Option, cond, IfSome, if◌then◌else◌}
use Rattle.std.specs.List.{AllByRecursion}
use Rattle.std.specs.Str.{bytes_eq}
use Rattle.std.specs.Map.{lookup, keys_of, remove_entry, set_value}
use Rattle.std.specs.List.Sorted.{IsStrictlySortedBy}
use Rattle.std.proofs.lemmas.Map.Keys.{sorted_head, sorted_tail}
use Rattle.std.proofs.lemmas.Cmp.{nat_list_cmp_total}
use Rattle.std.specs.BTreeMap.{insert_entry}
use Rattle.std.specs.Ordering.{nat_cmp, is_eq}
use Rattle.std.specs.declared.cmp.Ordering.TheVariants.{Less, Equal, Greater}
use Rattle.std.specs.Cmp.Lexicographic.{slice_cmp}
use Rattle.std.proofs.lemmas.Slice.Eq.{bytes_eq-Decides}
use Rattle.std.proofs.lemmas.Map.Text.{is_eq-slice_cmp}
use Rattle.std.proofs.lemmas.Map.Steps.{set_value_same}
use Rattle.dns_wire.specs.declared.record.Record.{Record}
use Rattle.dns_zone_map.specs.declared.sets.RecordSet.{RecordSet}
use Rattle.dns_zone_map.specs.declared.beside.Beside.{Beside}
use Rattle.dns_zone_map.specs.declared.beside.Beside.TheVariants.{New, Replaced, Clash}
use Rattle.dns_zone_map.specs.Zone.{is_type}
use Rattle.dns_zone_map.specs.Sets.{TypesRise, sets_or_none}
use Rattle.dns_zone_map.specs.Beside.{stands_beside, IsPutInSets, IsPutAt}
use Rattle.dns_zone_map.proofs.Lent.{looked}
use Rattle.dns_zone_map.specs.Insertion.{PutInSets, PutUnder, IsAdded, new_set}

abbrev Entries : Type 0
Entries = List (Vec ℕ Global × List RecordSet)

-- an entry that is found, among those before it and behind it
record Found (test : Vec ℕ Global → Bool) (es : Entries) (sets : List RecordSet) : Type 0 where
  front : Entries
  stored : Vec ℕ Global
  back : Entries
  was : es ≡ front ++ (stored, sets) ∷ back
  passes : test stored ≡ true
  written : (w : List RecordSet) → set_value test es w ≡ front ++ (stored, w) ∷ back

found_if : (b : Bool) (test : Vec ℕ Global → Bool) (e : Vec ℕ Global × List RecordSet) (es : Entries) (sets : List RecordSet) → test e.0 ≡ b → cond b (Some e.1) (lookup test es) ≡ Some sets → (lookup test es ≡ Some sets → Found test es sets) → Found test (e ∷ es) sets
found_if true test e es sets t h ih =
    let same : e.1 ≡ sets = cc in
    record { front = []; stored = e.0; back = es; was = ap (λ (s : List RecordSet). (e.0, s) ∷ es) same; passes = t; written = λ w. rw t refl }
found_if false test e es sets t h ih =
    let f : Found test es sets = ih h in
    record { front = e ∷ f.front; stored = f.stored; back = f.back; was = ap (λ (xs : Entries). e ∷ xs) f.was; passes = f.passes; written = λ w. rw t (ap (λ (xs : Entries). e ∷ xs) (f.written w)) }

found : (test : Vec ℕ Global → Bool) (es : Entries) (sets : List RecordSet) → lookup test es ≡ Some sets → Found test es sets
found test [] sets h = absurd cc
found test (e ∷ es) sets h = found_if (test e.0) test e es sets refl h (found test es sets)

absent_if : (b : Bool) (test : Vec ℕ Global → Bool) (e : Vec ℕ Global × List RecordSet) (es : Entries) → test e.0 ≡ b → cond b (Some e.1) (lookup test es) ≡ None → (lookup test es ≡ None → AllByRecursion (λ e. test e.0 ≡ false) es) → AllByRecursion (λ e. test e.0 ≡ false) (e ∷ es)
absent_if true test e es t h ih = absurd cc
absent_if false test e es t h ih = (t, ih h)

pub absent_all : (test : Vec ℕ Global → Bool) (es : Entries) → lookup test es ≡ None → AllByRecursion (λ e. test e.0 ≡ false) es
absent_all test [] h = tt
absent_all test (e ∷ es) h = absent_if (test e.0) test e es refl h (absent_all test es)

pub other_bytes : (key : List ℕ) (es : Entries) → AllByRecursion (λ e. is_eq (slice_cmp nat_cmp key e.0.items) ≡ false) es → AllByRecursion (λ e. bytes_eq key e.0.items ≡ false) es
other_bytes key [] h = tt
other_bytes key (e ∷ es) h = (sym (is_eq-slice_cmp key e.0.items) ∙ h.0, other_bytes key es h.1)

-- a key that is below the first of keys that rise is not among them
none_above : (key : List ℕ) (k : Vec ℕ Global) (es : Entries) → slice_cmp nat_cmp key k.items ≡ Less → AllByRecursion (λ y. slice_cmp nat_cmp k.items y.items ≡ Less) (keys_of es) → lookup (λ x. is_eq (slice_cmp nat_cmp key x.items)) es ≡ None
none_above key k [] l h = refl
none_above key k (e ∷ es) l h = rw (nat_list_cmp_total.trans key k.items e.0.items l h.0) (none_above key k es l h.1)

inserted_if : (o : Ordering) (stored : Vec ℕ Global) (e : Vec ℕ Global × List RecordSet) (es : Entries) (sets w : List RecordSet) → slice_cmp nat_cmp stored.items e.0.items ≡ o → AllByRecursion (λ y. slice_cmp nat_cmp e.0.items y.items ≡ Less) (keys_of es)
    → cond (is_eq o) (Some e.1) (lookup (λ x. is_eq (slice_cmp nat_cmp stored.items x.items)) es) ≡ Some sets
    → (lookup (λ x. is_eq (slice_cmp nat_cmp stored.items x.items)) es ≡ Some sets → insert_entry (λ x y. slice_cmp nat_cmp x.items y.items) es stored w ≡ set_value (λ x. is_eq (slice_cmp nat_cmp stored.items x.items)) es w)
    → insert_entry (λ x y. slice_cmp nat_cmp x.items y.items) (e ∷ es) stored w ≡ set_value (λ x. is_eq (slice_cmp nat_cmp stored.items x.items)) (e ∷ es) w
inserted_if Less stored e es sets w at above h ih =
    let none : lookup (λ x. is_eq (slice_cmp nat_cmp stored.items x.items)) es ≡ None = none_above stored.items e.0 es at above in
    absurd cc
inserted_if Equal stored e es sets w at above h ih = rw at refl
inserted_if Greater stored e es sets w at above h ih = rw at (ap (λ (xs : Entries). e ∷ xs) (ih h))

-- sets that are inserted at a key that is there take the place of those at it
pub inserted : (stored : Vec ℕ Global) (es : Entries) (sets w : List RecordSet) → IsStrictlySortedBy (λ x y. slice_cmp nat_cmp x.items y.items) (keys_of es) → lookup (λ x. is_eq (slice_cmp nat_cmp stored.items x.items)) es ≡ Some sets
    → insert_entry (λ x y. slice_cmp nat_cmp x.items y.items) es stored w ≡ set_value (λ x. is_eq (slice_cmp nat_cmp stored.items x.items)) es w
inserted stored [] sets w s h = absurd cc
inserted stored (e ∷ es) sets w s h =
    inserted_if (slice_cmp nat_cmp stored.items e.0.items) stored e es sets w refl (sorted_head (λ x y. slice_cmp nat_cmp x.items y.items) e.0 (keys_of es) s) h
    (inserted stored es sets w (sorted_tail (λ x y. slice_cmp nat_cmp x.items y.items) e.0 (keys_of es) s))

-- the place among the entries of one with another key
pub record Between (es : Entries) (stored : Vec ℕ Global) (sets : List RecordSet) : Type 0 where
  pub front : Entries
  pub back : Entries
  pub was : es ≡ front ++ back
  pub is : insert_entry (λ x y. slice_cmp nat_cmp x.items y.items) es stored sets ≡ front ++ (stored, sets) ∷ back

between_if : (o : Ordering) (e : Vec ℕ Global × List RecordSet) (es : Entries) (stored : Vec ℕ Global) (sets : List RecordSet) → slice_cmp nat_cmp stored.items e.0.items ≡ o → is_eq o ≡ false → Between es stored sets → Between (e ∷ es) stored sets
between_if Less e es stored sets at other ih = record { front = []; back = e ∷ es; was = refl; is = rw at refl }
between_if Equal e es stored sets at other ih = absurd cc
between_if Greater e es stored sets at other ih = record { front = e ∷ ih.front; back = ih.back; was = ap (λ (xs : Entries). e ∷ xs) ih.was; is = rw at (ap (λ (xs : Entries). e ∷ xs) ih.is) }

pub between : (es : Entries) (stored : Vec ℕ Global) (sets : List RecordSet) → AllByRecursion (λ e. is_eq (slice_cmp nat_cmp stored.items e.0.items) ≡ false) es → Between es stored sets
between [] stored sets h = record { front = []; back = []; was = refl; is = refl }
between (e ∷ es) stored sets h = between_if (slice_cmp nat_cmp stored.items e.0.items) e es stored sets refl h.0 (between es stored sets h.1)

-- an entry is taken away from among others
taken_back : (test : Vec ℕ Global → Bool) (front back : Entries) (k : Vec ℕ Global) (sets : List RecordSet) → AllByRecursion (λ e. test e.0 ≡ false) (front ++ back) → test k ≡ true → remove_entry test (front ++ (k, sets) ∷ back) ≡ front ++ back
taken_back test [] back k sets h t = rw t refl
taken_back test (e ∷ front) back k sets h t = rw h.0 (ap (λ (xs : Entries). e ∷ xs) (taken_back test front back k sets h.1 t))

-- sets that are inserted where there are none are added among the others
pub added_at : (key : List ℕ) (before after : Entries) (stored : Vec ℕ Global) (sets : List RecordSet) → stored.items ≡ key → None ≡ lookup (λ k. is_eq (slice_cmp nat_cmp key k.items)) before
    → after ≡ insert_entry (λ x y. slice_cmp nat_cmp x.items y.items) before stored sets → IsAdded key sets before after
added_at key before after stored sets keyed at is =
    let others : AllByRecursion (λ e. is_eq (slice_cmp nat_cmp key e.0.items) ≡ false) before = absent_all (λ k. is_eq (slice_cmp nat_cmp key k.items)) before (sym at) in
    let b : Between before stored sets = between before stored sets (subst (λ (k : List ℕ). AllByRecursion (λ e. is_eq (slice_cmp nat_cmp k e.0.items) ≡ false) before) (sym keyed) others) in
    record { front = b.front; stored = stored; back = b.back; was = b.was; keyed = keyed; is = is ∙ b.is }

module _ (key : List ℕ) (number : ℕ) (one : Record) (before after : Entries) where
  abbrev finds : Vec ℕ Global → Bool
  finds k = is_eq (slice_cmp nat_cmp key k.items)

  -- what an entry of the map with the key finds is what is found
  pub found_at : (stored : Vec ℕ Global) (held : Option (List RecordSet)) → stored.items ≡ key → held ≡ lookup (λ k. is_eq (slice_cmp nat_cmp stored.items k.items)) before → held ≡ lookup finds before
  found_at stored held keyed at = subst (λ (b : List ℕ). held ≡ lookup (λ k. is_eq (slice_cmp nat_cmp b k.items)) before) keyed at

  -- what is written through it takes the place of what was found
  pub written_at : (stored : Vec ℕ Global) (sets changed : List RecordSet) → stored.items ≡ key → IsStrictlySortedBy (λ x y. slice_cmp nat_cmp x.items y.items) (keys_of before) → Some sets ≡ lookup (λ k. is_eq (slice_cmp nat_cmp stored.items k.items)) before
      → after ≡ insert_entry (λ x y. slice_cmp nat_cmp x.items y.items) before stored changed → after ≡ set_value finds before changed
  written_at stored sets changed keyed sorted at is =
      is ∙ inserted stored before sets changed sorted (sym at) ∙ ap (λ (b : List ℕ). set_value (λ k. is_eq (slice_cmp nat_cmp b k.items)) before changed) keyed

  -- a name that was not there is added and taken away again
  pub added_in_vain : (stored : Vec ℕ Global) (sets : List RecordSet) (between : Entries) → stored.items ≡ key → None ≡ lookup finds before → between ≡ insert_entry (λ x y. slice_cmp nat_cmp x.items y.items) before stored sets → after ≡ remove_entry finds between → after ≡ before
  added_in_vain stored sets middle keyed none added gone =
      let others : AllByRecursion (λ e. finds e.0 ≡ false) before = absent_all finds before (sym none) in
      let b : Between before stored sets = between before stored sets (subst (λ (k : List ℕ). AllByRecursion (λ e. is_eq (slice_cmp nat_cmp k e.0.items) ≡ false) before) (sym keyed) others) in
      let here : finds stored ≡ true = is_eq-slice_cmp key stored.items ∙ (bytes_eq-Decides key stored.items).1 (sym keyed) in
      gone ∙ ap (remove_entry finds) (added ∙ b.is) ∙ taken_back finds b.front b.back stored sets (subst (AllByRecursion (λ e. finds e.0 ≡ false)) b.was others) here ∙ sym b.was

  -- the record was put among the sets that were found
  pub under_name : {E : Type 0} (sets changed : List RecordSet) (result : Result (Option Record) E) → Some sets ≡ lookup finds before → after ≡ set_value finds before changed → IfOk result (λ old. PutInSets number one sets changed old) → IfOk result (λ old. PutUnder key number one before after old)
  under_name sets changed (Err e) at is put = tt
  under_name sets changed (Ok old) at is put =
      let f : Found finds before sets = found finds before sets (sym at) in
      let same : key ≡ f.stored.items = (bytes_eq-Decides key f.stored.items).0 (sym (is_eq-slice_cmp key f.stored.items) ∙ f.passes) in
      inl (record { front = f.front; stored = f.stored; sets = sets; changed = changed; back = f.back; was = f.was; keyed = sym same; is = is ∙ f.written changed; put = put })

  -- or its name was added
  pub under_new_name : (sets : List RecordSet) → None ≡ lookup finds before → sets ≡ new_set number one ∷ [] → IsAdded key sets before after → PutUnder key number one before after None
  under_new_name sets at new added =
      inr (record {
        front = added.front;
        stored = added.stored;
        back = added.back;
        was = added.was;
        absent = other_bytes key before (absent_all finds before (sym at));
        keyed = added.keyed;
        is = added.is ∙ ap (λ (s : List RecordSet). added.front ++ (added.stored, s) ∷ added.back) new;
        replaced = refl;
      })

  -- so it is where it may stand beside them
  may_stand : (found : Option (List RecordSet)) (sets : List RecordSet) (stands : Bool) → Some sets ≡ found → stands_beside sets one ≡ stands → stands_beside (sets_or_none found) one ≡ stands
  may_stand found sets stands at is = subst (λ (f : Option (List RecordSet)). stands_beside (sets_or_none f) one ≡ stands) at is

  pub beside_name : {E : Type 0} (sets changed : List RecordSet) (result : Result Beside E) → Some sets ≡ lookup finds before → after ≡ set_value finds before changed → IfOk result (IsPutInSets number one sets changed) → IfOk result (IsPutAt key number one before after)
  beside_name sets changed (Err e) at is put = tt
  beside_name {E} sets changed (Ok New) at is put = (may_stand (lookup finds before) sets false at put.0, under_name {E = E} sets changed (Ok None) at is put.1)
  beside_name {E} sets changed (Ok Replaced) at is put = (may_stand (lookup finds before) sets false at put.0, (put.1.0, under_name {E = E} sets changed (Ok (Some put.1.0)) at is put.1.1))
  beside_name sets changed (Ok Clash) at is put =
      (may_stand (lookup finds before) sets true at put.0, is ∙ ap (set_value finds before) put.1 ∙ set_value_same finds before sets (sym at))

  none_beside : (alias : Bool) → (if alias then false else false) ≡ false
  none_beside true = refl
  none_beside false = refl

  pub beside_new_name : (sets : List RecordSet) → None ≡ lookup finds before → sets ≡ new_set number one ∷ [] → IsAdded key sets before after → IsPutAt key number one before after New
  beside_new_name sets at new added =
      (subst (λ (f : Option (List RecordSet)). stands_beside (sets_or_none f) one ≡ false) at (none_beside (is_type 5 one)), under_new_name sets at new added)

  -- or nothing was changed
  pub as_before : {T E : Type 0} (sets changed : List RecordSet) (result : Result T E) → Some sets ≡ lookup finds before → after ≡ set_value finds before changed → OnErr result (changed ≡ sets) → OnErr result (after ≡ before)
  as_before sets changed (Ok end) at is same = tt
  as_before sets changed (Err e) at is same = is ∙ ap (set_value finds before) same ∙ set_value_same finds before sets (sym at)

  -- the sets that are found rise
  pub rising_found : (sets : List RecordSet) → AllByRecursion (λ e. TypesRise e.1) before → Some sets ≡ lookup finds before → TypesRise sets
  rising_found sets rise at = subst (λ (f : Option (List RecordSet)). IfSome f TypesRise) (sym at) (looked TypesRise finds before rise)
