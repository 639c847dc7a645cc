-- A change of a name whose sets were kept can be undone.
use Rattle.std.proofs.Common.{◌≡◌, ℕ, Bool, true, false, List, [], ◌∷◌, ◌++◌, map, refl, sym, ap, ◌∙◌, subst, if◌then◌else◌, Some, None, Vec, Global, inl, inr, Result, Ok, Err, OnErr}
use Rattle.std.specs.Prelude.{Option, cond, IfSome, ◌||◌}
use Rattle.std.specs.List.{AllByRecursion, list_any}
use Rattle.std.specs.Str.{bytes_eq}
use Rattle.std.specs.Option.{IsSome}
use Rattle.std.specs.Map.{lookup, set_value}
use Rattle.std.proofs.lemmas.List.{map-append}
use Rattle.std.proofs.lemmas.List.Concat.{flat_map-append}
use Rattle.std.proofs.lemmas.Map.Text.{is_eq-slice_cmp}
use Rattle.std.proofs.lemmas.Slice.Eq.{bytes_eq-Decides}
use Rattle.std.proofs.lemmas.Map.Steps.{set_value_same}
use Rattle.dns_wire.specs.declared.record.Record.{Record}
use Rattle.dns_zone_map.specs.declared.sets.RecordSet.{RecordSet}
use Rattle.dns_zone_map.specs.declared.former.FormerSets.{FormerSets}
use Rattle.dns_zone_map.specs.declared.former.Undoing.{Undoing}
use Rattle.dns_zone_map.specs.Order.{list_of}
use Rattle.dns_zone_map.specs.Sets.{in_sets, sets_or_none}
use Rattle.dns_zone_map.specs.Tree.{in_entries, AreSets, IsTree, KeysApart, OwnsSame}
use Rattle.dns_zone_map.specs.Insertion.{IsAdded}
use Rattle.dns_zone_map.specs.Removal.{is_key}
use Rattle.dns_zone_map.specs.Former.{former, restored, before_of, covers, ArePresent, CanUndo, IsMap, blanked, HasName, KeptLast, IsKeptIn, IsKept, IsSameUndoing}
use Rattle.dns_zone_map.specs.Zone.{Contents}
use Rattle.dns_zone_map.specs.Mapped.{Mapped, contents}
use Rattle.dns_zone_map.proofs.Lent.{all_to}
use Rattle.dns_zone_map.proofs.Exists.{all_append}
use Rattle.dns_zone_map.proofs.Rest.{Entries, all_front, all_back}
use Rattle.dns_zone_map.proofs.Put.{around_entry}
use Rattle.dns_zone_map.proofs.InEntries.{absent_all}
use Rattle.dns_zone_map.proofs.Taking.{key_is}
use Rattle.dns_zone_map.proofs.Swept.{swept_none, swept_list, swept_tree}
use Rattle.dns_zone_map.proofs.Formers.{with_former, restored_last, given, none_given}

abbrev Entry : Type 0
Entry = Vec ℕ Global × List RecordSet

-- the sets that were kept of a name are given back whatever it owns
covered_if : (b c : Bool) (f : FormerSets) (fs : List FormerSets) (k : Vec ℕ Global) (v w : List RecordSet) → b ≡ c → (c || covers fs k.items) ≡ true → (covers fs k.items ≡ true → former fs (k, v) ≡ former fs (k, w))
    → (if b then (k, f.sets) else former fs (k, v)) ≡ (if b then (k, f.sets) else former fs (k, w))
covered_if true c f fs k v w e h ih = refl
covered_if false true f fs k v w e h ih = absurd cc
covered_if false false f fs k v w e h ih = ih h

former_covered : (fs : List FormerSets) (k : Vec ℕ Global) (v w : List RecordSet) → covers fs k.items ≡ true → former fs (k, v) ≡ former fs (k, w)
former_covered [] k v w h = absurd cc
former_covered (f ∷ fs) k v w h = covered_if (is_key f.key.items k) (bytes_eq f.key.items k.items) f fs k v w (is_eq-slice_cmp f.key.items k.items) h (former_covered fs k v w)

blank_if : (b : Bool) (fs : List FormerSets) (key : List ℕ) (e : Entry) → is_key key e.0 ≡ b → covers fs key ≡ true → former fs (if b then (e.0, []) else e) ≡ former fs e
blank_if true fs key e t h = former_covered fs e.0 [] e.1 (ap (covers fs) (key_is key e.0 t) ∙ h)
blank_if false fs key e t h = refl

restored_blanked : (fs : List FormerSets) (key : List ℕ) (es : Entries) → covers fs key ≡ true → restored fs (blanked key es) ≡ restored fs es
restored_blanked fs key [] h = refl
restored_blanked fs key (e ∷ es) h =
    ap (λ (x : Entry). x ∷ restored fs (blanked key es)) (blank_if (is_key key e.0) fs key e refl h) ∙ ap (λ (xs : Entries). former fs e ∷ xs) (restored_blanked fs key es h)

-- sets that are written at a key change nothing else
written_if : (b : Bool) (key : List ℕ) (e : Entry) (es : Entries) (v : List RecordSet) → is_key key e.0 ≡ b → blanked key (set_value (is_key key) es v) ≡ blanked key es → blanked key (cond b ((e.0, v) ∷ es) (e ∷ set_value (is_key key) es v)) ≡ blanked key (e ∷ es)
written_if true key e es v t ih = rw t refl
written_if false key e es v t ih = ap (λ (xs : Entries). (if is_key key e.0 then (e.0, []) else e) ∷ xs) ih

blanked_written : (key : List ℕ) (es : Entries) (v : List RecordSet) → blanked key (set_value (is_key key) es v) ≡ blanked key es
blanked_written key [] v = refl
blanked_written key (e ∷ es) v = written_if (is_key key e.0) key e es v refl (blanked_written key es v)

pub written_others : (key : List ℕ) (before after : Entries) (v : List RecordSet) → after ≡ set_value (is_key key) before v → blanked key after ≡ blanked key before
written_others key before after v is = ap (blanked key) is ∙ blanked_written key before v

-- the same names are there
same_key : (b : Bool) (k : List ℕ) (e : Entry) → is_key k (if b then (e.0, []) else e).0 ≡ is_key k e.0
same_key true k e = refl
same_key false k e = refl

any_blanked : (k key : List ℕ) (es : Entries) → list_any (λ (e : Entry). is_key k e.0) (blanked key es) ≡ list_any (λ (e : Entry). is_key k e.0) es
any_blanked k key [] = refl
any_blanked k key (e ∷ es) =
    ap (λ b. b || list_any (λ (f : Entry). is_key k f.0) (blanked key es)) (same_key (is_key key e.0) k e) ∙ ap (λ b. is_key k e.0 || b) (any_blanked k key es)

present_blanked : (fs : List FormerSets) (key : List ℕ) (es gs : Entries) → blanked key gs ≡ blanked key es → ArePresent fs es → ArePresent fs gs
present_blanked fs key es gs same h =
    all_to (λ f. list_any (λ (e : Entry). is_key f.key.items e.0) es ≡ true) (λ f. list_any (λ (e : Entry). is_key f.key.items e.0) gs ≡ true)
    (λ f p. sym (any_blanked f.key.items key gs) ∙ ap (list_any (λ (e : Entry). is_key f.key.items e.0)) same ∙ any_blanked f.key.items key es ∙ p) fs h

-- what was kept last of a name is what it owns
restored_same : (was : List FormerSets) (f : FormerSets) (es : Entries) (sets : List RecordSet) → KeysApart es → lookup (is_key f.key.items) es ≡ Some sets → f.sets ≡ sets → restored (was ++ f ∷ []) es ≡ restored was es
restored_same was f es sets apart at is =
    restored_last was f es ∙ ap (restored was) (sym (given f es apart) ∙ set_value_same (is_key f.key.items) es f.sets (at ∙ ap (λ (ss : List RecordSet). Some ss) (sym is)))

-- a name without sets was added
pub added_same : (front back : Entries) (k : Vec ℕ Global) → OwnsSame (front ++ back) (front ++ (k, []) ∷ back)
added_same front back k = record {
  same = around_entry front back k [] ∙ sym (flat_map-append (λ (e : Entry). in_sets e.1) front back);
  each = λ origin h.
      all_append (λ e. AreSets origin e.0.items e.1) front ((k, []) ∷ back) (all_front (λ e. AreSets origin e.0.items e.1) front back h) (record { each = tt; rise = tt }, all_back (λ e. AreSets origin e.0.items e.1) front back h);
}

no_true : (b : Bool) → (b ≡ true → ⊥) → b ≡ false
no_true true h = absurd (h refl)
no_true false h = refl

-- nothing was kept of a name that is not there
not_former_if : (b : Bool) (f : FormerSets) (fs : List FormerSets) (e : Entry) → b ≡ false → former fs e ≡ e → (if b then (e.0, f.sets) else former fs e) ≡ e
not_former_if true f fs e n ih = absurd cc
not_former_if false f fs e n ih = ih

no_any : (t : Entry → Bool) (es : Entries) → AllByRecursion (λ e. t e ≡ false) es → list_any t es ≡ false
no_any t [] h = refl
no_any t (e ∷ es) h = rw h.0 (no_any t es h.1)

not_former : (fs : List FormerSets) (es : Entries) (e : Entry) (key : List ℕ) → e.0.items ≡ key → AllByRecursion (λ g. is_key key g.0 ≡ false) es → ArePresent fs es → former fs e ≡ e
not_former [] es e key k none h = refl
not_former (f ∷ fs) es e key k none h =
    let other : is_key f.key.items e.0 ≡ false = no_true (is_key f.key.items e.0) (λ t.
    let same : f.key.items ≡ key = sym (key_is f.key.items e.0 t) ∙ k in
    let there : list_any (λ (g : Entry). is_key key g.0) es ≡ true = subst (λ (z : List ℕ). list_any (λ (g : Entry). is_key z g.0) es ≡ true) same h.0 in
    let not_there : list_any (λ (g : Entry). is_key key g.0) es ≡ false = no_any (λ g. is_key key g.0) es none in
    cc) in
    not_former_if (is_key f.key.items e.0) f fs e other (not_former fs es e key k none h.1)

given_none : (b : Bool) (k : Vec ℕ Global) (sets : List RecordSet) → sets ≡ [] → ◌≡◌ {A = Entry} (if b then (k, sets) else (k, [])) (k, [])
given_none true k sets h = ap (λ (ss : List RecordSet). (k, ss)) h
given_none false k sets h = refl

module _ (was : List FormerSets) (f : FormerSets) (es after : Entries) (key : List ℕ) (keyed : f.key.items ≡ key) (none : lookup (is_key key) es ≡ None) (added : IsAdded key [] es after) (here : ArePresent was es) where
  absent : AllByRecursion (λ e. is_key key e.0 ≡ false) es
  absent = absent_all (is_key key) es none

  absent_split : AllByRecursion (λ e. is_key f.key.items e.0 ≡ false) (added.front ++ added.back)
  absent_split = subst (λ (k : List ℕ). AllByRecursion (λ e. is_key k e.0 ≡ false) (added.front ++ added.back)) (sym keyed) (subst (AllByRecursion (λ e. is_key key e.0 ≡ false)) added.was absent)

  after_is : after ≡ added.front ++ (added.stored, []) ∷ added.back
  after_is = added.is

  pub added_owns : OwnsSame es after
  added_owns = subst (λ (gs : Entries). OwnsSame gs after) (sym added.was) (subst (OwnsSame (added.front ++ added.back)) (sym after_is) (added_same added.front added.back added.stored))

  stays : f.sets ≡ [] → map (with_former f) (added.front ++ (added.stored, []) ∷ added.back) ≡ added.front ++ (added.stored, []) ∷ added.back
  stays e =
      map-append (with_former f) added.front ((added.stored, []) ∷ added.back)
      ∙ ap (λ (gs : Entries). gs ++ with_former f (added.stored, []) ∷ map (with_former f) added.back) (none_given f added.front (all_front (λ g. is_key f.key.items g.0 ≡ false) added.front added.back absent_split))
      ∙ ap (λ (gs : Entries). added.front ++ with_former f (added.stored, []) ∷ gs) (none_given f added.back (all_back (λ g. is_key f.key.items g.0 ≡ false) added.front added.back absent_split))
      ∙ ap (λ (x : Entry). added.front ++ x ∷ added.back) (given_none (is_key f.key.items added.stored) added.stored f.sets e)

  was_before : restored was es ≡ restored was added.front ++ restored was added.back
  was_before = ap (restored was) added.was ∙ map-append (former was) added.front added.back

  is_after : f.sets ≡ [] → restored (was ++ f ∷ []) after ≡ restored was added.front ++ (added.stored, []) ∷ restored was added.back
  is_after e =
      restored_last was f after ∙ ap (λ (gs : Entries). restored was (map (with_former f) gs)) after_is ∙ ap (restored was) (stays e) ∙ map-append (former was) added.front ((added.stored, []) ∷ added.back)
      ∙ ap (λ (x : Entry). restored was added.front ++ x ∷ restored was added.back) (not_former was es (added.stored, []) key added.keyed absent here)

  pub added_restored : f.sets ≡ [] → OwnsSame (restored was es) (restored (was ++ f ∷ []) after)
  added_restored e =
      subst (λ (gs : Entries). OwnsSame gs (restored (was ++ f ∷ []) after)) (sym was_before)
      (subst (OwnsSame (restored was added.front ++ restored was added.back)) (sym (is_after e)) (added_same (restored was added.front) (restored was added.back) added.stored))

  any_more : (t : Entry → Bool) (front back : Entries) (x : Entry) → list_any t (front ++ back) ≡ true → list_any t (front ++ x ∷ back) ≡ true
  any_more t [] back x h = or_second (t x) (list_any t back) h
    where
      or_second : (a b : Bool) → b ≡ true → (a || b) ≡ true
      or_second true b h = refl
      or_second false b h = h
  any_more t (g ∷ front) back x h = or_either (t g) (list_any t (front ++ back)) (list_any t (front ++ x ∷ back)) h (any_more t front back x)
    where
      or_either : (a b c : Bool) → (a || b) ≡ true → (b ≡ true → c ≡ true) → (a || c) ≡ true
      or_either true b c h f = refl
      or_either false b c h f = f h

  -- the names that were there are there
  pub added_present : ArePresent was after
  added_present =
      all_to (λ g. list_any (λ (e : Entry). is_key g.key.items e.0) es ≡ true) (λ g. list_any (λ (e : Entry). is_key g.key.items e.0) after ≡ true)
      (λ g p.
      subst (λ (gs : Entries). list_any (λ (e : Entry). is_key g.key.items e.0) gs ≡ true) (sym after_is)
      (any_more (λ e. is_key g.key.items e.0) added.front added.back (added.stored, []) (subst (λ (gs : Entries). list_any (λ (e : Entry). is_key g.key.items e.0) gs ≡ true) added.was p))) was here

bytes_same : (a b : List ℕ) → a ≡ b → bytes_eq a b ≡ true
bytes_same a b h = (bytes_eq-Decides a b).1 h

covers_last : (fs : List FormerSets) (f : FormerSets) (key : List ℕ) → f.key.items ≡ key → covers (fs ++ f ∷ []) key ≡ true
covers_last [] f key h = ap (λ b. b || false) (bytes_same f.key.items key h)
covers_last (g ∷ fs) f key h = or_second (bytes_eq g.key.items key) (covers (fs ++ f ∷ []) key) (covers_last fs f key h)
  where
    or_second : (a b : Bool) → b ≡ true → (a || b) ≡ true
    or_second true b h = refl
    or_second false b h = h

-- a name that is found is there
there_if : (b : Bool) (key : List ℕ) (e : Entry) (es : Entries) (sets : List RecordSet) → cond b (Some e.1) (lookup (is_key key) es) ≡ Some sets → (lookup (is_key key) es ≡ Some sets → list_any (λ (g : Entry). is_key key g.0) es ≡ true) → (b || list_any (λ (g : Entry). is_key key g.0) es) ≡ true
there_if true key e es sets h ih = refl
there_if false key e es sets h ih = ih h

there : (key : List ℕ) (es : Entries) (sets : List RecordSet) → lookup (is_key key) es ≡ Some sets → list_any (λ (g : Entry). is_key key g.0) es ≡ true
there key [] sets h = absurd cc
there key (e ∷ es) sets h = there_if (is_key key e.0) key e es sets h (there key es sets)

any_here : (t : Entry → Bool) (front back : Entries) (x : Entry) → t x ≡ true → list_any t (front ++ x ∷ back) ≡ true
any_here t [] back x h = ap (λ b. b || list_any t back) h
any_here t (g ∷ front) back x h = or_second (t g) (list_any t (front ++ x ∷ back)) (any_here t front back x h)
  where
    or_second : (a b : Bool) → b ≡ true → (a || b) ≡ true
    or_second true b h = refl
    or_second false b h = h

all_more : (P : FormerSets → Type 0) (fs : List FormerSets) (f : FormerSets) → AllByRecursion P fs → P f → AllByRecursion P (fs ++ f ∷ [])
all_more P fs f h p = all_append P fs (f ∷ []) h (p, tt)

-- a name whose sets may be changed
record Opened (es after : Entries) (was is : List FormerSets) (key : List ℕ) : Type 0 where
  covered : covers is key ≡ true
  stands : list_any (λ (e : Entry). is_key key e.0) after ≡ true
  owns : OwnsSame es after
  before : OwnsSame (restored was es) (restored is after)
  present : ArePresent is after

module _ (es after : Entries) (was is : List FormerSets) (key : List ℕ) (here : ArePresent was es) (k : KeptLast key es was after is) where
  in_after : HasName key es after → AllByRecursion (λ f. list_any (λ (e : Entry). is_key f.key.items e.0) after ≡ true) was × (list_any (λ (e : Entry). is_key k.last.key.items e.0) after ≡ true)
  in_after (inl h) = (
    subst (ArePresent was) (sym h.2) here,
    ap (λ (z : List ℕ). list_any (λ (e : Entry). is_key z e.0) after) k.keyed ∙ ap (list_any (λ (e : Entry). is_key key e.0)) h.2 ∙ there key es h.0 h.1,
  )
  in_after (inr h) =
      let itself : is_key key h.1.stored ≡ true = is_eq-slice_cmp key h.1.stored.items ∙ bytes_same key h.1.stored.items (sym h.1.keyed) in (
        added_present was k.last es after key k.keyed h.0 h.1 here,
        ap (λ (z : List ℕ). list_any (λ (e : Entry). is_key z e.0) after) k.keyed ∙ ap (list_any (λ (e : Entry). is_key key e.0)) h.1.is ∙ any_here (λ e. is_key key e.0) h.1.front h.1.back (h.1.stored, []) itself,
      )

  owns : HasName key es after → OwnsSame es after
  owns (inl h) = swept_none es after h.2
  owns (inr h) = added_owns was k.last es after key k.keyed h.0 h.1 here

  former_owns : HasName key es after → OwnsSame (restored was es) (restored is after)
  former_owns (inl h) =
      let sets : k.last.sets ≡ h.0 = k.sets ∙ ap sets_or_none h.1 in
      let at : lookup (is_key k.last.key.items) es ≡ Some h.0 = ap (λ (z : List ℕ). lookup (is_key z) es) k.keyed ∙ h.1 in
      swept_none (restored was es) (restored is after)
      (ap (restored is) h.2 ∙ ap (λ (fs : List FormerSets). restored fs es) k.more ∙ restored_same was k.last es h.0 k.apart at sets)
  former_owns (inr h) =
      let none : k.last.sets ≡ [] = k.sets ∙ ap sets_or_none h.0 in
      subst (λ (fs : List FormerSets). OwnsSame (restored was es) (restored fs after)) (sym k.more) (added_restored was k.last es after key k.keyed h.0 h.1 here none)

  opened_last : Opened es after was is key
  opened_last =
      let p = in_after k.here in
      record {
        covered = ap (λ (fs : List FormerSets). covers fs key) k.more ∙ covers_last was k.last key k.keyed;
        stands = ap (λ (z : List ℕ). list_any (λ (e : Entry). is_key z e.0) after) (sym k.keyed) ∙ p.1;
        owns = owns k.here;
        before = former_owns k.here;
        present = subst (λ (fs : List FormerSets). ArePresent fs after) (sym k.more) (all_more (λ f. list_any (λ (e : Entry). is_key f.key.items e.0) after ≡ true) was k.last p.0 p.1);
      }

covers_if : (b : Bool) (f : FormerSets) (fs : List FormerSets) (key : List ℕ) (es : Entries) → bytes_eq f.key.items key ≡ b → (b || covers fs key) ≡ true → list_any (λ (e : Entry). is_key f.key.items e.0) es ≡ true → (covers fs key ≡ true → list_any (λ (e : Entry). is_key key e.0) es ≡ true)
    → list_any (λ (e : Entry). is_key key e.0) es ≡ true
covers_if true f fs key es t h p ih = subst (λ (z : List ℕ). list_any (λ (e : Entry). is_key z e.0) es ≡ true) ((bytes_eq-Decides f.key.items key).0 t) p
covers_if false f fs key es t h p ih = ih h

-- a name of which sets were kept is there
covers_present : (fs : List FormerSets) (key : List ℕ) (es : Entries) → covers fs key ≡ true → ArePresent fs es → list_any (λ (e : Entry). is_key key e.0) es ≡ true
covers_present [] key es h p = absurd cc
covers_present (f ∷ fs) key es h p = covers_if (bytes_eq f.key.items key) f fs key es refl h p.0 (λ t. covers_present fs key es t p.1)

opened : (es after : Entries) (was is : List FormerSets) (key : List ℕ) → ArePresent was es → IsKeptIn key es was after is → Opened es after was is key
opened es after was is key here (inl k) = opened_last es after was is key here k
opened es after was is key here (inr k) = record {
  covered = ap (λ (fs : List FormerSets). covers fs key) k.log ∙ k.covered;
  stands = ap (list_any (λ (e : Entry). is_key key e.0)) k.same ∙ covers_present was key es k.covered here;
  owns = swept_none es after k.same;
  before = swept_none (restored was es) (restored is after) (ap (λ (fs : List FormerSets). restored fs after) k.log ∙ ap (restored was) k.same);
  present = subst (λ (fs : List FormerSets). ArePresent fs after) (sym k.log) (subst (ArePresent was) (sym k.same) here);
}

-- what a change of that name leaves can be undone, back to what stood before
module _ (origin : List (List ℕ)) (key : List ℕ) (es between after : Entries) where
  pub still_before : (was is : Option Undoing) → IfSome was (CanUndo origin es) → IsKept key es was between is → IfSome is (λ (u : Undoing). blanked key after ≡ blanked key between) → before_of is after ≡ before_of was es
  still_before None is h k same = ap (λ (u : Option Undoing). before_of u after) k.1
  still_before (Some was) None h k same = absurd k
  still_before (Some was) (Some is) h k same =
      let covers_it : covers is.formers.items key ≡ true = (opened es between was.formers.items is.formers.items key h.present k.0).covered in
      let stays : restored is.formers.items after ≡ restored is.formers.items between =
      sym (restored_blanked is.formers.items key after covers_it) ∙ ap (restored is.formers.items) same ∙ restored_blanked is.formers.items key between covers_it in
      ap (λ (gs : Entries). Some (list_of (in_entries gs))) stays ∙ ap (λ xs. Some (list_of xs)) (opened es between was.formers.items is.formers.items key h.present k.0).before.same

  pub still_undo : (was is : Option Undoing) → IfSome was (CanUndo origin es) → IsKept key es was between is → IfSome is (λ (u : Undoing). blanked key after ≡ blanked key between) → IfSome is (CanUndo origin after)
  still_undo None is h k same = subst (λ (u : Option Undoing). IfSome u (CanUndo origin after)) (sym k.1) tt
  still_undo (Some was) None h k same = absurd k
  still_undo (Some was) (Some is) h k same =
      let covers_it : covers is.formers.items key ≡ true = (opened es between was.formers.items is.formers.items key h.present k.0).covered in
      let stays : restored is.formers.items after ≡ restored is.formers.items between =
      sym (restored_blanked is.formers.items key after covers_it) ∙ ap (restored is.formers.items) same ∙ restored_blanked is.formers.items key between covers_it in
      let tree : IsTree origin (restored is.formers.items between) was.next was.count = swept_tree origin (restored was.formers.items es) (restored is.formers.items between) was.next was.count (opened es between was.formers.items is.formers.items key h.present k.0).before h.tree in
      record {
        present = present_blanked is.formers.items key between after same (opened es between was.formers.items is.formers.items key h.present k.0).present;
        tree = subst (λ (n : ℕ). IsTree origin (restored is.formers.items after) is.next n) (sym k.2) (subst (λ (n : ℕ). IsTree origin (restored is.formers.items after) n was.count) (sym k.1) (subst (λ (gs : Entries). IsTree origin gs was.next was.count) (sym stays) tree));
      }

  -- and the names own what they owned
  pub still_owns : (was is : Option Undoing) → IfSome was (CanUndo origin es) → IsKept key es was between is → OwnsSame es between
  still_owns None is h k = swept_none es between k.0
  still_owns (Some was) None h k = absurd k
  still_owns (Some was) (Some is) h k = (opened es between was.formers.items is.formers.items key h.present k.0).owns

abbrev pub mapped_of : List (List ℕ) → List Record → Option (List Record) → Mapped
mapped_of origin records before = record { origin = origin; records = records; before = before }

abbrev pub contents_of : List (List ℕ) → List Record → Contents
contents_of origin records = record { origin = origin; records = records }

looked_if : (b : Bool) (e : Entry) (found : Option (List RecordSet)) (any : Bool) → (any ≡ true → IsSome found) → (b || any) ≡ true → IsSome (cond b (Some e.1) found)
looked_if true e found any ih h = refl
looked_if false e found any ih h = ih h

-- a name that is there is found
is_found : (key : List ℕ) (es : Entries) → list_any (λ (g : Entry). is_key key g.0) es ≡ true → IsSome (lookup (is_key key) es)
is_found key [] h = absurd cc
is_found key (e ∷ es) h = looked_if (is_key key e.0) e (lookup (is_key key) es) (list_any (λ (g : Entry). is_key key g.0) es) (is_found key es) h

-- a map of which the name with this key was kept, and may be changed
pub record MayChange (origin : List (List ℕ)) (key : List ℕ) (between : Entries) (next count : ℕ) (is : Option Undoing) (zone : Mapped) : Type 0 where
  pub tree : IsTree origin between next count
  pub seen : contents_of origin (list_of (in_entries between)) ≡ contents zone
  -- the name was changed, or added where it was not there
  pub changed : (after : Entries) (n m : ℕ) → (IsSome (lookup (is_key key) between) → blanked key after ≡ blanked key between) → IsTree origin after n m → IsMap origin after n m is
  pub before : (after : Entries) → (IsSome (lookup (is_key key) between) → blanked key after ≡ blanked key between) → before_of is after ≡ zone.before
  -- or nothing was
  pub same : (after : Entries) → after ≡ between → IsMap origin after next count is
  pub alike : (after : Entries) → after ≡ between → mapped_of origin (list_of (in_entries after)) (before_of is after) ≡ zone

module _ (origin : List (List ℕ)) (key : List ℕ) (es between : Entries) (next count : ℕ) (was is : Option Undoing) (tree : IsMap origin es next count was) (k : IsKept key es was between is) where
  owns_kept : OwnsSame es between
  owns_kept = still_owns origin key es between es was is tree.undo k

  others_if : (after : Entries) (u v : Option Undoing) → IsKept key es u between v → IfSome u (CanUndo origin es) → (IsSome (lookup (is_key key) between) → blanked key after ≡ blanked key between) → IfSome v (λ (w : Undoing). blanked key after ≡ blanked key between)
  others_if after u None kept can others = tt
  others_if after None (Some v) kept can others = absurd (none_some kept.1)
    where
      none_some : Some v ≡ None → ⊥
      none_some h = absurd cc
  others_if after (Some u) (Some v) kept can others = others (is_found key between (opened es between u.formers.items v.formers.items key can.present kept.0).stands)

  undo_changed : (after : Entries) → (IsSome (lookup (is_key key) between) → blanked key after ≡ blanked key between) → IfSome is (CanUndo origin after)
  undo_changed after others = still_undo origin key es between after was is tree.undo k (others_if after was is k tree.undo others)

  before_changed : (after : Entries) → (IsSome (lookup (is_key key) between) → blanked key after ≡ blanked key between) → before_of is after ≡ before_of was es
  before_changed after others = still_before origin key es between after was is tree.undo k (others_if after was is k tree.undo others)

  tree_kept : IsTree origin between next count
  tree_kept = swept_tree origin es between next count owns_kept tree.tree

  pub may_change : (zone : Mapped) → mapped_of origin (list_of (in_entries es)) (before_of was es) ≡ zone → MayChange origin key between next count is zone
  may_change zone view = record {
    tree = tree_kept;
    seen = ap (contents_of origin) (swept_list es between owns_kept) ∙ ap contents view;
    changed = λ after n m others t. record { tree = t; undo = undo_changed after others };
    before = λ after others. before_changed after others ∙ ap (λ z. z.before) view;
    same = λ after same. record { tree = subst (λ (gs : Entries). IsTree origin gs next count) (sym same) tree_kept; undo = undo_changed after (λ there. ap (blanked key) same) };
    alike = λ after same.
        ap (λ (gs : Entries). mapped_of origin (list_of (in_entries gs)) (before_of is after)) same
        ∙ ap (λ (rs : List Record). mapped_of origin rs (before_of is after)) (swept_list es between owns_kept)
        ∙ ap (mapped_of origin (list_of (in_entries es))) (before_changed after (λ there. ap (blanked key) same))
        ∙ view;
  }

-- names without sets were taken away, unless changes can be undone
pub map_swept : (origin : List (List ℕ)) (after swept : Entries) (next count : ℕ) (is : Option Undoing) → OwnsSame after swept → IfSome is (λ (u : Undoing). swept ≡ after) → IsMap origin after next count is → IsMap origin swept next count is
map_swept origin after swept next count None same rest m = record { tree = swept_tree origin after swept next count same m.tree; undo = tt }
map_swept origin after swept next count (Some u) same rest m = record {
  tree = swept_tree origin after swept next count same m.tree;
  undo = subst (λ (gs : Entries). CanUndo origin gs u) (sym rest) m.undo;
}

pub before_swept : (after swept : Entries) (is : Option Undoing) → IfSome is (λ (u : Undoing). swept ≡ after) → before_of is swept ≡ before_of is after
before_swept after swept None rest = refl
before_swept after swept (Some u) rest = ap (before_of (Some u)) rest

pub on_err : {T E : Type 0} {P : Type 0} (r : Result T E) → P → OnErr r P
on_err (Ok t) h = tt
on_err (Err e) h = h

-- where a name could not be kept, nothing was changed
module _ (origin : List (List ℕ)) (es fs : Entries) (same : fs ≡ es) where
  pub map_failed : (was is : Option Undoing) → IsSameUndoing was is → (next count : ℕ) → IsMap origin es next count was → IsMap origin fs next count is
  map_failed None None log next count m = record { tree = subst (λ (gs : Entries). IsTree origin gs next count) (sym same) m.tree; undo = tt }
  map_failed None (Some is) log next count m = absurd log
  map_failed (Some was) None log next count m = absurd log
  map_failed (Some was) (Some is) log next count m = record {
    tree = subst (λ (gs : Entries). IsTree origin gs next count) (sym same) m.tree;
    undo = record {
      present = subst (λ (gs : Entries). ArePresent is.formers.items gs) (sym same) (subst (λ (gs : List FormerSets). ArePresent gs es) (sym log.formers) m.undo.present);
      tree = subst (λ (n : ℕ). IsTree origin (restored is.formers.items fs) n is.count) (sym log.next)
          (subst (λ (n : ℕ). IsTree origin (restored is.formers.items fs) was.next n) (sym log.count) (subst (λ (gs : Entries). IsTree origin gs was.next was.count) (sym (restored_failed was.formers.items is.formers.items log.formers)) m.undo.tree));
    };
  }
    where
      restored_failed : (hs gs : List FormerSets) → gs ≡ hs → restored gs fs ≡ restored hs es
      restored_failed hs gs h = ap (λ (ks : List FormerSets). restored ks fs) h ∙ ap (restored hs) same

  before_failed : (was is : Option Undoing) → IsSameUndoing was is → before_of is fs ≡ before_of was es
  before_failed None None log = refl
  before_failed None (Some is) log = absurd log
  before_failed (Some was) None log = absurd log
  before_failed (Some was) (Some is) log =
      ap (λ (gs : List FormerSets). Some (list_of (in_entries (restored gs fs)))) log.formers ∙ ap (λ (gs : Entries). Some (list_of (in_entries (restored was.formers.items gs)))) same

  pub seen_failed : (was is : Option Undoing) → IsSameUndoing was is → (zone : Mapped) → mapped_of origin (list_of (in_entries es)) (before_of was es) ≡ zone → mapped_of origin (list_of (in_entries fs)) (before_of is fs) ≡ zone
  seen_failed was is log zone view =
      ap (λ (gs : Entries). mapped_of origin (list_of (in_entries gs)) (before_of is fs)) same ∙ ap (mapped_of origin (list_of (in_entries es))) (before_failed was is log) ∙ view
