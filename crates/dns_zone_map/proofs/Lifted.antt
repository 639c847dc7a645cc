-- A change of one tree of a table is the same change of the list of all entries.
use Rattle.std.proofs.Common.{◌≡◌, ℕ, ◌+◌, ◌≤◌, Bool, true, false, List, [], ◌∷◌, ◌++◌, length, refl, sym, ap, ◌∙◌, subst, arith, append_assoc, Some, None, Vec, Global, inl, inr, length-append, Result, Ok, Err, IfOk, OnOk, OnErr}
use Rattle.std.specs.Prelude.{◌⊎◌, Option, cond, slice_set, IfSome, if◌then◌else◌}
use Rattle.std.specs.Option.{option_and_then, IsSome}
use Rattle.std.specs.List.{AllByRecursion}
use Rattle.std.specs.Str.{bytes_eq}
use Rattle.std.specs.Map.{lookup, keys_of, set_value, remove_entry}
use Rattle.std.proofs.lemmas.List.{map-append}
use Rattle.std.proofs.lemmas.List.Concat.{flat_map-append}
use Rattle.std.proofs.lemmas.Slice.Eq.{bytes_eq-Decides}
use Rattle.dns_wire.specs.declared.record.Record.{Record}
use Rattle.dns_zone_map.specs.declared.sets.RecordSet.{RecordSet}
use Rattle.dns_zone_map.specs.Former.{blanked, HasName}
use Rattle.dns_zone_map.specs.declared.beside.Beside.{Beside}
use Rattle.dns_zone_map.specs.declared.beside.Beside.TheVariants.{New, Replaced, Clash}
use Rattle.dns_zone_map.specs.Insertion.{PutUnder, new_set}
use Rattle.dns_zone_map.specs.Beside.{stands_beside, IsPutAt}
use Rattle.dns_zone_map.specs.Removal.{is_key, ChangedIn, ChangedFrom, SetTaken, IsTakenFrom, AreFreed, IsFreedFrom, AreCleared, IsClearedFrom, OneTaken, IsOneTakenFrom, HasNoEqual}
use Rattle.dns_zone_map.specs.Serial.{IsSerialSetAt, IsSerialSet}
use Rattle.dns_zone_map.specs.Sets.{set_in, in_sets, sets_or_none}
use Rattle.dns_zone_map.specs.Table.{place_of, all_in, InPlace, IsTable}
use Rattle.dns_zone_map.specs.Tree.{in_entries, AreSets, AreEntries, KeysApart, OwnsSame}
use Rattle.dns_zone_map.proofs.Exists.{all_append}
use Rattle.dns_zone_map.proofs.Rest.{Entries, all_front, all_back}
use Rattle.dns_zone_map.proofs.InEntries.{absent_all, other_bytes}
use Rattle.dns_zone_map.proofs.Table.{Entry, TreeOf, Parted}

-- entries round one, with more before them and behind them
regrouped : (front f b back : Entries) (x : Entry) → front ++ ((f ++ x ∷ b) ++ back) ≡ (front ++ f) ++ x ∷ (b ++ back)
regrouped front f b back x = ap (λ (xs : Entries). front ++ xs) (append_assoc f (x ∷ b) back) ∙ sym (append_assoc front f (x ∷ (b ++ back)))

joined : (front f b back : Entries) → front ++ ((f ++ b) ++ back) ≡ (front ++ f) ++ (b ++ back)
joined front f b back = ap (λ (xs : Entries). front ++ xs) (append_assoc f b back) ∙ sym (append_assoc front f (b ++ back))

-- what is sought is not in front
looked_behind : (test : Vec ℕ Global → Bool) (front es : Entries) → AllByRecursion (λ e. test e.0 ≡ false) front → lookup test (front ++ es) ≡ lookup test es
looked_behind test [] es h = refl
looked_behind test (e ∷ front) es h = rw h.0 (looked_behind test front es h.1)

none_at : (test : Vec ℕ Global → Bool) (es : Entries) → AllByRecursion (λ e. test e.0 ≡ false) es → lookup test es ≡ None
none_at test [] h = refl
none_at test (e ∷ es) h = rw h.0 (none_at test es h.1)

-- nor behind
looked_before : (test : Vec ℕ Global → Bool) (es back : Entries) → AllByRecursion (λ e. test e.0 ≡ false) back → lookup test (es ++ back) ≡ lookup test es
looked_before test [] back h = none_at test back h
looked_before test (e ∷ es) back h = ap (cond (test e.0) (Some e.1)) (looked_before test es back h)

set_behind : (test : Vec ℕ Global → Bool) (front es : Entries) (w : List RecordSet) → AllByRecursion (λ e. test e.0 ≡ false) front → set_value test (front ++ es) w ≡ front ++ set_value test es w
set_behind test [] es w h = refl
set_behind test (e ∷ front) es w h = rw h.0 (ap (λ (xs : Entries). e ∷ xs) (set_behind test front es w h.1))

none_set : (test : Vec ℕ Global → Bool) (es : Entries) (w : List RecordSet) → AllByRecursion (λ e. test e.0 ≡ false) es → set_value test es w ≡ es
none_set test [] w h = refl
none_set test (e ∷ es) w h = rw h.0 (ap (λ (xs : Entries). e ∷ xs) (none_set test es w h.1))

set_if : (b : Bool) (e : Entry) (es back : Entries) (w : List RecordSet) (test : Vec ℕ Global → Bool) → set_value test (es ++ back) w ≡ set_value test es w ++ back → cond b ((e.0, w) ∷ (es ++ back)) (e ∷ set_value test (es ++ back) w) ≡ cond b ((e.0, w) ∷ es) (e ∷ set_value test es w) ++ back
set_if true e es back w test ih = refl
set_if false e es back w test ih = ap (λ (xs : Entries). e ∷ xs) ih

set_before : (test : Vec ℕ Global → Bool) (es back : Entries) (w : List RecordSet) → AllByRecursion (λ e. test e.0 ≡ false) back → set_value test (es ++ back) w ≡ set_value test es w ++ back
set_before test [] back w h = none_set test back w h
set_before test (e ∷ es) back w h = set_if (test e.0) e es back w test (set_before test es back w h)

-- entries with the same keys stand in the same place
placed_same : (count place : ℕ) (es gs : Entries) → keys_of gs ≡ keys_of es → AllByRecursion (λ e. place_of count e.0.items ≡ place) es → AllByRecursion (λ e. place_of count e.0.items ≡ place) gs
placed_same count place [] [] same h = tt
placed_same count place [] (g ∷ gs) same h = absurd cc
placed_same count place (e ∷ es) [] same h = absurd cc
placed_same count place (e ∷ es) (g ∷ gs) same h =
    let head : g.0 ≡ e.0 = cc in
    let tail : keys_of gs ≡ keys_of es = cc in
    (ap (λ (k : Vec ℕ Global). place_of count k.items) head ∙ h.0, placed_same count place es gs tail h.1)

differ_same : (k : Vec ℕ Global) (es gs : Entries) → keys_of gs ≡ keys_of es → AllByRecursion (λ f. bytes_eq k.items f.0.items ≡ false) es → AllByRecursion (λ f. bytes_eq k.items f.0.items ≡ false) gs
differ_same k [] [] same h = tt
differ_same k [] (g ∷ gs) same h = absurd cc
differ_same k (e ∷ es) [] same h = absurd cc
differ_same k (e ∷ es) (g ∷ gs) same h =
    let head : g.0 ≡ e.0 = cc in
    let tail : keys_of gs ≡ keys_of es = cc in
    (ap (λ (x : Vec ℕ Global). bytes_eq k.items x.items) head ∙ h.0, differ_same k es gs tail h.1)

apart_same : (es gs : Entries) → keys_of gs ≡ keys_of es → KeysApart es → KeysApart gs
apart_same [] [] same h = tt
apart_same [] (g ∷ gs) same h = absurd cc
apart_same (e ∷ es) [] same h = absurd cc
apart_same (e ∷ es) (g ∷ gs) same h =
    let head : g.0 ≡ e.0 = cc in
    let tail : keys_of gs ≡ keys_of es = cc in
    (subst (λ (k : Vec ℕ Global). AllByRecursion (λ f. bytes_eq k.items f.0.items ≡ false) gs) (sym head) (differ_same e.0 es gs tail h.0), apart_same es gs tail h.1)

pub in_place_same : (count place : ℕ) (es gs : Entries) → keys_of gs ≡ keys_of es → InPlace count place es → InPlace count place gs
in_place_same count place es gs same h = record { placed = placed_same count place es gs same h.placed; apart = apart_same es gs same h.apart }

keys_round : (f b : Entries) (k : Vec ℕ Global) (v w : List RecordSet) → keys_of (f ++ (k, w) ∷ b) ≡ keys_of (f ++ (k, v) ∷ b)
keys_round [] b k v w = refl
keys_round (e ∷ f) b k v w = ap (λ (ks : List (Vec ℕ Global)). e.0 ∷ ks) (keys_round f b k v w)

keys_set_if : (b : Bool) (e : Entry) (es gs : Entries) (w : List RecordSet) → keys_of gs ≡ keys_of es → keys_of (cond b ((e.0, w) ∷ es) (e ∷ gs)) ≡ e.0 ∷ keys_of es
keys_set_if true e es gs w ih = refl
keys_set_if false e es gs w ih = ap (λ (ks : List (Vec ℕ Global)). e.0 ∷ ks) ih

pub keys_set : (test : Vec ℕ Global → Bool) (es : Entries) (w : List RecordSet) → keys_of (set_value test es w) ≡ keys_of es
keys_set test [] w = refl
keys_set test (e ∷ es) w = keys_set_if (test e.0) e es (set_value test es w) w (keys_set test es w)

-- one that was not there stands among them
bytes_turned : (a b : List ℕ) → bytes_eq a b ≡ false → bytes_eq b a ≡ false
bytes_turned a b h = not_true (bytes_eq b a) (λ t. let s : bytes_eq a b ≡ true = (bytes_eq-Decides a b).1 (sym ((bytes_eq-Decides b a).0 t)) in absurd_both (bytes_eq a b) s h)
  where
    not_true : (c : Bool) → (c ≡ true → ⊥) → c ≡ false
    not_true true g = absurd (g refl)
    not_true false g = refl

    absurd_both : (c : Bool) → c ≡ true → c ≡ false → ⊥
    absurd_both true t f = absurd cc
    absurd_both false t f = absurd cc

apart_more : (f b : Entries) (k : Vec ℕ Global) (w : List RecordSet) → KeysApart (f ++ b) → AllByRecursion (λ e. bytes_eq k.items e.0.items ≡ false) (f ++ b) → KeysApart (f ++ (k, w) ∷ b)
apart_more [] b k w a h = (h, a)
apart_more (e ∷ f) b k w a h = (
  all_append (λ g. bytes_eq e.0.items g.0.items ≡ false) f ((k, w) ∷ b) (all_front (λ g. bytes_eq e.0.items g.0.items ≡ false) f b a.0) (bytes_turned k.items e.0.items h.0, all_back (λ g. bytes_eq e.0.items g.0.items ≡ false) f b a.0),
  apart_more f b k w a.1 h.1,
)

in_place_more : (count place : ℕ) (es f b : Entries) (k : Vec ℕ Global) (w : List RecordSet) → es ≡ f ++ b → place_of count k.items ≡ place → AllByRecursion (λ e. bytes_eq k.items e.0.items ≡ false) es → InPlace count place es → InPlace count place (f ++ (k, w) ∷ b)
in_place_more count place es f b k w was here absent h =
    let placed : AllByRecursion (λ e. place_of count e.0.items ≡ place) (f ++ b) = subst (AllByRecursion (λ e. place_of count e.0.items ≡ place)) was h.placed in
    record {
      placed = all_append (λ e. place_of count e.0.items ≡ place) f ((k, w) ∷ b) (all_front (λ e. place_of count e.0.items ≡ place) f b placed) (here, all_back (λ e. place_of count e.0.items ≡ place) f b placed);
      apart = apart_more f b k w (subst KeysApart was h.apart) (subst (AllByRecursion (λ e. bytes_eq k.items e.0.items ≡ false)) was absent);
    }

-- or is taken away
all_left_if : (P : Entry → Type 0) (b : Bool) (e : Entry) (es gs : Entries) → P e → AllByRecursion P es → AllByRecursion P gs → AllByRecursion P (cond b es (e ∷ gs))
all_left_if P true e es gs p h ih = h
all_left_if P false e es gs p h ih = (p, ih)

all_left : (P : Entry → Type 0) (test : Vec ℕ Global → Bool) (es : Entries) → AllByRecursion P es → AllByRecursion P (remove_entry test es)
all_left P test [] h = tt
all_left P test (e ∷ es) h = all_left_if P (test e.0) e es (remove_entry test es) h.0 h.1 (all_left P test es h.1)

apart_left_if : (b : Bool) (e : Entry) (es gs : Entries) → KeysApart es → AllByRecursion (λ f. bytes_eq e.0.items f.0.items ≡ false) gs → KeysApart gs → KeysApart (cond b es (e ∷ gs))
apart_left_if true e es gs a h ih = a
apart_left_if false e es gs a h ih = (h, ih)

apart_left : (test : Vec ℕ Global → Bool) (es : Entries) → KeysApart es → KeysApart (remove_entry test es)
apart_left test [] a = tt
apart_left test (e ∷ es) a = apart_left_if (test e.0) e es (remove_entry test es) a.1 (all_left (λ f. bytes_eq e.0.items f.0.items ≡ false) test es a.0) (apart_left test es a.1)

pub in_place_left : (count place : ℕ) (test : Vec ℕ Global → Bool) (es : Entries) → InPlace count place es → InPlace count place (remove_entry test es)
in_place_left count place test es h = record { placed = all_left (λ e. place_of count e.0.items ≡ place) test es h.placed; apart = apart_left test es h.apart }

module _ (ts : List TreeOf) (t u : TreeOf) (key : List ℕ) (place : ℕ) (p : Parted ts t key place) (zone : Entries) (view : all_in ts ≡ zone) where
  abbrev spot : ℕ
  spot = place_of (length ts) key

  abbrev before : Entries
  before = zone

  was : zone ≡ p.front ++ (t.entries ++ p.back)
  was = sym view ∙ p.was

  abbrev after : Entries
  after = all_in (slice_set ts place u)

  -- a search for the key, in all entries
  pub seen : lookup (is_key key) before ≡ lookup (is_key key) t.entries
  seen = ap (lookup (is_key key)) was ∙ looked_behind (is_key key) p.front (t.entries ++ p.back) p.before ∙ looked_before (is_key key) t.entries p.back p.behind

  pub copied : {E : Type 0} (result : Result (List RecordSet) E) → IfOk result (λ sets. sets ≡ sets_or_none (lookup (is_key key) t.entries)) → IfOk result (λ sets. sets ≡ sets_or_none (lookup (is_key key) before))
  copied (Ok sets) h = h ∙ sym (ap sets_or_none seen)
  copied (Err e) h = tt

  -- what holds of all entries
  pub held_by : (P : Entry → Type 0) → AllByRecursion P before → AllByRecursion P t.entries
  held_by P h = all_front P t.entries p.back (all_back P p.front (t.entries ++ p.back) (subst (AllByRecursion P) was h))

  pub fewer : length (in_entries t.entries) ≤ length (in_entries before)
  fewer =
      let e : length (in_entries before) ≡ length (in_entries p.front) + (length (in_entries t.entries) + length (in_entries p.back)) =
      ap (λ (es : Entries). length (in_entries es)) was ∙ ap length (flat_map-append (λ (e : Entry). in_sets e.1) p.front (t.entries ++ p.back)) ∙ length-append (in_entries p.front) (in_entries (t.entries ++ p.back))
      ∙ ap (λ xs. length (in_entries p.front) + length xs) (flat_map-append (λ (e : Entry). in_sets e.1) t.entries p.back) ∙ ap (λ n. length (in_entries p.front) + n) (length-append (in_entries t.entries) (in_entries p.back)) in
      omega (arith, e)

  -- no change
  pub same : u.entries ≡ t.entries → after ≡ before
  same e = p.is u ∙ ap (λ (es : Entries). p.front ++ (es ++ p.back)) e ∙ sym was

  pub table_same : u.entries ≡ t.entries → IsTable (slice_set ts place u)
  table_same e = p.kept u (subst (InPlace (length ts) spot) (sym e) p.held)

  pub table_keys : keys_of u.entries ≡ keys_of t.entries → IsTable (slice_set ts place u)
  table_keys e = p.kept u (in_place_same (length ts) spot t.entries u.entries e p.held)

  -- a change of one name
  pub changed : (C : List RecordSet → List RecordSet → Type 0) → ChangedFrom key C t.entries u.entries → ChangedFrom key C before after
  changed C w = record {
    front = p.front ++ w.front;
    stored = w.stored;
    sets = w.sets;
    changed = w.changed;
    back = w.back ++ p.back;
    was = was ∙ ap (λ (es : Entries). p.front ++ (es ++ p.back)) w.was ∙ regrouped p.front w.front w.back p.back (w.stored, w.sets);
    keyed = w.keyed;
    is = p.is u ∙ ap (λ (es : Entries). p.front ++ (es ++ p.back)) w.is ∙ regrouped p.front w.front w.back p.back (w.stored, w.changed);
    change = w.change;
  }

  pub table_changed : (C : List RecordSet → List RecordSet → Type 0) → ChangedFrom key C t.entries u.entries → IsTable (slice_set ts place u)
  table_changed C w = table_keys (ap keys_of w.is ∙ keys_round w.front w.back w.stored w.sets w.changed ∙ sym (ap keys_of w.was))

  pub changed_in : (C : List RecordSet → List RecordSet → Type 0) (left : ℕ) → ChangedIn key C t.entries u.entries left → ChangedIn key C before after left
  changed_in C left w = record {
    front = p.front ++ w.front;
    stored = w.stored;
    sets = w.sets;
    changed = w.changed;
    back = w.back ++ p.back;
    was = was ∙ ap (λ (es : Entries). p.front ++ (es ++ p.back)) w.was ∙ regrouped p.front w.front w.back p.back (w.stored, w.sets);
    first = all_append (λ e. is_key key e.0 ≡ false) p.front w.front p.before w.first;
    found = w.found;
    is = p.is u ∙ ap (λ (es : Entries). p.front ++ (es ++ p.back)) w.is ∙ regrouped p.front w.front w.back p.back (w.stored, w.changed);
    change = w.change;
    left_is = w.left_is;
  }

  pub taken : (rtype : ℕ) (result : Option RecordSet) → IsTakenFrom key rtype t.entries u.entries result → IsTakenFrom key rtype before after result
  taken rtype None h = (same h.0, ap (option_and_then (λ sets. set_in rtype sets)) seen ∙ h.1)
  taken rtype (Some set) h = changed (λ sets cs. SetTaken rtype sets cs set) h

  pub table_taken : (rtype : ℕ) (result : Option RecordSet) → IsTakenFrom key rtype t.entries u.entries result → IsTable (slice_set ts place u)
  table_taken rtype None h = table_same h.0
  table_taken rtype (Some set) h = table_changed (λ sets cs. SetTaken rtype sets cs set) h

  pub freed : (result : Option ℕ) → IsFreedFrom key t.entries u.entries result → IsFreedFrom key before after result
  freed None h = (same h.0, seen ∙ h.1)
  freed (Some gone) h = changed (AreFreed gone) h

  pub table_freed : (result : Option ℕ) → IsFreedFrom key t.entries u.entries result → IsTable (slice_set ts place u)
  table_freed None h = table_same h.0
  table_freed (Some gone) h = table_changed (AreFreed gone) h

  pub cleared : (result : Option (List RecordSet)) → IsClearedFrom key t.entries u.entries result → IsClearedFrom key before after result
  cleared None h = (same h.0, seen ∙ h.1)
  cleared (Some sets) h = changed (AreCleared sets) h

  pub table_cleared : (result : Option (List RecordSet)) → IsClearedFrom key t.entries u.entries result → IsTable (slice_set ts place u)
  table_cleared None h = table_same h.0
  table_cleared (Some sets) h = table_changed (AreCleared sets) h

  pub one_taken : (one : Record) (result : Option Record) → IsOneTakenFrom key one t.entries u.entries result → IsOneTakenFrom key one before after result
  one_taken one None h = (same h.0, subst (λ (found : Option (List RecordSet)). IfSome (option_and_then (set_in one.rtype) found) (HasNoEqual one)) (sym seen) h.1)
  one_taken one (Some r) h = changed (OneTaken one r) h

  pub table_one_taken : (one : Record) (result : Option Record) → IsOneTakenFrom key one t.entries u.entries result → IsTable (slice_set ts place u)
  table_one_taken one None h = table_same h.0
  table_one_taken one (Some r) h = table_changed (OneTaken one r) h

  pub serial_set : (serial : ℕ) → IsSerialSetAt key serial t.entries u.entries → IsSerialSetAt key serial before after
  serial_set serial (inl h) = inl (h.0, changed_in (IsSerialSet serial) h.0 h.1)
  serial_set serial (inr h) = inr (same h.0, seen ∙ h.1)

  pub table_serial_set : (serial : ℕ) → IsSerialSetAt key serial t.entries u.entries → IsTable (slice_set ts place u)
  table_serial_set serial (inl h) = let w = h.1 in table_keys (ap keys_of w.is ∙ keys_round w.front w.back w.stored w.sets w.changed ∙ sym (ap keys_of w.was))
  table_serial_set serial (inr h) = table_same h.0

  -- a record is put
  absent_all_of : AllByRecursion (λ e. bytes_eq key e.0.items ≡ false) t.entries → AllByRecursion (λ e. bytes_eq key e.0.items ≡ false) before
  absent_all_of h =
      subst (AllByRecursion (λ e. bytes_eq key e.0.items ≡ false)) (sym was)
      (all_append (λ e. bytes_eq key e.0.items ≡ false) p.front (t.entries ++ p.back) (other_bytes key p.front p.before) (all_append (λ e. bytes_eq key e.0.items ≡ false) t.entries p.back h (other_bytes key p.back p.behind)))

  pub put : (number : ℕ) (one : Record) (old : Option Record) → PutUnder key number one t.entries u.entries old → PutUnder key number one before after old
  put number one old (inl w) =
      inl (record {
        front = p.front ++ w.front;
        stored = w.stored;
        sets = w.sets;
        changed = w.changed;
        back = w.back ++ p.back;
        was = was ∙ ap (λ (es : Entries). p.front ++ (es ++ p.back)) w.was ∙ regrouped p.front w.front w.back p.back (w.stored, w.sets);
        keyed = w.keyed;
        is = p.is u ∙ ap (λ (es : Entries). p.front ++ (es ++ p.back)) w.is ∙ regrouped p.front w.front w.back p.back (w.stored, w.changed);
        put = w.put;
      })
  put number one old (inr w) =
      inr (record {
        front = p.front ++ w.front;
        stored = w.stored;
        back = w.back ++ p.back;
        was = was ∙ ap (λ (es : Entries). p.front ++ (es ++ p.back)) w.was ∙ joined p.front w.front w.back p.back;
        absent = absent_all_of w.absent;
        keyed = w.keyed;
        is = p.is u ∙ ap (λ (es : Entries). p.front ++ (es ++ p.back)) w.is ∙ regrouped p.front w.front w.back p.back (w.stored, new_set number one ∷ []);
        replaced = w.replaced;
      })

  table_more : (f b : Entries) (k : Vec ℕ Global) (w : List RecordSet) → t.entries ≡ f ++ b → k.items ≡ key → AllByRecursion (λ e. bytes_eq key e.0.items ≡ false) t.entries → u.entries ≡ f ++ (k, w) ∷ b → IsTable (slice_set ts place u)
  table_more f b k w was keyed absent is =
      p.kept u (subst (InPlace (length ts) spot) (sym is)
      (in_place_more (length ts) spot t.entries f b k w was (ap (place_of (length ts)) keyed) (subst (λ (z : List ℕ). AllByRecursion (λ e. bytes_eq z e.0.items ≡ false) t.entries) (sym keyed) absent) p.held))

  pub table_put : (number : ℕ) (one : Record) (old : Option Record) → PutUnder key number one t.entries u.entries old → IsTable (slice_set ts place u)
  table_put number one old (inl w) = table_keys (ap keys_of w.is ∙ keys_round w.front w.back w.stored w.sets w.changed ∙ sym (ap keys_of w.was))
  table_put number one old (inr w) = table_more w.front w.back w.stored (new_set number one ∷ []) w.was w.keyed w.absent w.is

  -- where memory ran out nothing is changed
  pub same_err : {T E : Type 0} (result : Result T E) → OnErr result (u.entries ≡ t.entries) → OnErr result (after ≡ before)
  same_err (Ok x) h = tt
  same_err (Err e) h = same h

  pub put_ok : {E : Type 0} (number : ℕ) (one : Record) (result : Result (Option Record) E) → IfOk result (λ old. PutUnder key number one t.entries u.entries old) → IfOk result (λ old. PutUnder key number one before after old)
  put_ok number one (Ok old) h = put number one old h
  put_ok number one (Err e) h = tt

  pub table_put_ok : {E : Type 0} (number : ℕ) (one : Record) (result : Result (Option Record) E) → IfOk result (λ old. PutUnder key number one t.entries u.entries old) → OnErr result (u.entries ≡ t.entries) → IsTable (slice_set ts place u)
  table_put_ok number one (Ok old) h e = table_put number one old h
  table_put_ok number one (Err e) h same = table_same same

  -- the same where it may stand beside what its name owns
  stands_there : (one : Record) (stands : Bool) → stands_beside (sets_or_none (lookup (is_key key) t.entries)) one ≡ stands → stands_beside (sets_or_none (lookup (is_key key) before)) one ≡ stands
  stands_there one stands h = subst (λ (found : Option (List RecordSet)). stands_beside (sets_or_none found) one ≡ stands) (sym seen) h

  pub beside_ok : {E : Type 0} (number : ℕ) (one : Record) (result : Result Beside E) → IfOk result (IsPutAt key number one t.entries u.entries) → IfOk result (IsPutAt key number one before after)
  beside_ok number one (Ok New) h = (stands_there one false h.0, put number one None h.1)
  beside_ok number one (Ok Replaced) h = (stands_there one false h.0, (h.1.0, put number one (Some h.1.0) h.1.1))
  beside_ok number one (Ok Clash) h = (stands_there one true h.0, same h.1)
  beside_ok number one (Err e) h = tt

  pub table_beside_ok : {E : Type 0} (number : ℕ) (one : Record) (result : Result Beside E) → IfOk result (IsPutAt key number one t.entries u.entries) → OnErr result (u.entries ≡ t.entries) → IsTable (slice_set ts place u)
  table_beside_ok number one (Ok New) h e = table_put number one None h.1
  table_beside_ok number one (Ok Replaced) h e = table_put number one (Some h.1.0) h.1.1
  table_beside_ok number one (Ok Clash) h e = table_same h.1
  table_beside_ok number one (Err e) h same = table_same same

  -- a name is there
  pub named : HasName key t.entries u.entries → HasName key before after
  named (inl h) = inl (h.0, seen ∙ h.1, same h.2)
  named (inr h) =
      inr (
        seen ∙ h.0,
        record {
          front = p.front ++ h.1.front;
          stored = h.1.stored;
          back = h.1.back ++ p.back;
          was = was ∙ ap (λ (es : Entries). p.front ++ (es ++ p.back)) h.1.was ∙ joined p.front h.1.front h.1.back p.back;
          keyed = h.1.keyed;
          is = p.is u ∙ ap (λ (es : Entries). p.front ++ (es ++ p.back)) h.1.is ∙ regrouped p.front h.1.front h.1.back p.back (h.1.stored, []);
        },
      )

  pub table_named : HasName key t.entries u.entries → IsTable (slice_set ts place u)
  table_named (inl h) = table_same h.2
  table_named (inr h) = table_more h.1.front h.1.back h.1.stored [] h.1.was h.1.keyed (other_bytes key t.entries (absent_all (is_key key) t.entries h.0)) h.1.is

  pub named_ok : {T E : Type 0} (result : Result T E) → OnOk result (HasName key t.entries u.entries) → OnOk result (HasName key before after)
  named_ok (Ok x) h = named h
  named_ok (Err e) h = tt

  pub table_named_ok : {T E : Type 0} (result : Result T E) → OnOk result (HasName key t.entries u.entries) → OnErr result (u.entries ≡ t.entries) → IsTable (slice_set ts place u)
  table_named_ok (Ok x) h e = table_named h
  table_named_ok (Err e) h same = table_same same

  -- sets are written at the key
  pub written : (w : List RecordSet) → u.entries ≡ set_value (is_key key) t.entries w → after ≡ set_value (is_key key) before w
  written w h =
      p.is u ∙ ap (λ (es : Entries). p.front ++ (es ++ p.back)) h
      ∙ sym (ap (λ (es : Entries). set_value (is_key key) es w) was ∙ set_behind (is_key key) p.front (t.entries ++ p.back) w p.before ∙ ap (λ (es : Entries). p.front ++ es) (set_before (is_key key) t.entries p.back w p.behind))

  pub table_written : (w : List RecordSet) → u.entries ≡ set_value (is_key key) t.entries w → IsTable (slice_set ts place u)
  table_written w h = table_keys (ap keys_of h ∙ keys_set (is_key key) t.entries w)

  -- the others stay
  pub others : blanked key u.entries ≡ blanked key t.entries → blanked key after ≡ blanked key before
  others h = ap (blanked key) (p.is u) ∙ parts u.entries ∙ ap (λ (es : Entries). blanked key p.front ++ (es ++ blanked key p.back)) h ∙ sym (parts t.entries) ∙ sym (ap (blanked key) was)
    where
      parts : (es : Entries) → blanked key (p.front ++ (es ++ p.back)) ≡ blanked key p.front ++ (blanked key es ++ blanked key p.back)
      parts es =
          map-append (λ (e : Entry). if is_key key e.0 then (e.0, []) else e) p.front (es ++ p.back)
          ∙ ap (λ (xs : Entries). blanked key p.front ++ xs) (map-append (λ (e : Entry). if is_key key e.0 then (e.0, []) else e) es p.back)

  pub others_found : (IsSome (lookup (is_key key) t.entries) → blanked key u.entries ≡ blanked key t.entries) → IsSome (lookup (is_key key) before) → blanked key after ≡ blanked key before
  others_found h there = others (h (subst IsSome seen there))

  -- the names own the same
  pub owns : OwnsSame t.entries u.entries → OwnsSame before after
  owns h = record {
    same =
        ap in_entries (p.is u) ∙ parts u.entries ∙ ap (λ xs. in_entries p.front ++ (xs ++ in_entries p.back)) h.same ∙ sym (parts t.entries) ∙ sym (ap in_entries was);
    each = λ origin a.
        let all : AreEntries origin (p.front ++ (t.entries ++ p.back)) = subst (AreEntries origin) was a in
        let rest : AreEntries origin (t.entries ++ p.back) = all_back (λ e. AreSets origin e.0.items e.1) p.front (t.entries ++ p.back) all in
        subst (AreEntries origin) (sym (p.is u))
        (all_append (λ e. AreSets origin e.0.items e.1) p.front (u.entries ++ p.back) (all_front (λ e. AreSets origin e.0.items e.1) p.front (t.entries ++ p.back) all)
        (all_append (λ e. AreSets origin e.0.items e.1) u.entries p.back (h.each origin (all_front (λ e. AreSets origin e.0.items e.1) t.entries p.back rest)) (all_back (λ e. AreSets origin e.0.items e.1) t.entries p.back rest)));
  }
    where
      parts : (es : Entries) → in_entries (p.front ++ (es ++ p.back)) ≡ in_entries p.front ++ (in_entries es ++ in_entries p.back)
      parts es = flat_map-append (λ (e : Entry). in_sets e.1) p.front (es ++ p.back) ∙ ap (λ xs. in_entries p.front ++ xs) (flat_map-append (λ (e : Entry). in_sets e.1) es p.back)

  pub table_left : u.entries ≡ t.entries ⊎ u.entries ≡ remove_entry (is_key key) t.entries → IsTable (slice_set ts place u)
  table_left (inl h) = table_same h
  table_left (inr h) = p.kept u (subst (InPlace (length ts) spot) (sym h) (in_place_left (length ts) spot (is_key key) t.entries p.held))
