-- A set of the list is a set of the map.
use Rattle.std.proofs.Common.{◌≡◌, ℕ, ◌<◌, ◌≤◌, Bool, true, false, List, [], ◌∷◌, length, map, refl, sym, ap, subst, ◌∙◌, arith, Some, None, Vec, Global, ◌==◌, if◌then◌else◌}
use Rattle.std.specs.Prelude.{Option, option_map, filter, ◌&&◌, cond, IfSome}
use Rattle.std.specs.Option.{option_and_then}
use Rattle.std.specs.declared.cmp.Ordering.TheVariants.{Less}
use Rattle.std.specs.List.Sorted.{IsStrictlySortedBy}
use Rattle.std.proofs.lemmas.Map.Keys.{sorted_head, sorted_tail}
use Rattle.std.specs.Str.{bytes_eq}
use Rattle.std.specs.List.{AllByRecursion}
use Rattle.std.specs.Map.{lookup, keys_of}
use Rattle.std.specs.Ordering.{nat_cmp, is_eq}
use Rattle.std.specs.Cmp.Lexicographic.{slice_cmp}
use Rattle.std.proofs.lemmas.List.{append-nil}
use Rattle.std.proofs.lemmas.List.Elements.{filter-append}
use Rattle.std.proofs.lemmas.Bool.Decides.{Decides-eqb, same_from_decides}
use Rattle.std.proofs.lemmas.Bool.{ne_eqb}
use Rattle.std.proofs.lemmas.Slice.Eq.{bytes_eq-Decides}
use Rattle.std.proofs.lemmas.Map.Text.{is_eq-slice_cmp}
use Rattle.dns_name.specs.Name.{is_same_name, is_at_or_below}
use Rattle.dns_wire.specs.declared.record.Record.{Record}
use Rattle.dns_zone_map.specs.Keys.{key_of}
use Rattle.dns_zone_map.specs.Order.{Numbered, plain, list_of, of_plain, numbered, IsRising}
use Rattle.dns_zone_map.specs.Sets.{in_set, in_sets, TypesRise, set_in, some_of, records_in, sets_or_none, AreSetsOf}
use Rattle.dns_zone_map.specs.Tree.{in_entries, Belongs, IsSet, AreSets, AreEntries, KeysApart}
use Rattle.dns_zone_map.specs.Zone.{Contents, is_in_set, set_of}
use Rattle.dns_zone_map.specs.declared.sets.RecordSet.{RecordSet}
use Rattle.dns_zone_map.proofs.Sorting.{IsAscending, sorted_stays, filter_list}
use Rattle.dns_zone_map.proofs.Keyed.{same_keys}

pub filter_none : {X : Type 0} (p : X → Bool) (xs : List X) → AllByRecursion (λ x. p x ≡ false) xs → filter p xs ≡ []
filter_none p [] h = refl
filter_none p (x ∷ xs) h = rw h.0 (filter_none p xs h.1)

pub filter_all : {X : Type 0} (p : X → Bool) (xs : List X) → AllByRecursion (λ x. p x ≡ true) xs → filter p xs ≡ xs
filter_all p [] h = refl
filter_all p (x ∷ xs) h = rw h.0 (ap (λ ys. x ∷ ys) (filter_all p xs h.1))

pub all_to : {X : Type 0} (P Q : X → Type 0) → ((x : X) → P x → Q x) → (xs : List X) → AllByRecursion P xs → AllByRecursion Q xs
all_to P Q f [] h = tt
all_to P Q f (x ∷ xs) h = (f x h.0, all_to P Q f xs h.1)

pub numbered_all : (P : Record → Type 0) (ns : List ℕ) (rs : List Record) → AllByRecursion P rs → AllByRecursion (λ x. P x.one) (numbered ns rs)
numbered_all P [] rs h = tt
numbered_all P (n ∷ ns) [] h = tt
numbered_all P (n ∷ ns) (r ∷ rs) h = (h.0, numbered_all P ns rs h.1)

-- the numbered records of a set that was found, or none
abbrev pub in_found : Option RecordSet → List Numbered
in_found None = []
in_found (Some s) = in_set s

pub bytes_turned : (a b : List ℕ) → bytes_eq a b ≡ bytes_eq b a
bytes_turned a b = same_from_decides (bytes_eq a b) (bytes_eq b a) (bytes_eq-Decides a b) (λ t. sym ((bytes_eq-Decides b a).0 t), λ h. (bytes_eq-Decides b a).1 (sym h))

apart_head : (k : Vec ℕ Global) (es : List (Vec ℕ Global × List RecordSet)) → AllByRecursion (λ l. slice_cmp nat_cmp k.items l.items ≡ Less) (keys_of es) → AllByRecursion (λ f. bytes_eq k.items f.0.items ≡ false) es
apart_head k [] h = tt
apart_head k (e ∷ es) h = (sym (is_eq-slice_cmp k.items e.0.items) ∙ ap is_eq h.0, apart_head k es h.1)

-- the keys of a tree stand once
pub apart_sorted : (es : List (Vec ℕ Global × List RecordSet)) → IsStrictlySortedBy (λ x y. slice_cmp nat_cmp x.items y.items) (keys_of es) → KeysApart es
apart_sorted [] s = tt
apart_sorted (e ∷ es) s =
    (apart_head e.0 es (sorted_head (λ x y. slice_cmp nat_cmp x.items y.items) e.0 (keys_of es) s), apart_sorted es (sorted_tail (λ x y. slice_cmp nat_cmp x.items y.items) e.0 (keys_of es) s))

module _ (origin name : List (List ℕ)) (rtype : ℕ) (name_in : is_at_or_below name origin ≡ true) (finds : Vec ℕ Global → Bool) (finds_is : (k : Vec ℕ Global) → finds k ≡ bytes_eq k.items (key_of origin name)) where
  abbrev test : Record → Bool
  test = is_in_set name rtype

  tested : (key : List ℕ) (kind : ℕ) (b c : Bool) → bytes_eq key (key_of origin name) ≡ c → (kind == rtype) ≡ b → (r : Record) → Belongs origin key kind r → test r ≡ (b && c)
  tested key kind b c e f r h =
      let same : is_same_name r.name name ≡ c = same_keys origin r.name name h.within name_in ∙ rw h.under e in
      rw (h.typed, f, same) refl

  -- no record of a set of another type or name is in the set
  set_none : (key : List ℕ) (s : RecordSet) (b c : Bool) → bytes_eq key (key_of origin name) ≡ c → (s.rtype == rtype) ≡ b → (b && c) ≡ false → IsSet origin key s → filter (of_plain test) (in_set s) ≡ []
  set_none key s b c e f g h =
      filter_none (of_plain test) (in_set s)
      (numbered_all (λ r. test r ≡ false) s.numbers s.records (all_to (Belongs origin key s.rtype) (λ r. test r ≡ false) (λ r p. tested key s.rtype b c e f r p ∙ g) s.records h.belong))

  -- each record of the set is
  set_all : (key : List ℕ) (s : RecordSet) → bytes_eq key (key_of origin name) ≡ true → (s.rtype == rtype) ≡ true → IsSet origin key s → filter (of_plain test) (in_set s) ≡ in_set s
  set_all key s e f h =
      filter_all (of_plain test) (in_set s)
      (numbered_all (λ r. test r ≡ true) s.numbers s.records (all_to (Belongs origin key s.rtype) (λ r. test r ≡ true) (λ r p. tested key s.rtype true true e f r p) s.records h.belong))

  and-no : (b : Bool) → (b && false) ≡ false
  and-no true = refl
  and-no false = refl

  -- of the sets of another name none is in it
  sets_other : (key : List ℕ) (ss : List RecordSet) → bytes_eq key (key_of origin name) ≡ false → AllByRecursion (IsSet origin key) ss → filter (of_plain test) (in_sets ss) ≡ []
  sets_other key [] e h = refl
  sets_other key (s ∷ ss) e h =
      filter-append (of_plain test) (in_set s) (in_sets ss) ∙ rw (set_none key s (s.rtype == rtype) false e refl (and-no (s.rtype == rtype)) h.0) (sets_other key ss e h.1)

  -- and none of those of greater types
  sets_later : (key : List ℕ) (ss : List RecordSet) (kind : ℕ) → bytes_eq key (key_of origin name) ≡ true → (kind == rtype) ≡ true → AllByRecursion (λ t. kind < t.rtype) ss → AllByRecursion (IsSet origin key) ss
      → filter (of_plain test) (in_sets ss) ≡ []
  sets_later key [] kind e f l h = refl
  sets_later key (s ∷ ss) kind e f l h =
      let is : kind ≡ rtype = (Decides-eqb kind rtype).0 f in
      let below : kind < s.rtype = l.0 in
      let other : (s.rtype == rtype) ≡ false = grind (arith, ne_eqb) in
      filter-append (of_plain test) (in_set s) (in_sets ss) ∙ rw (set_none key s false true e other refl h.0) (sets_later key ss kind e f l.1 h.1)

  sets_if : (b : Bool) (key : List ℕ) (s : RecordSet) (ss : List RecordSet) → (s.rtype == rtype) ≡ b → bytes_eq key (key_of origin name) ≡ true → AllByRecursion (λ t. s.rtype < t.rtype) ss → IsSet origin key s → AllByRecursion (IsSet origin key) ss
      → filter (of_plain test) (in_sets ss) ≡ in_found (set_in rtype ss) → filter (of_plain test) (in_sets (s ∷ ss)) ≡ in_found (if b then Some s else set_in rtype ss)
  sets_if true key s ss f e l h hs ih =
      filter-append (of_plain test) (in_set s) (in_sets ss) ∙ rw (set_all key s e f h, sets_later key ss s.rtype e f l hs) (append-nil (in_set s))
  sets_if false key s ss f e l h hs ih = filter-append (of_plain test) (in_set s) (in_sets ss) ∙ rw (set_none key s false true e f refl h) ih

  -- of the sets of the name it is the one of the type
  sets_same : (key : List ℕ) (ss : List RecordSet) → bytes_eq key (key_of origin name) ≡ true → TypesRise ss → AllByRecursion (IsSet origin key) ss → filter (of_plain test) (in_sets ss) ≡ in_found (set_in rtype ss)
  sets_same key [] e l h = refl
  sets_same key (s ∷ ss) e l h = sets_if (s.rtype == rtype) key s ss refl e l.0 h.0 h.1 (sets_same key ss e l.1 h.1)

  -- of the nodes of other names none is in the set
  entries_other : (es : List (Vec ℕ Global × List RecordSet)) → AllByRecursion (λ e. bytes_eq e.0.items (key_of origin name) ≡ false) es → AreEntries origin es → filter (of_plain test) (in_entries es) ≡ []
  entries_other [] a h = refl
  entries_other (e ∷ es) a h =
      filter-append (of_plain test) (in_sets e.1) (in_entries es) ∙ rw (sets_other e.0.items e.1 a.0 h.0.each) (entries_other es a.1 h.1)

  -- the keys beside that of the name are others
  others_after : (first : Vec ℕ Global) (es : List (Vec ℕ Global × List RecordSet)) → bytes_eq first.items (key_of origin name) ≡ true → AllByRecursion (λ f. bytes_eq first.items f.0.items ≡ false) es → AllByRecursion (λ e. bytes_eq e.0.items (key_of origin name) ≡ false) es
  others_after first [] t h = tt
  others_after first (e ∷ es) t h =
      let is : first.items ≡ key_of origin name = (bytes_eq-Decides first.items (key_of origin name)).0 t in
      let other : bytes_eq (key_of origin name) e.0.items ≡ false = rw (← is) h.0 in
      (bytes_turned e.0.items (key_of origin name) ∙ other, others_after first es t h.1)

  -- the set that the map has
  abbrev pub found_in : List (Vec ℕ Global × List RecordSet) → Option RecordSet
  found_in es = option_and_then (λ n. set_in rtype n) (lookup finds es)

  entries_if : (b : Bool) (e : Vec ℕ Global × List RecordSet) (es : List (Vec ℕ Global × List RecordSet)) → bytes_eq e.0.items (key_of origin name) ≡ b → AreEntries origin (e ∷ es) → AllByRecursion (λ f. bytes_eq e.0.items f.0.items ≡ false) es
      → filter (of_plain test) (in_entries es) ≡ in_found (found_in es)
      → filter (of_plain test) (in_entries (e ∷ es)) ≡ in_found (option_and_then (λ n. set_in rtype n) (cond b (Some e.1) (lookup finds es)))
  entries_if true e es t h s ih =
      filter-append (of_plain test) (in_sets e.1) (in_entries es)
      ∙ rw (sets_same e.0.items e.1 t h.0.rise h.0.each, entries_other es (others_after e.0 es t s) h.1) (append-nil (in_found (set_in rtype e.1)))
  entries_if false e es t h s ih = filter-append (of_plain test) (in_sets e.1) (in_entries es) ∙ rw (sets_other e.0.items e.1 t h.0.each) ih

  entries_found : (es : List (Vec ℕ Global × List RecordSet)) → AreEntries origin es → KeysApart es → filter (of_plain test) (in_entries es) ≡ in_found (found_in es)
  entries_found [] h s = refl
  entries_found (e ∷ es) h s = entries_if (finds e.0) e es (sym (finds_is e.0)) h s.0 (entries_found es h.1 s.1)

  -- what is found is a set
  set_if : (b : Bool) (key : List ℕ) (s : RecordSet) (found : Option RecordSet) → IsSet origin key s → IfSome found (IsSet origin key) → IfSome (if b then Some s else found) (IsSet origin key)
  set_if true key s found h ih = h
  set_if false key s found h ih = ih

  set_is : (key : List ℕ) (ss : List RecordSet) → AllByRecursion (IsSet origin key) ss → IfSome (set_in rtype ss) (IsSet origin key)
  set_is key [] h = tt
  set_is key (s ∷ ss) h = set_if (s.rtype == rtype) key s (set_in rtype ss) h.0 (set_is key ss h.1)

  IsSome_set : RecordSet → Type 0
  IsSome_set s = (key : List ℕ) × IsSet origin key s

  keyed : (key : List ℕ) (found : Option RecordSet) → IfSome found (IsSet origin key) → IfSome found (λ s. (k : List ℕ) × IsSet origin k s)
  keyed key None h = tt
  keyed key (Some s) h = (key, h)

  node_if : (b : Bool) (e : Vec ℕ Global × List RecordSet) (found : Option (List RecordSet)) → AreSets origin e.0.items e.1 → IfSome (option_and_then (λ n. set_in rtype n) found) (λ s. (k : List ℕ) × IsSet origin k s)
      → IfSome (option_and_then (λ n. set_in rtype n) (cond b (Some e.1) found)) (λ s. (k : List ℕ) × IsSet origin k s)
  node_if true e found h ih = keyed e.0.items (set_in rtype e.1) (set_is e.0.items e.1 h.each)
  node_if false e found h ih = ih

  found_is : (es : List (Vec ℕ Global × List RecordSet)) → AreEntries origin es → IfSome (found_in es) (λ s. (k : List ℕ) × IsSet origin k s)
  found_is [] h = tt
  found_is (e ∷ es) h = node_if (finds e.0) e (lookup finds es) h.0 (found_is es h.1)

numbers_all : (P : ℕ → Type 0) (ns : List ℕ) (rs : List Record) → AllByRecursion P ns → AllByRecursion (λ x. P x.number) (numbered ns rs)
numbers_all P [] rs h = tt
numbers_all P (n ∷ ns) [] h = tt
numbers_all P (n ∷ ns) (r ∷ rs) h = (h.0, numbers_all P ns rs h.1)

ascends : (ns : List ℕ) (rs : List Record) → IsRising ns → IsAscending (numbered ns rs)
ascends [] rs h = tt
ascends (n ∷ ns) [] h = tt
ascends (n ∷ ns) (r ∷ rs) h = (numbers_all (λ m. n ≤ m) ns rs h.0, ascends ns rs h.1)

pub plain_again : (ns : List ℕ) (rs : List Record) → length ns ≡ length rs → map plain (numbered ns rs) ≡ rs
plain_again [] [] h = refl
plain_again [] (r ∷ rs) h = absurd (omega arith)
plain_again (n ∷ ns) [] h = absurd (omega arith)
plain_again (n ∷ ns) (r ∷ rs) h = ap (λ xs. r ∷ xs) (plain_again ns rs (omega arith))

-- the list of a set is its records
pub set_list : (origin : List (List ℕ)) (key : List ℕ) (s : RecordSet) → IsSet origin key s → list_of (in_set s) ≡ s.records
set_list origin key s h = ap (map plain) (sorted_stays (in_set s) (ascends s.numbers s.records h.rising)) ∙ plain_again s.numbers s.records h.paired

pub some_filled : (rs : List Record) → 0 < length rs → some_of rs ≡ Some rs
some_filled [] h = absurd (omega arith)
some_filled (r ∷ rs) h = refl

list_found : (origin : List (List ℕ)) (found : Option RecordSet) → IfSome found (λ s. (k : List ℕ) × IsSet origin k s) → some_of (list_of (in_found found)) ≡ option_map (λ s. s.records) found
list_found origin None h = refl
list_found origin (Some s) h = ap some_of (set_list origin h.0 s h.1) ∙ some_filled s.records h.1.filled

-- a set of the list is the set of the map, where that has one
pub lent_found : (origin name : List (List ℕ)) (rtype : ℕ) (finds : Vec ℕ Global → Bool) (es : List (Vec ℕ Global × List RecordSet)) → is_at_or_below name origin ≡ true → ((k : Vec ℕ Global) → finds k ≡ bytes_eq k.items (key_of origin name)) → AreEntries origin es → KeysApart es
    → some_of (set_of (list_of (in_entries es)) name rtype) ≡ option_map (λ s. s.records) (option_and_then (λ n. set_in rtype n) (lookup finds es))
lent_found origin name rtype finds es within is h s =
    ap some_of (filter_list (is_in_set name rtype) (in_entries es) ∙ ap list_of (entries_found origin name rtype within finds is es h s)) ∙ list_found origin (found_in origin name rtype within finds is es) (found_is origin name rtype within finds is es h)

-- at a tree
pub lent_set : (origin name : List (List ℕ)) (rtype : ℕ) (es : List (Vec ℕ Global × List RecordSet)) → is_at_or_below name origin ≡ true → AreEntries origin es → KeysApart es
    → some_of (set_of (list_of (in_entries es)) name rtype) ≡ option_map (λ s. s.records) (option_and_then (λ n. set_in rtype n) (lookup (λ k. is_eq (slice_cmp nat_cmp (key_of origin name) k.items)) es))
lent_set origin name rtype es within h s =
    lent_found origin name rtype (λ k. is_eq (slice_cmp nat_cmp (key_of origin name) k.items)) es within (λ k. is_eq-slice_cmp (key_of origin name) k.items ∙ bytes_turned (key_of origin name) k.items) h s

either_way : (rtype : ℕ) (found : Option (List RecordSet)) → option_and_then (λ n. set_in rtype n) found ≡ set_in rtype (sets_or_none found)
either_way rtype None = refl
either_way rtype (Some sets) = refl

looked_if : (P : List RecordSet → Type 0) (b : Bool) (e : Vec ℕ Global × List RecordSet) (found : Option (List RecordSet)) → P e.1 → IfSome found P → IfSome (cond b (Some e.1) found) P
looked_if P true e found h ih = h
looked_if P false e found h ih = ih

-- what holds of all sets holds of those that are found
pub looked : (P : List RecordSet → Type 0) (test : Vec ℕ Global → Bool) (es : List (Vec ℕ Global × List RecordSet)) → AllByRecursion (λ e. P e.1) es → IfSome (lookup test es) P
looked P test [] h = tt
looked P test (e ∷ es) h = looked_if P (test e.0) e (lookup test es) h.0 (looked P test es h.1)

rise_either : (found : Option (List RecordSet)) → IfSome found TypesRise → TypesRise (sets_or_none found)
rise_either None h = tt
rise_either (Some sets) h = h

-- what the map has at the key of a name are the sets of the name
pub sets_are : (origin name : List (List ℕ)) (key : List ℕ) (es : List (Vec ℕ Global × List RecordSet)) (zone : Contents) (found : Option (List RecordSet)) → record { origin = origin; records = list_of (in_entries es) } ≡ zone → is_at_or_below name zone.origin ≡ true → key ≡ key_of zone.origin name
    → AreEntries origin es → KeysApart es → found ≡ lookup (λ k. is_eq (slice_cmp nat_cmp key k.items)) es → AreSetsOf zone.records name (sets_or_none found)
sets_are origin name key es zone found view within is h s n =
    let o : zone.origin ≡ origin = sym (ap (λ z. z.origin) view) in
    let e : zone.records ≡ list_of (in_entries es) = sym (ap (λ z. z.records) view) in
    let k : key ≡ key_of origin name = rw o at is in
    let at_key : found ≡ lookup (λ k. is_eq (slice_cmp nat_cmp (key_of origin name) k.items)) es = n ∙ ap (λ (z : List ℕ). lookup (λ k. is_eq (slice_cmp nat_cmp z k.items)) es) k in
    record {
      each = λ rtype.
          ap (λ (rs : List Record). some_of (set_of rs name rtype)) e ∙ lent_set origin name rtype es (rw o at within) h s ∙ ap (λ (f : Option (List RecordSet)). option_map records_in (option_and_then (λ n. set_in rtype n) f)) (sym at_key)
          ∙ ap (option_map records_in) (either_way rtype found);
      rising = rise_either found (subst (λ (f : Option (List RecordSet)). IfSome f TypesRise) (sym n) (looked TypesRise (λ k. is_eq (slice_cmp nat_cmp key k.items)) es (all_to (λ e. AreSets origin e.0.items e.1) (λ e. TypesRise e.1) (λ e p. p.rise) es h)));
    }
