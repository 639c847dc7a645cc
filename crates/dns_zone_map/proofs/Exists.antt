-- A name exists where a key of the map begins with its own, at which there are sets.
use Rattle.std.proofs.Common.{◌≡◌, ℕ, ◌<◌, Bool, true, false, List, [], ◌∷◌, ◌++◌, length, map, refl, sym, ap, ◌∙◌, arith, Vec, Global, eqb, if◌then◌else◌, length-append}
use Rattle.std.specs.Prelude.{◌&&◌, ◌||◌, nat_lt}
use Rattle.std.specs.List.{AllByRecursion, list_any, starts_with}
use Rattle.std.proofs.lemmas.List.Folds.{list_any-append}
use Rattle.dns_name.specs.Name.{is_at_or_below}
use Rattle.dns_wire.specs.declared.record.Record.{Record}
use Rattle.dns_name.proofs.SameNames.{is_at_or_below-is}
use Rattle.dns_zone_map.specs.Keys.{key_of}
use Rattle.dns_zone_map.specs.Order.{Numbered, into, by_number, plain, list_of, of_plain, numbered}
use Rattle.dns_zone_map.specs.Sets.{in_set, in_sets, are_some}
use Rattle.dns_zone_map.specs.Tree.{in_entries, Belongs, IsSet, AreEntries}
use Rattle.dns_zone_map.specs.Zone.{Contents}
use Rattle.dns_zone_map.specs.Existence.{exists, is_at_or_under}
use Rattle.dns_zone_map.specs.declared.sets.RecordSet.{RecordSet}
use Rattle.dns_zone_map.proofs.Keyed.{below_keys}
use Rattle.dns_zone_map.proofs.Firsts.{starts-Decides}
use Rattle.dns_zone_map.proofs.Lent.{all_to, numbered_all}

or-turned : (a b c : Bool) → (b || (a || c)) ≡ (a || (b || c))
or-turned true true c = refl
or-turned true false c = refl
or-turned false b c = refl

any_if : (b : Bool) (t : Numbered → Bool) (x y : Numbered) (ys : List Numbered) → list_any t (into x ys) ≡ (t x || list_any t ys) → list_any t (if b then y ∷ into x ys else x ∷ y ∷ ys) ≡ (t x || (t y || list_any t ys))
any_if true t x y ys ih = rw ih (or-turned (t x) (t y) (list_any t ys))
any_if false t x y ys ih = refl

any_into : (t : Numbered → Bool) (x : Numbered) (ys : List Numbered) → list_any t (into x ys) ≡ (t x || list_any t ys)
any_into t x [] = refl
any_into t x (y ∷ ys) = any_if (nat_lt y.number x.number) t x y ys (any_into t x ys)

any_sorted : (t : Numbered → Bool) (xs : List Numbered) → list_any t (by_number xs) ≡ list_any t xs
any_sorted t [] = refl
any_sorted t (x ∷ xs) = any_into t x (by_number xs) ∙ ap (λ b. t x || b) (any_sorted t xs)

any_plain : (test : Record → Bool) (xs : List Numbered) → list_any test (map plain xs) ≡ list_any (of_plain test) xs
any_plain test [] = refl
any_plain test (x ∷ xs) = ap (λ b. test x.one || b) (any_plain test xs)

-- a test of the list is one of the numbered records
pub any_list : (test : Record → Bool) (xs : List Numbered) → list_any test (list_of xs) ≡ list_any (of_plain test) xs
any_list test xs = any_plain test (by_number xs) ∙ any_sorted (of_plain test) xs

any_const : {X : Type 0} (t : X → Bool) (b : Bool) (xs : List X) → AllByRecursion (λ x. t x ≡ b) xs → 0 < length xs → list_any t xs ≡ b
any_const t b [] h l = absurd (omega arith)
any_const t true (x ∷ xs) h l = rw h.0 refl
any_const t false (x ∷ xs) h l = rw h.0 (all_false t xs h.1)
  where
    all_false : {X : Type 0} (t : X → Bool) (xs : List X) → AllByRecursion (λ x. t x ≡ false) xs → list_any t xs ≡ false
    all_false t [] h = refl
    all_false t (x ∷ xs) h = rw h.0 (all_false t xs h.1)

pub all_append : {X : Type 0} (P : X → Type 0) (xs ys : List X) → AllByRecursion P xs → AllByRecursion P ys → AllByRecursion P (xs ++ ys)
all_append P [] ys a b = b
all_append P (x ∷ xs) ys a b = (a.0, all_append P xs ys a.1 b)

and_false : (b : Bool) → (b && false) ≡ false
and_false true = refl
and_false false = refl

and_true : (b : Bool) → (b && true) ≡ b
and_true true = refl
and_true false = refl

numbered_some : (ns : List ℕ) (rs : List Record) → length ns ≡ length rs → 0 < length rs → 0 < length (numbered ns rs)
numbered_some [] rs h l = absurd (omega arith)
numbered_some (n ∷ ns) [] h l = absurd (omega arith)
numbered_some (n ∷ ns) (r ∷ rs) h l = omega arith

module _ (origin name : List (List ℕ)) (name_in : is_at_or_below name origin ≡ true) where
  abbrev test : Record → Bool
  test = is_at_or_under name

  -- the records of a set are at the name or below it where its key begins so
  record_is : (key : List ℕ) (kind : ℕ) (r : Record) → Belongs origin key kind r → test r ≡ starts_with eqb key (key_of origin name)
  record_is key kind r h =
      let k = below_keys origin r.name name h.within name_in in
      let d = starts-Decides (key_of origin r.name) (key_of origin name) in
      sym (is_at_or_below-is (starts_with eqb (key_of origin r.name) (key_of origin name)) r.name name (λ t. k.1 (d.0 t), λ b. d.1 (k.0 b))) ∙ ap (λ (z : List ℕ). starts_with eqb z (key_of origin name)) h.under

  sets_all : (key : List ℕ) (ss : List RecordSet) → AllByRecursion (IsSet origin key) ss → AllByRecursion (λ x. of_plain test x ≡ starts_with eqb key (key_of origin name)) (in_sets ss)
  sets_all key [] h = tt
  sets_all key (s ∷ ss) h =
      all_append (λ x. of_plain test x ≡ starts_with eqb key (key_of origin name)) (in_set s) (in_sets ss)
      (numbered_all (λ r. test r ≡ starts_with eqb key (key_of origin name)) s.numbers s.records (all_to (Belongs origin key s.rtype) (λ r. test r ≡ starts_with eqb key (key_of origin name)) (λ r p. record_is key s.rtype r p) s.records h.0.belong))
      (sets_all key ss h.1)

  sets_some : (key : List ℕ) (ss : List RecordSet) → AllByRecursion (IsSet origin key) ss → 0 < length ss → 0 < length (in_sets ss)
  sets_some key [] h l = absurd (omega arith)
  sets_some key (s ∷ ss) h l = let some = numbered_some s.numbers s.records h.0.paired h.0.filled in omega (arith, length-append (in_set s) (in_sets ss))

  sets_any : (key : List ℕ) (ss : List RecordSet) → AllByRecursion (IsSet origin key) ss → list_any (of_plain test) (in_sets ss) ≡ (starts_with eqb key (key_of origin name) && are_some ss)
  sets_any key [] h = sym (and_false (starts_with eqb key (key_of origin name)))
  sets_any key (s ∷ ss) h = any_const (of_plain test) (starts_with eqb key (key_of origin name)) (in_sets (s ∷ ss)) (sets_all key (s ∷ ss) h) (sets_some key (s ∷ ss) h (omega arith)) ∙ sym (and_true (starts_with eqb key (key_of origin name)))

  entries_any : (es : List (Vec ℕ Global × List RecordSet)) → AreEntries origin es → list_any (of_plain test) (in_entries es) ≡ list_any (λ e. starts_with eqb e.0.items (key_of origin name) && are_some e.1) es
  entries_any [] h = refl
  entries_any (e ∷ es) h =
      list_any-append (of_plain test) (in_sets e.1) (in_entries es) ∙ rw (sets_any e.0.items e.1 h.0.each) (ap (λ b. (starts_with eqb e.0.items (key_of origin name) && are_some e.1) || b) (entries_any es h.1))

-- a name exists where a key of the map begins with its own, at which there are sets
pub exists_is : (origin name : List (List ℕ)) → is_at_or_below name origin ≡ true → (es : List (Vec ℕ Global × List RecordSet)) → AreEntries origin es → exists (list_of (in_entries es)) name ≡ list_any (λ e. starts_with eqb e.0.items (key_of origin name) && are_some e.1) es
exists_is origin name within es h = any_list (is_at_or_under name) (in_entries es) ∙ entries_any origin name within es h

-- the same of a zone that is seen as its list
pub exists_at : (origin name : List (List ℕ)) (key : List ℕ) (es : List (Vec ℕ Global × List RecordSet)) (zone : Contents) (b : Bool) → record { origin = origin; records = list_of (in_entries es) } ≡ zone → is_at_or_below name zone.origin ≡ true → key ≡ key_of zone.origin name
    → AreEntries origin es → b ≡ list_any (λ e. starts_with eqb e.0.items key && are_some e.1) es → b ≡ exists zone.records name
exists_at origin name key es zone b view within is h begun =
    let o : zone.origin ≡ origin = sym (ap (λ z. z.origin) view) in
    let e : zone.records ≡ list_of (in_entries es) = sym (ap (λ z. z.records) view) in
    let l = exists_is origin name (rw o at within) es h in
    let k : key ≡ key_of origin name = rw o at is in
    rw (begun, k, e) (sym l)
