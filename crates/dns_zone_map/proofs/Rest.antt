-- The records of a zone that a test of one name and type leaves alone.
use Rattle.std.proofs.Common.{◌≡◌, ℕ, Bool, true, false, List, [], ◌∷◌, ◌++◌, map, refl, sym, ap, ◌∙◌, ◌==◌, if◌then◌else◌, Vec, Global}
use Rattle.std.specs.Prelude.{◌&&◌, ◌||◌, nat_lt}
use Rattle.std.specs.List.{AllByRecursion}
use Rattle.std.specs.Str.{bytes_eq}
use Rattle.std.proofs.lemmas.Bool.Decides.{Decides-eqb}
use Rattle.std.proofs.lemmas.Slice.Eq.{bytes_eq-Decides}
use Rattle.dns_name.specs.Name.{is_same_name, SameName}
use Rattle.dns_wire.specs.declared.record.Record.{Record}
use Rattle.dns_wire.specs.declared.record_type.TheConstants.{CNAME, SOA}
use Rattle.dns_zone_map.specs.declared.sets.RecordSet.{RecordSet}
use Rattle.dns_zone_map.specs.SameData.{data_eq}
use Rattle.dns_zone_map.specs.Keys.{key_of}
use Rattle.dns_zone_map.specs.Zone.{is_rival, IsEntry}
use Rattle.dns_zone_map.specs.Order.{Numbered, into, by_number, plain, list_of, of_plain}
use Rattle.dns_zone_map.specs.Sets.{in_set, in_sets}
use Rattle.dns_zone_map.specs.Tree.{in_entries, Belongs, IsSet, AreEntries}
use Rattle.dns_zone_map.proofs.Keyed.{same_keys, same_name}
use Rattle.dns_zone_map.proofs.Lent.{numbered_all}
use Rattle.dns_zone_map.proofs.Exists.{all_append}
use Rattle.dns_name.proofs.SameNames.{is_same_name-Decides}

abbrev pub Entries : Type 0
Entries = List (Vec ℕ Global × List RecordSet)

-- what holds of all of two lists
pub all_front : {X : Type 0} (P : X → Type 0) (xs ys : List X) → AllByRecursion P (xs ++ ys) → AllByRecursion P xs
all_front P [] ys h = tt
all_front P (x ∷ xs) ys h = (h.0, all_front P xs ys h.1)

pub all_back : {X : Type 0} (P : X → Type 0) (xs ys : List X) → AllByRecursion P (xs ++ ys) → AllByRecursion P ys
all_back P [] ys h = h
all_back P (x ∷ xs) ys h = all_back P xs ys h.1

unsorted_if : (P : Numbered → Type 0) (b : Bool) (x y : Numbered) (ys : List Numbered) → AllByRecursion P (if b then y ∷ into x ys else x ∷ y ∷ ys) → (AllByRecursion P (into x ys) → P x × AllByRecursion P ys) → P x × AllByRecursion P (y ∷ ys)
unsorted_if P true x y ys h ih = let m = ih h.1 in (m.0, (h.0, m.1))
unsorted_if P false x y ys h ih = (h.0, h.1)

unsorted_into : (P : Numbered → Type 0) (x : Numbered) (ys : List Numbered) → AllByRecursion P (into x ys) → P x × AllByRecursion P ys
unsorted_into P x [] h = (h.0, tt)
unsorted_into P x (y ∷ ys) h = unsorted_if P (nat_lt y.number x.number) x y ys h (unsorted_into P x ys)

unsorted : (P : Numbered → Type 0) (xs : List Numbered) → AllByRecursion P (by_number xs) → AllByRecursion P xs
unsorted P [] h = tt
unsorted P (x ∷ xs) h = let m = unsorted_into P x (by_number xs) h in (m.0, unsorted P xs m.1)

all_plain : (P : Record → Type 0) (xs : List Numbered) → AllByRecursion P (map plain xs) → AllByRecursion (λ x. P x.one) xs
all_plain P [] h = tt
all_plain P (x ∷ xs) h = (h.0, all_plain P xs h.1)

-- what holds of the records of the list holds of the numbered ones
pub all_numbered : (P : Record → Type 0) (xs : List Numbered) → AllByRecursion P (list_of xs) → AllByRecursion (λ x. P x.one) xs
all_numbered P xs h = unsorted (λ x. P x.one) xs (all_plain P (by_number xs) h)

both_to : {X : Type 0} (P Q R : X → Type 0) → ((x : X) → P x → Q x → R x) → (xs : List X) → AllByRecursion P xs → AllByRecursion Q xs → AllByRecursion R xs
both_to P Q R f [] p q = tt
both_to P Q R f (x ∷ xs) p q = (f x p.0 q.0, both_to P Q R f xs p.1 q.1)

-- the test fails at each record of the sets
abbrev pub Fails : (Record → Bool) → List Numbered → Type 0
Fails test = AllByRecursion (λ x. of_plain test x ≡ false)

-- the test fails at each record of this key and type that the zone may have
abbrev pub FailsAt : (Record → Bool) → (Record → Type 0) → List (List ℕ) → List ℕ → ℕ → Type 0
FailsAt test May origin key rtype = (r : Record) → Belongs origin key rtype r → May r → test r ≡ false

module _ (test : Record → Bool) (May : Record → Type 0) (origin : List (List ℕ)) where
  set_fails : (key : List ℕ) (s : RecordSet) → IsSet origin key s → FailsAt test May origin key s.rtype → AllByRecursion (λ x. May x.one) (in_set s) → Fails test (in_set s)
  set_fails key s is fails may =
      both_to (λ x. Belongs origin key s.rtype x.one) (λ x. May x.one) (λ x. of_plain test x ≡ false) (λ x b m. fails x.one b m) (in_set s) (numbered_all (Belongs origin key s.rtype) s.numbers s.records is.belong) may

  pub sets_fail : (key : List ℕ) (ss : List RecordSet) → AllByRecursion (IsSet origin key) ss → AllByRecursion (λ s. FailsAt test May origin key s.rtype) ss → AllByRecursion (λ x. May x.one) (in_sets ss) → Fails test (in_sets ss)
  sets_fail key [] each fails may = tt
  sets_fail key (s ∷ ss) each fails may =
      all_append (λ x. of_plain test x ≡ false) (in_set s) (in_sets ss) (set_fails key s each.0 fails.0 (all_front (λ x. May x.one) (in_set s) (in_sets ss) may)) (sets_fail key ss each.1 fails.1 (all_back (λ x. May x.one) (in_set s) (in_sets ss) may))

  any_type : (key : List ℕ) (ss : List RecordSet) → ((rtype : ℕ) → FailsAt test May origin key rtype) → AllByRecursion (λ s. FailsAt test May origin key s.rtype) ss
  any_type key [] fails = tt
  any_type key (s ∷ ss) fails = (fails s.rtype, any_type key ss fails)

  pub entries_fail : (es : Entries) → AreEntries origin es → AllByRecursion (λ e. (rtype : ℕ) → FailsAt test May origin e.0.items rtype) es → AllByRecursion (λ x. May x.one) (in_entries es) → Fails test (in_entries es)
  entries_fail [] each fails may = tt
  entries_fail (e ∷ es) each fails may =
      all_append (λ x. of_plain test x ≡ false) (in_sets e.1) (in_entries es)
      (sets_fail e.0.items e.1 each.0.each (any_type e.0.items e.1 fails.0) (all_front (λ x. May x.one) (in_sets e.1) (in_entries es) may))
      (entries_fail es each.1 fails.1 (all_back (λ x. May x.one) (in_sets e.1) (in_entries es) may))

-- a rival is of the same name and type
both : (a b : Bool) → (a && b) ≡ true → (a ≡ true) × (b ≡ true)
both true b h = (refl, h)
both false b h = absurd cc

no_true : (b : Bool) → (b ≡ true → ⊥) → b ≡ false
no_true true h = absurd (h refl)
no_true false h = refl

named_if : (soa : Bool) (origin : List (List ℕ)) (one r : Record) → (one.rtype == SOA) ≡ soa → (r.rtype == SOA) ≡ soa → IsEntry origin one → IsEntry origin r → (soa || (is_same_name one.name r.name && ((one.rtype == CNAME) || data_eq one.rdata r.rdata))) ≡ true → SameName one.name r.name
named_if true origin one r is of e f h = same_name one.name origin (e.soa is) ∙ sym (same_name r.name origin (f.soa of))
named_if false origin one r is of e f h = same_name one.name r.name (both (is_same_name one.name r.name) ((one.rtype == CNAME) || data_eq one.rdata r.rdata) h).0

rival_name : (origin : List (List ℕ)) (one r : Record) → IsEntry origin one → IsEntry origin r → is_rival one r ≡ true → (one.rtype ≡ r.rtype) × SameName one.name r.name
rival_name origin one r e f h =
    let parts = both (one.rtype == r.rtype) ((one.rtype == SOA) || (is_same_name one.name r.name && ((one.rtype == CNAME) || data_eq one.rdata r.rdata))) h in
    let typed : one.rtype ≡ r.rtype = (Decides-eqb one.rtype r.rtype).0 parts.0 in
    (typed, named_if (one.rtype == SOA) origin one r refl (ap (λ (t : ℕ). t == SOA) (sym typed)) e f parts.1)

module _ (origin : List (List ℕ)) (one : Record) (entry : IsEntry origin one) where
  -- no rival has another key
  pub other_key : (key : List ℕ) → bytes_eq (key_of origin one.name) key ≡ false → (rtype : ℕ) → FailsAt (is_rival one) (IsEntry origin) origin key rtype
  other_key key other rtype r b may =
      no_true (is_rival one r) (λ t.
      let same : SameName one.name r.name = (rival_name origin one r entry may t).1 in
      let keys : key_of origin one.name ≡ key_of origin r.name = (bytes_eq-Decides (key_of origin one.name) (key_of origin r.name)).0 (sym (same_keys origin one.name r.name entry.within b.within) ∙ same_test one.name r.name same) in
      let yes_ : bytes_eq (key_of origin one.name) key ≡ true = (bytes_eq-Decides (key_of origin one.name) key).1 (keys ∙ b.under) in
      cc)
    where
      same_test : (a b : List (List ℕ)) → SameName a b → is_same_name a b ≡ true
      same_test a b h = (is_same_name-Decides a b).1 h

  -- nor another type
  pub other_type : (key : List ℕ) (rtype : ℕ) → (one.rtype ≡ rtype → ⊥) → FailsAt (is_rival one) (IsEntry origin) origin key rtype
  other_type key rtype other r b may = no_true (is_rival one r) (λ t. other ((rival_name origin one r entry may t).0 ∙ b.typed))
