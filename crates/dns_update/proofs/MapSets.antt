-- What a test of a zone's records comes to on the sets of its map.
use Rattle.std.proofs.Common.{◌≡◌, ℕ, List, [], ◌∷◌, refl, sym, ap, ◌∙◌, subst, Bool, true, false}
use Rattle.std.specs.Prelude.{filter, not, ◌==◌, ◌&&◌, ◌||◌, if◌then◌else◌, Option, Some, None, option_map}
use Rattle.std.specs.Option.{is_some}
use Rattle.std.specs.List.{list_any}
use Rattle.std.proofs.lemmas.Bool.Decides.{Decides-eqb}
use Rattle.dns_name.specs.Name.{fold_of, is_same_name}
use Rattle.dns_name.proofs.SameNames.{is_same_name-Decides}
use Rattle.dns_wire.specs.declared.record.Record.{Record}
use Rattle.dns_zone_map.specs.declared.sets.RecordSet.{RecordSet}
use Rattle.dns_zone_map.specs.SameData.{data_eq}
use Rattle.dns_zone_map.specs.Zone.{is_in_set, set_of, is_equal}
use Rattle.dns_zone_map.specs.Sets.{set_in, records_in, some_of, AreSetsOf}
use Rattle.dns_zone_map.specs.Existence.{owns_type}
use Rattle.dns_zone_map.specs.Changes.{bears, is_kept_type, is_taken_with_name, is_taken_with_set}
use Rattle.dns_update.specs.Change.{bears_other, is_same_record, is_taken_by_none}
use Rattle.dns_update.proofs.SameRecords.{both_of, is_same_record-Decides}
use Rattle.dns_update.proofs.Owned.{some_any}

-- the set that was found is the set, and where none was found there is none
pub some_is : (set xs : List Record) → Some set ≡ some_of xs → set ≡ xs
some_is set [] e = absurd cc
some_is set (x ∷ xs) e = let same : set ≡ x ∷ xs = cc in same

pub none_is : (xs : List Record) → None ≡ some_of xs → xs ≡ []
none_is [] e = refl
none_is (x ∷ xs) e = absurd cc

-- tests that agree
pub any_same : {X : Type 0} (p q : X → Bool) → ((s : X) → p s ≡ q s) → (xs : List X) → list_any p xs ≡ list_any q xs
any_same p q h [] = refl
any_same p q h (s ∷ xs) = rw (h s, any_same p q h xs) refl

-- a test that passes only in a set
any_if : (b : Bool) (p q : Record → Bool) (s : Record) (xs : List Record) → q s ≡ b → (p s ≡ true → q s ≡ true) → list_any p xs ≡ list_any p (filter q xs)
    → (p s || list_any p xs) ≡ list_any p (if b then s ∷ filter q xs else filter q xs)
any_if true p q s xs e h ih = ap (λ rest. p s || rest) ih
any_if false p q s xs e h ih = fails (p s) refl
  where
    fails : (a : Bool) → p s ≡ a → (a || list_any p xs) ≡ list_any p (filter q xs)
    fails true f = let g = h f in absurd cc
    fails false f = ih

any_filter : (p q : Record → Bool) → ((s : Record) → p s ≡ true → q s ≡ true) → (xs : List Record) → list_any p xs ≡ list_any p (filter q xs)
any_filter p q h [] = refl
any_filter p q h (s ∷ xs) = any_if (q s) p q s xs refl (h s) (any_filter p q h xs)

module _ (p : Record → Bool) (records : List Record) (name : List (List ℕ)) (rtype : ℕ) (within : (s : Record) → p s ≡ true → is_in_set name rtype s ≡ true) where
  pub some_set : (set : List Record) → Some set ≡ some_of (set_of records name rtype) → list_any p set ≡ list_any p records
  some_set set e = ap (list_any p) (some_is set (set_of records name rtype) e) ∙ sym (any_filter p (is_in_set name rtype) within records)

  pub no_set : None ≡ some_of (set_of records name rtype) → false ≡ list_any p records
  no_set e = sym (any_filter p (is_in_set name rtype) within records ∙ ap (list_any p) (none_is (set_of records name rtype) e))

-- records that are equal are in one set
in_set : (r s : Record) → (r.rtype == s.rtype) ≡ true → is_same_name r.name s.name ≡ true → is_in_set r.name r.rtype s ≡ true
in_set r s type name =
    let same : r.rtype ≡ s.rtype = (Decides-eqb r.rtype s.rtype).0 type in
    let number : (s.rtype == r.rtype) ≡ true = (Decides-eqb s.rtype r.rtype).1 (sym same) in
    let there : is_same_name s.name r.name ≡ true = (is_same_name-Decides s.name r.name).1 (sym ((is_same_name-Decides r.name s.name).0 name)) in
    rw (number, there) refl

pub same_in_set : (r s : Record) → is_same_record r s ≡ true → is_in_set r.name r.rtype s ≡ true
same_in_set r s passed =
    let same : r ≡ s = (is_same_record-Decides r s).0 passed in
    subst (λ (x : Record). is_in_set r.name r.rtype x ≡ true) same (in_set r r ((Decides-eqb r.rtype r.rtype).1 refl) ((is_same_name-Decides r.name r.name).1 refl))

pub taken_in_set : (origin : List (List ℕ)) (count : ℕ) (r s : Record) → is_taken_by_none origin count r s ≡ true → is_in_set r.name r.rtype s ≡ true
taken_in_set origin count r s passed =
    let equal = both_of (is_equal r s) _ passed in
    let parts = both_of (r.rtype == s.rtype) (is_same_name r.name s.name && data_eq r.rdata s.rdata) equal.0 in
    in_set r s parts.0 (both_of (is_same_name r.name s.name) (data_eq r.rdata s.rdata) parts.1).0

-- a test of the types that a name owns
module _ (g : ℕ → Bool) (name : List (List ℕ)) where
  abbrev of_type : Record → Bool
  of_type s = bears name s && g s.rtype

  abbrev of_set : RecordSet → Bool
  of_set set = g set.rtype

  first_passes : (type same : Bool) (s : Record) (rtype : ℕ) (b : Bool) → (s.rtype == rtype) ≡ type → is_same_name s.name name ≡ same → g rtype ≡ true → (type && same) ≡ true → ((same && g s.rtype) || b) ≡ true
  first_passes true true s rtype b e f passes h =
      let is : s.rtype ≡ rtype = (Decides-eqb s.rtype rtype).0 e in
      rw (is, passes) refl
  first_passes true false s rtype b e f passes h = absurd cc
  first_passes false same s rtype b e f passes h = absurd cc

  rest_passes : (a b : Bool) → b ≡ true → (a || b) ≡ true
  rest_passes true b h = refl
  rest_passes false b h = h

  -- a type that passes and that the name owns
  owned_passes : (records : List Record) (rtype : ℕ) → g rtype ≡ true → owns_type records name rtype ≡ true → list_any of_type records ≡ true
  owned_passes [] rtype passes owns = absurd cc
  owned_passes (s ∷ records) rtype passes owns = by (is_in_set name rtype s) refl owns (owned_passes records rtype passes)
    where
      by : (b : Bool) → is_in_set name rtype s ≡ b → (b || owns_type records name rtype) ≡ true → (owns_type records name rtype ≡ true → list_any of_type records ≡ true) → (of_type s || list_any of_type records) ≡ true
      by true e h rest = first_passes (s.rtype == rtype) (is_same_name s.name name) s rtype (list_any of_type records) refl refl passes e
      by false e h rest = rest_passes (of_type s) (list_any of_type records) (rest h)

  set_passes : (sets : List RecordSet) (rtype : ℕ) → g rtype ≡ true → is_some (set_in rtype sets) ≡ true → list_any of_set sets ≡ true
  set_passes [] rtype passes found = absurd cc
  set_passes (t ∷ sets) rtype passes found = by (t.rtype == rtype) refl found (set_passes sets rtype passes)
    where
      by : (b : Bool) → (t.rtype == rtype) ≡ b → is_some (if b then Some t else set_in rtype sets) ≡ true → (is_some (set_in rtype sets) ≡ true → list_any of_set sets ≡ true) → (g t.rtype || list_any of_set sets) ≡ true
      by true e h rest =
          let is : t.rtype ≡ rtype = (Decides-eqb t.rtype rtype).0 e in
          rw (is, passes) refl
      by false e h rest = rest_passes (g t.rtype) (list_any of_set sets) (rest h)

  -- where a test passes there is a type that does
  owned_of : (records : List Record) → list_any of_type records ≡ true → (rtype : ℕ) × (g rtype ≡ true) × (owns_type records name rtype ≡ true)
  owned_of [] h = absurd cc
  owned_of (s ∷ records) h = by (of_type s) refl h (owned_of records)
    where
      by : (b : Bool) → of_type s ≡ b → (b || list_any of_type records) ≡ true → (list_any of_type records ≡ true → (rtype : ℕ) × (g rtype ≡ true) × (owns_type records name rtype ≡ true))
          → (rtype : ℕ) × (g rtype ≡ true) × (owns_type (s ∷ records) name rtype ≡ true)
      by true e h rest =
          let parts = both_of (is_same_name s.name name) (g s.rtype) e in
          let number : (s.rtype == s.rtype) ≡ true = (Decides-eqb s.rtype s.rtype).1 refl in
          (s.rtype, parts.1, rw (number, parts.0) refl)
      by false e h rest = let r = rest h in (r.0, r.1, rest_passes (is_in_set name r.0 s) (owns_type records name r.0) r.2)

  set_of_type : (sets : List RecordSet) → list_any of_set sets ≡ true → (rtype : ℕ) × (g rtype ≡ true) × (is_some (set_in rtype sets) ≡ true)
  set_of_type [] h = absurd cc
  set_of_type (t ∷ sets) h = by (g t.rtype) refl h (set_of_type sets)
    where
      found : (b : Bool) (o : Option RecordSet) → is_some o ≡ true → is_some (if b then Some t else o) ≡ true
      found true o h = refl
      found false o h = h

      by : (b : Bool) → g t.rtype ≡ b → (b || list_any of_set sets) ≡ true → (list_any of_set sets ≡ true → (rtype : ℕ) × (g rtype ≡ true) × (is_some (set_in rtype sets) ≡ true))
          → (rtype : ℕ) × (g rtype ≡ true) × (is_some (set_in rtype (t ∷ sets)) ≡ true)
      by true e h rest =
          let number : (t.rtype == t.rtype) ≡ true = (Decides-eqb t.rtype t.rtype).1 refl in
          (t.rtype, e, rw number refl)
      by false e h rest = let r = rest h in (r.0, r.1, found (t.rtype == r.0) (set_in r.0 sets) r.2)

  same_if : (a b : Bool) → (a ≡ true → b ≡ true) → (b ≡ true → a ≡ true) → a ≡ b
  same_if true b f g = sym (f refl)
  same_if false true f g = g refl
  same_if false false f g = refl

  owns_sets : (records : List Record) (sets : List RecordSet) (rtype : ℕ) → AreSetsOf records name sets → owns_type records name rtype ≡ is_some (set_in rtype sets)
  owns_sets records sets rtype are = sym (some_any (is_in_set name rtype) records) ∙ ap is_some (are.each rtype) ∙ mapped (set_in rtype sets)
    where
      mapped : (o : Option RecordSet) → is_some (option_map records_in o) ≡ is_some o
      mapped None = refl
      mapped (Some t) = refl

  pub any_types : (records : List Record) (sets : List RecordSet) → AreSetsOf records name sets → list_any of_set sets ≡ list_any of_type records
  any_types records sets are =
      same_if (list_any of_set sets) (list_any of_type records)
      (λ h. let t = set_of_type sets h in owned_passes records t.0 t.1 (owns_sets records sets t.0 are ∙ t.2))
      (λ h. let t = owned_of records h in set_passes sets t.0 t.1 (sym (owns_sets records sets t.0 are) ∙ t.2))

-- what the origin keeps of a name is kept where the name is the origin's
home_if : (named : Bool) (origin name : List (List ℕ)) (s : Record) (kept : Bool) → is_same_name s.name name ≡ named
    → (named && not (is_same_name s.name origin && kept)) ≡ (named && not (is_same_name name origin && kept))
home_if true origin name s kept e =
    let same : fold_of s.name ≡ fold_of name = (is_same_name-Decides s.name name).0 e in
    rw same refl
home_if false origin name s kept e = refl

pub taken_named : (origin name : List (List ℕ)) (s : Record) → is_taken_with_name origin name s ≡ (bears name s && not (is_same_name name origin && is_kept_type s.rtype))
taken_named origin name s = home_if (is_same_name s.name name) origin name s (is_kept_type s.rtype) refl

set_if : (type named : Bool) (origin name : List (List ℕ)) (rtype : ℕ) (s : Record) → (s.rtype == rtype) ≡ type → is_same_name s.name name ≡ named
    → ((type && named) && not (is_same_name s.name origin && is_kept_type s.rtype)) ≡ ((type && named) && not (is_same_name name origin && is_kept_type rtype))
set_if true true origin name rtype s e f =
    let type : s.rtype ≡ rtype = (Decides-eqb s.rtype rtype).0 e in
    let same : fold_of s.name ≡ fold_of name = (is_same_name-Decides s.name name).0 f in
    rw (type, same) refl
set_if true false origin name rtype s e f = refl
set_if false named origin name rtype s e f = refl

taken_set : (origin name : List (List ℕ)) (rtype : ℕ) (s : Record) → is_taken_with_set origin name rtype s ≡ (is_in_set name rtype s && not (is_same_name name origin && is_kept_type rtype))
taken_set origin name rtype s = set_if (s.rtype == rtype) (is_same_name s.name name) origin name rtype s refl refl

and_true : (a : Bool) → (a && true) ≡ a
and_true true = refl
and_true false = refl

none_any : {X : Type 0} (p : X → Bool) → ((s : X) → p s ≡ false) → (xs : List X) → list_any p xs ≡ false
none_any p h [] = refl
none_any p h (s ∷ xs) = rw (h s, none_any p h xs) refl

and_false : (a : Bool) → (a && false) ≡ false
and_false true = refl
and_false false = refl

pub kept_set : (origin name : List (List ℕ)) (rtype : ℕ) (records : List Record) → (is_same_name name origin && is_kept_type rtype) ≡ true → false ≡ list_any (is_taken_with_set origin name rtype) records
kept_set origin name rtype records kept =
    sym (none_any (is_taken_with_set origin name rtype) (λ s. taken_set origin name rtype s ∙ ap (λ k. is_in_set name rtype s && not k) kept ∙ and_false (is_in_set name rtype s)) records)

pub free_set : (origin name : List (List ℕ)) (rtype : ℕ) (records : List Record) → (is_same_name name origin && is_kept_type rtype) ≡ false → owns_type records name rtype ≡ list_any (is_taken_with_set origin name rtype) records
free_set origin name rtype records free =
    any_same (is_in_set name rtype) (is_taken_with_set origin name rtype)
    (λ s. sym (taken_set origin name rtype s ∙ ap (λ k. is_in_set name rtype s && not k) free ∙ and_true (is_in_set name rtype s))) records

-- whether a name owns another type than CNAME, by its sets
pub other_sets : (records : List Record) (written name : List (List ℕ)) (sets : List RecordSet) → written ≡ name → AreSetsOf records written sets
    → list_any (λ set. not (set.rtype == 5)) sets ≡ list_any (bears_other name) records
other_sets records written name sets same are = any_types (λ t. not (t == 5)) name records sets (subst (λ n. AreSetsOf records n sets) same are)

-- whether a deletion of a name takes a record, by its sets
pub named_sets : (origin : List (List ℕ)) (records : List Record) (written name : List (List ℕ)) (sets : List RecordSet) (keeps : Bool) → written ≡ name → keeps ≡ is_same_name name origin → AreSetsOf records written sets
    → list_any (λ set. not (keeps && is_kept_type set.rtype)) sets ≡ list_any (is_taken_with_name origin name) records
named_sets origin records written name sets keeps same is are =
    let free : ℕ → Bool = λ t. not (is_same_name name origin && is_kept_type t) in
    ap (λ k. list_any (λ set. not (k && is_kept_type set.rtype)) sets) is
    ∙ any_types free name records sets (subst (λ n. AreSetsOf records n sets) same are)
    ∙ any_same (λ s. bears name s && free s.rtype) (is_taken_with_name origin name) (λ s. sym (taken_named origin name s)) records
