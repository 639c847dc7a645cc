-- Whether a name owns another type than one shows in its sets.
use Rattle.std.proofs.Common.{◌≡◌, ℕ, List, [], ◌∷◌, refl, sym, ◌∙◌, Bool, true, false, not, if◌then◌else◌}
use Rattle.std.specs.Prelude.{Some, Option, is_some, ◌==◌, ◌||◌, ◌&&◌}
use Rattle.std.specs.List.{list_any}
use Rattle.std.proofs.lemmas.Bool.Decides.{Decides-eqb}
use Rattle.dns_name.specs.Name.{is_same_name}
use Rattle.dns_wire.specs.declared.record.Record.{Record}
use Rattle.dns_zone_map.specs.declared.sets.RecordSet.{RecordSet}
use Rattle.dns_zone_map.specs.Zone.{is_in_set}
use Rattle.dns_zone_map.specs.Sets.{AreSetsOf, set_in}
use Rattle.dns_zone.specs.Owner.{is_of_another_type, owns_another_type, has_another_set}
use Rattle.dns_zone_map.proofs.Owned.{owned_is}

module _ (rtype : ℕ) where
  -- a type of which there is a set, other than the one
  record Other (sets : List RecordSet) : Type 0 where
    type : ℕ
    other : (type == rtype) ≡ false
    there : is_some (set_in type sets) ≡ true

  there_by : (b : Bool) (s : RecordSet) (found : Option RecordSet) → is_some found ≡ true → is_some (if b then Some s else found) ≡ true
  there_by true s found there = refl
  there_by false s found there = there

  other_by : (b : Bool) (s : RecordSet) (sets : List RecordSet) → (s.rtype == rtype) ≡ b → (has_another_set rtype sets ≡ true → Other sets) → (not b || has_another_set rtype sets) ≡ true → Other (s ∷ sets)
  other_by true s sets is later h =
      let rest = later h in
      record { type = rest.type; other = rest.other; there = there_by (s.rtype == rest.type) s (set_in rest.type sets) rest.there }
  other_by false s sets is later h =
      let same : (s.rtype == s.rtype) ≡ true = (Decides-eqb s.rtype s.rtype).1 refl in
      record { type = s.rtype; other = is; there = rw same refl }

  other_of : (sets : List RecordSet) → has_another_set rtype sets ≡ true → Other sets
  other_of [] h = absurd cc
  other_of (s ∷ sets) h = other_by (s.rtype == rtype) s sets refl (other_of sets) h

  not_by : (b : Bool) (any : Bool) → b ≡ false → (not b || any) ≡ true
  not_by false any is = refl
  not_by true any is = absurd cc

  later_by : (b any : Bool) → any ≡ true → (b || any) ≡ true
  later_by true any h = refl
  later_by false any h = h

  -- where there is a set of another type there is one
  set_by : (b : Bool) (type : ℕ) (s : RecordSet) (sets : List RecordSet) → (s.rtype == type) ≡ b → (type == rtype) ≡ false → (is_some (set_in type sets) ≡ true → has_another_set rtype sets ≡ true)
      → is_some (if b then Some s else set_in type sets) ≡ true → has_another_set rtype (s ∷ sets) ≡ true
  set_by true type s sets is other later h =
      let same : s.rtype ≡ type = (Decides-eqb s.rtype type).0 is in
      not_by (s.rtype == rtype) (has_another_set rtype sets) (rw same other)
  set_by false type s sets is other later h = later_by (not (s.rtype == rtype)) (has_another_set rtype sets) (later h)

  set_of_other : (type : ℕ) (sets : List RecordSet) → (type == rtype) ≡ false → is_some (set_in type sets) ≡ true → has_another_set rtype sets ≡ true
  set_of_other type [] other h = absurd cc
  set_of_other type (s ∷ sets) other h = set_by (s.rtype == type) type s sets refl other (set_of_other type sets other) h

  module _ (name : List (List ℕ)) where
    -- a record of the name and another type is of another type
    one_by : (type : ℕ) (r : Record) → (type == rtype) ≡ false → is_in_set name type r ≡ true → is_of_another_type name rtype r ≡ true
    one_by type r other h = by_test (r.rtype == type) refl h
      where
        by_test : (b : Bool) → (r.rtype == type) ≡ b → (b && is_same_name r.name name) ≡ true → is_of_another_type name rtype r ≡ true
        by_test true is named =
            let same : r.rtype ≡ type = (Decides-eqb r.rtype type).0 is in
            rw (same, other) named
        by_test false is named = absurd cc

    any_by : (a b : Bool) (any all : Bool) → (a ≡ true → b ≡ true) → (any ≡ true → all ≡ true) → (a || any) ≡ true → (b || all) ≡ true
    any_by true b any all here later h = rw (here refl) refl
    any_by false b any all here later h = later_by b all (later h)

    of_type : (type : ℕ) (records : List Record) → (type == rtype) ≡ false → list_any (is_in_set name type) records ≡ true → owns_another_type records name rtype ≡ true
    of_type type [] other h = absurd cc
    of_type type (r ∷ records) other h =
        any_by (is_in_set name type r) (is_of_another_type name rtype r) (list_any (is_in_set name type) records) (owns_another_type records name rtype)
        (one_by type r other) (of_type type records other) h

    -- a type of which the name owns a record, other than the one
    record Owned (records : List Record) : Type 0 where
      type : ℕ
      other : (type == rtype) ≡ false
      there : list_any (is_in_set name type) records ≡ true

    owned_by : (here other : Bool) (r : Record) (records : List Record) → (r.rtype == rtype) ≡ here → is_same_name r.name name ≡ other → (owns_another_type records name rtype ≡ true → Owned records)
        → ((not here && other) || owns_another_type records name rtype) ≡ true → Owned (r ∷ records)
    owned_by true other r records is named later h =
        let rest = later h in
        record { type = rest.type; other = rest.other; there = later_by (is_in_set name rest.type r) (list_any (is_in_set name rest.type) records) rest.there }
    owned_by false false r records is named later h =
        let rest = later h in
        record { type = rest.type; other = rest.other; there = later_by (is_in_set name rest.type r) (list_any (is_in_set name rest.type) records) rest.there }
    owned_by false true r records is named later h =
        let same : (r.rtype == r.rtype) ≡ true = (Decides-eqb r.rtype r.rtype).1 refl in
        record { type = r.rtype; other = is; there = rw (same, named) refl }

    owned_of : (records : List Record) → owns_another_type records name rtype ≡ true → Owned records
    owned_of [] h = absurd cc
    owned_of (r ∷ records) h = owned_by (r.rtype == rtype) (is_same_name r.name name) r records refl refl (owned_of records) h

both_ways : (a b : Bool) → (a ≡ true → b ≡ true) → (b ≡ true → a ≡ true) → a ≡ b
both_ways true b f g = sym (f refl)
both_ways false true f g = absurd (let e : false ≡ true = g refl in cc)
both_ways false false f g = refl

-- whether the name owns another type shows in its sets
pub another_is : (records : List Record) (name : List (List ℕ)) (sets : List RecordSet) (rtype : ℕ) → AreSetsOf records name sets → has_another_set rtype sets ≡ owns_another_type records name rtype
another_is records name sets rtype own =
    both_ways (has_another_set rtype sets) (owns_another_type records name rtype)
    (λ h.
    let found = other_of rtype sets h in
    of_type rtype name found.type records found.other (owned_is records name sets found.type own ∙ found.there))
    (λ h.
    let found = owned_of rtype name records h in
    set_of_other rtype found.type sets found.other (sym (owned_is records name sets found.type own) ∙ found.there))
