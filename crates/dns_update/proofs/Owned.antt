-- What the sets of a name tell of the records that it owns.
use Rattle.std.proofs.Common.{◌≡◌, ℕ, Bor, ◌<◌, List, [], ◌∷◌, length, refl, sym, ap, ◌∙◌, subst, arith, Bool, true, false}
use Rattle.std.specs.Prelude.{filter, ◌==◌, ◌&&◌, ◌||◌, if◌then◌else◌, Option, Some, None, IfSome, option_map}
use Rattle.std.specs.Option.{option_copied, is_some}
use Rattle.std.specs.List.{list_any}
use Rattle.std.proofs.lemmas.Bool.Decides.{Decides-eqb}
use Rattle.dns_name.specs.Name.{is_same_name}
use Rattle.dns_wire.specs.declared.record.Record.{Record}
use Rattle.dns_zone_map.specs.declared.sets.RecordSet.{RecordSet}
use Rattle.dns_zone_map.specs.Zone.{is_in_set}
use Rattle.dns_zone_map.specs.Sets.{set_in, records_in, some_of, sets_or_none, AreSetsOf}
use Rattle.dns_zone_map.specs.Existence.{owns_type}
use Rattle.dns_update.specs.Verdict.{is_in_use}

-- a filter is empty exactly where no test passes
some_if : (b : Bool) (t : Record → Bool) (s : Record) (records : List Record) → is_some (some_of (filter t records)) ≡ list_any t records
    → is_some (some_of (if b then s ∷ filter t records else filter t records)) ≡ (b || list_any t records)
some_if true t s records ih = refl
some_if false t s records ih = ih

pub some_any : (t : Record → Bool) (records : List Record) → is_some (some_of (filter t records)) ≡ list_any t records
some_any t [] = refl
some_any t (s ∷ records) = some_if (t s) t s records (some_any t records)

-- a name that owns records of a type is in use
in_use_if : (rtype same : Bool) (a b : Bool) → (rtype && same) ≡ true → (same || b) ≡ true
in_use_if true true a b h = refl
in_use_if true false a b h = absurd cc
in_use_if false same a b h = absurd cc

either : (a b : Bool) → b ≡ true → (a || b) ≡ true
either true b h = refl
either false b h = h

type_in_use : (name : List (List ℕ)) (rtype : ℕ) (records : List Record) → owns_type records name rtype ≡ true → is_in_use records name ≡ true
type_in_use name rtype [] h = absurd cc
type_in_use name rtype (s ∷ records) h = by (is_in_set name rtype s) refl h (type_in_use name rtype records)
  where
    by : (b : Bool) → is_in_set name rtype s ≡ b → (b || owns_type records name rtype) ≡ true → (owns_type records name rtype ≡ true → is_in_use records name ≡ true) → (is_same_name s.name name || is_in_use records name) ≡ true
    by true e h rest = in_use_if (s.rtype == rtype) (is_same_name s.name name) true (is_in_use records name) e
    by false e h rest = either (is_same_name s.name name) (is_in_use records name) (rest h)

-- a name that owns records of no type is not
own_type : (name : List (List ℕ)) (s : Record) (records : List Record) → is_same_name s.name name ≡ true → owns_type (s ∷ records) name s.rtype ≡ true
own_type name s records same =
    let number : (s.rtype == s.rtype) ≡ true = (Decides-eqb s.rtype s.rtype).1 refl in
    rw (number, same) refl

rest_type : (name : List (List ℕ)) (rtype : ℕ) (s : Record) (records : List Record) → owns_type (s ∷ records) name rtype ≡ false → owns_type records name rtype ≡ false
rest_type name rtype s records h = rest (is_in_set name rtype s) (owns_type records name rtype) h
  where
    rest : (a b : Bool) → (a || b) ≡ false → b ≡ false
    rest true b h = absurd cc
    rest false b h = h

no_type_unused : (name : List (List ℕ)) (records : List Record) → ((rtype : ℕ) → owns_type records name rtype ≡ false) → is_in_use records name ≡ false
no_type_unused name [] none = refl
no_type_unused name (s ∷ records) none = by (is_same_name s.name name) refl (no_type_unused name records (λ rtype. rest_type name rtype s records (none rtype)))
  where
    by : (same : Bool) → is_same_name s.name name ≡ same → is_in_use records name ≡ false → (same || is_in_use records name) ≡ false
    by true e rest = let own = own_type name s records e in let none = none s.rtype in absurd cc
    by false e rest = rest

-- what is lent is there where its value is
pub some_copied : {T : Type 0} (found : Option (Bor T)) → is_some found ≡ is_some (option_copied found)
some_copied None = refl
some_copied (Some x) = refl

-- the sets of a name are there exactly where it owns records
in_use_by : (records : List Record) (name : List (List ℕ)) (sets : List RecordSet) → AreSetsOf records name sets → 0 < length sets → is_in_use records name ≡ true
in_use_by records name [] are some = absurd (omega arith)
in_use_by records name (s ∷ sets) are some =
    let here : (s.rtype == s.rtype) ≡ true = (Decides-eqb s.rtype s.rtype).1 refl in
    let first : set_in s.rtype (s ∷ sets) ≡ Some s = rw here refl in
    let owned : owns_type records name s.rtype ≡ true =
    sym (some_any (is_in_set name s.rtype) records) ∙ ap is_some (are.each s.rtype) ∙ ap (λ o. is_some (option_map records_in o)) first in
    type_in_use name s.rtype records owned

sets_in_use : (records : List Record) (name : List (List ℕ)) (found : Option (Bor (List RecordSet))) → AreSetsOf records name (sets_or_none (option_copied found)) → IfSome found (λ sets. 0 < length sets.now)
    → is_some found ≡ is_in_use records name
sets_in_use records name None are some =
    sym (no_type_unused name records (λ rtype. sym (some_any (is_in_set name rtype) records) ∙ ap is_some (are.each rtype)))
sets_in_use records name (Some sets) are some = sym (in_use_by records name sets.now are some)

pub sets_found : (records : List Record) (written name : List (List ℕ)) (found : Option (Bor (List RecordSet))) → written ≡ name → AreSetsOf records written (sets_or_none (option_copied found))
    → IfSome found (λ sets. 0 < length sets.now) → is_some found ≡ is_in_use records name
sets_found records written name found same are some = sets_in_use records name found (subst (λ n. AreSetsOf records n (sets_or_none (option_copied found))) same are) some
