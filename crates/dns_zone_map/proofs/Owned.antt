-- The sets that a name owns say what the zone's list holds of it.
use Rattle.std.proofs.Common.{◌≡◌, ℕ, ◌+◌, ◌<◌, ◌≤◌, List, [], ◌∷◌, refl, ap, ◌∙◌, arith, Bool, true, false, if◌then◌else◌, filter}
use Rattle.std.specs.Prelude.{None, Some, Option, is_some, option_map, ◌==◌, ◌||◌}
use Rattle.std.specs.List.{list_any, AllByRecursion}
use Rattle.std.proofs.lemmas.Bool.Decides.{Decides-eqb}
use Rattle.dns_wire.specs.declared.record.Record.{Record}
use Rattle.dns_zone_map.specs.declared.sets.RecordSet.{RecordSet}
use Rattle.dns_zone_map.specs.Zone.{is_in_set, set_of}
use Rattle.dns_zone_map.specs.Existence.{owns_type}
use Rattle.dns_zone_map.specs.Sets.{AreSetsOf, set_in, some_of, records_in, records_or_none, of_type}

any_if : (b : Bool) (r : Record) (rest : List Record) (any : Bool) → any ≡ is_some (some_of rest) → (b || any) ≡ is_some (some_of (if b then r ∷ rest else rest))
any_if true r rest any h = refl
any_if false r rest any h = h

-- some record passes a test where not none is left of those that do
pub any_filter : (p : Record → Bool) (records : List Record) → list_any p records ≡ is_some (some_of (filter p records))
any_filter p [] = refl
any_filter p (r ∷ records) = any_if (p r) r (filter p records) (list_any p records) (any_filter p records)

some_mapped : (found : Option RecordSet) → is_some (option_map records_in found) ≡ is_some found
some_mapped None = refl
some_mapped (Some s) = refl

-- a name owns a type where it has a set of it
pub owned_is : (records : List Record) (name : List (List ℕ)) (sets : List RecordSet) (rtype : ℕ) → AreSetsOf records name sets → owns_type records name rtype ≡ is_some (set_in rtype sets)
owned_is records name sets rtype own = any_filter (is_in_set name rtype) records ∙ ap is_some (own.each rtype) ∙ some_mapped (set_in rtype sets)

from_some : (rs : List Record) (found : Option RecordSet) → some_of rs ≡ option_map records_in found → rs ≡ records_or_none found
from_some [] None h = refl
from_some [] (Some s) h = absurd cc
from_some (r ∷ rs) None h = absurd cc
from_some (r ∷ rs) (Some s) h = cc

-- the records of a name and a type are those of the set
pub set_is : (records : List Record) (name : List (List ℕ)) (sets : List RecordSet) (rtype : ℕ) → AreSetsOf records name sets → set_of records name rtype ≡ of_type sets rtype
set_is records name sets rtype own = from_some (set_of records name rtype) (set_in rtype sets) (own.each rtype)

pub not_equal : (a b : ℕ) → (a ≡ b → ⊥) → (a == b) ≡ false
not_equal a b other = by_test (a == b) refl
  where
    by_test : (t : Bool) → (a == b) ≡ t → t ≡ false
    by_test true is = absurd (other ((Decides-eqb a b).0 is))
    by_test false is = refl

pub all_next : (a : ℕ) (sets : List RecordSet) → AllByRecursion (λ t. a < t.rtype) sets → AllByRecursion (λ t. a + 1 ≤ t.rtype) sets
all_next a [] above = tt
all_next a (s ∷ sets) above = (omega (arith, above.0), all_next a sets above.1)

-- a greater one is not that of the first
pub of_more : (rtype : ℕ) (s : RecordSet) (sets : List RecordSet) → s.rtype < rtype → of_type (s ∷ sets) rtype ≡ of_type sets rtype
of_more rtype s sets more =
    let other : (s.rtype == rtype) ≡ false = not_equal s.rtype rtype (λ same. omega (arith, more, same)) in
    rw other refl

pub of_first : (s : RecordSet) (sets : List RecordSet) → of_type (s ∷ sets) s.rtype ≡ s.records
of_first s sets =
    let same : (s.rtype == s.rtype) ≡ true = (Decides-eqb s.rtype s.rtype).1 refl in
    rw same refl

-- every type is one from 0 on
pub all_least : (sets : List RecordSet) → AllByRecursion (λ t. 0 ≤ t.rtype) sets
all_least [] = tt
all_least (s ∷ sets) = (omega arith, all_least sets)
