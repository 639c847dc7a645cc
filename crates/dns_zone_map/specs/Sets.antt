-- The sets of a name (RFC 2181 5).
use Rattle.std.specs.Prelude.{◌≡◌, ℕ, ◌<◌, Bool, true, false, List, [], ◌∷◌, length, ◌==◌, if◌then◌else◌, Option, Some, None, option_map}
use Rattle.std.specs.List.{AllByRecursion, flat_map}
use Rattle.dns_wire.specs.declared.record.Record.{Record}
use Rattle.dns_zone_map.specs.declared.sets.RecordSet.{RecordSet}
use Rattle.dns_zone_map.specs.Order.{Numbered, numbered}
use Rattle.dns_zone_map.specs.Zone.{set_of}

-- sets by ascending type
abbrev pub TypesRise : List RecordSet → Type 0
TypesRise [] = Unit {0}
TypesRise (s ∷ ss) = AllByRecursion (λ t. s.rtype < t.rtype) ss × TypesRise ss

-- the set of a type
abbrev pub set_in : ℕ → List RecordSet → Option RecordSet
set_in rtype [] = None
set_in rtype (s ∷ ss) = if s.rtype == rtype then Some s else set_in rtype ss

-- the records of a set
abbrev pub records_in : RecordSet → List Record
records_in s = s.records

-- the records of a set, if there is one
abbrev pub records_or_none : Option RecordSet → List Record
records_or_none None = []
records_or_none (Some s) = s.records

-- the records of all sets, in their order
abbrev pub in_all : List RecordSet → List Record
in_all = flat_map records_in

-- the records of one type
abbrev pub of_type : List RecordSet → ℕ → List Record
of_type sets rtype = records_or_none (set_in rtype sets)

-- a list that is not empty
abbrev pub some_of : List Record → Option (List Record)
some_of [] = None
some_of (r ∷ rs) = Some (r ∷ rs)

-- the sets that a name owns, or none
abbrev pub sets_or_none : Option (List RecordSet) → List RecordSet
sets_or_none None = []
sets_or_none (Some sets) = sets

-- these are the sets that a name owns: for each type that it owns the records of that type, by ascending type
pub record AreSetsOf (records : List Record) (name : List (List ℕ)) (sets : List RecordSet) : Type 0 where
  pub each : (rtype : ℕ) → some_of (set_of records name rtype) ≡ option_map records_in (set_in rtype sets)
  pub rising : TypesRise sets

-- there is a set
abbrev pub are_some : List RecordSet → Bool
are_some [] = false
are_some (s ∷ ss) = true

-- the records of sets with their numbers
abbrev pub in_set : RecordSet → List Numbered
in_set s = numbered s.numbers s.records

abbrev pub in_sets : List RecordSet → List Numbered
in_sets = flat_map in_set

-- a number for each record
abbrev pub IsPaired : RecordSet → Type 0
IsPaired s = length s.numbers ≡ length s.records

abbrev pub ArePaired : List RecordSet → Type 0
ArePaired = AllByRecursion IsPaired
