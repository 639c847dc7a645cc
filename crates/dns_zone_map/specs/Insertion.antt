-- A record that is put among the sets of a name, and the name's sets into the map.
use Rattle.std.specs.Prelude.{◌≡◌, ◌⊎◌, ℕ, ◌<◌, ◌≤◌, List, [], ◌∷◌, ◌++◌, length, take, drop, slice_index_or, false, if◌then◌else◌, Option, None, Vec}
use Rattle.std.specs.List.{AllByRecursion, list_any}
use Rattle.std.specs.Str.{bytes_eq}
use Rattle.std.specs.declared.alloc.Global.{Global}
use Rattle.dns_wire.specs.declared.record.Record.{Record}
use Rattle.dns_zone_map.specs.declared.sets.RecordSet.{RecordSet}
use Rattle.dns_zone_map.specs.Zone.{is_rival}
use Rattle.dns_zone_map.specs.Changes.{put_over, first_that}

-- a set with the record in the place of its rival, or at the end with the number
abbrev pub put_in_set : ℕ → Record → RecordSet → RecordSet
put_in_set number one s =
    if list_any (is_rival one) s.records then record { rtype = s.rtype; records = put_over (is_rival one) one s.records; numbers = s.numbers }
    else record { rtype = s.rtype; records = s.records ++ one ∷ []; numbers = s.numbers ++ number ∷ [] }

-- the set of the record alone
abbrev pub new_set : ℕ → Record → RecordSet
new_set number one = record { rtype = one.rtype; records = one ∷ []; numbers = number ∷ [] }

-- the set of a type stands at a place
pub record StandsAt (rtype : ℕ) (sets : List RecordSet) (place : ℕ) : Type 0 where
  pub lower : AllByRecursion (λ s. s.rtype < rtype) (take place sets)
  pub within : place < length sets
  pub typed : (d : RecordSet) → (slice_index_or sets place d).rtype ≡ rtype

-- no set is of the type, and one of the type would stand at a place
pub record ComesAt (rtype : ℕ) (sets : List RecordSet) (place : ℕ) : Type 0 where
  pub lower : AllByRecursion (λ s. s.rtype < rtype) (take place sets)
  pub within : place ≤ length sets
  pub upper : AllByRecursion (λ s. rtype < s.rtype) (drop place sets)

-- the record was put into the set of its type
pub record IntoSet (number : ℕ) (one : Record) (before after : List RecordSet) (old : Option Record) : Type 0 where
  pub front : List RecordSet
  pub set : RecordSet
  pub back : List RecordSet
  pub was : before ≡ front ++ set ∷ back
  pub typed : set.rtype ≡ one.rtype
  pub is : after ≡ front ++ put_in_set number one set ∷ back
  pub replaced : old ≡ first_that (is_rival one) set.records

-- or into a new set
pub record IntoNewSet (number : ℕ) (one : Record) (before after : List RecordSet) (old : Option Record) : Type 0 where
  pub front : List RecordSet
  pub back : List RecordSet
  pub was : before ≡ front ++ back
  pub lower : AllByRecursion (λ s. s.rtype < one.rtype) front
  pub upper : AllByRecursion (λ s. one.rtype < s.rtype) back
  pub is : after ≡ front ++ new_set number one ∷ back
  pub replaced : old ≡ None

abbrev pub PutInSets : ℕ → Record → List RecordSet → List RecordSet → Option Record → Type 0
PutInSets number one before after old = IntoSet number one before after old ⊎ IntoNewSet number one before after old

-- the record was put among the sets of its name
pub record UnderName (key : List ℕ) (number : ℕ) (one : Record) (before after : List (Vec ℕ Global × List RecordSet)) (old : Option Record) : Type 0 where
  pub front : List (Vec ℕ Global × List RecordSet)
  pub stored : Vec ℕ Global
  pub sets : List RecordSet
  pub changed : List RecordSet
  pub back : List (Vec ℕ Global × List RecordSet)
  pub was : before ≡ front ++ (stored, sets) ∷ back
  pub keyed : stored.items ≡ key
  pub is : after ≡ front ++ (stored, changed) ∷ back
  pub put : PutInSets number one sets changed old

-- or its name is new
pub record UnderNewName (key : List ℕ) (number : ℕ) (one : Record) (before after : List (Vec ℕ Global × List RecordSet)) (old : Option Record) : Type 0 where
  pub front : List (Vec ℕ Global × List RecordSet)
  pub stored : Vec ℕ Global
  pub back : List (Vec ℕ Global × List RecordSet)
  pub was : before ≡ front ++ back
  pub absent : AllByRecursion (λ e. bytes_eq key e.0.items ≡ false) before
  pub keyed : stored.items ≡ key
  pub is : after ≡ front ++ (stored, new_set number one ∷ []) ∷ back
  pub replaced : old ≡ None

abbrev pub PutUnder : List ℕ → ℕ → Record → List (Vec ℕ Global × List RecordSet) → List (Vec ℕ Global × List RecordSet) → Option Record → Type 0
PutUnder key number one before after old = UnderName key number one before after old ⊎ UnderNewName key number one before after old

-- a name with its sets was added among the others
pub record IsAdded (key : List ℕ) (sets : List RecordSet) (before after : List (Vec ℕ Global × List RecordSet)) : Type 0 where
  pub front : List (Vec ℕ Global × List RecordSet)
  pub stored : Vec ℕ Global
  pub back : List (Vec ℕ Global × List RecordSet)
  pub was : before ≡ front ++ back
  pub keyed : stored.items ≡ key
  pub is : after ≡ front ++ (stored, sets) ∷ back
