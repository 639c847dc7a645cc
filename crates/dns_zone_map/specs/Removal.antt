-- Records that are taken away from the map.
use Rattle.std.specs.Prelude.{◌≡◌, ℕ, Bool, true, false, ◌+◌, ◌<◌, ◌==◌, List, [], ◌∷◌, ◌++◌, filter, length, take, slice_index_or, slice_set, if◌then◌else◌, IfSome, Option, Some, None, Vec}
use Rattle.std.specs.declared.alloc.Global.{Global}
use Rattle.std.specs.List.{AllByRecursion, list_any}
use Rattle.std.specs.Option.{option_and_then}
use Rattle.std.specs.Map.{lookup}
use Rattle.std.specs.Ordering.{nat_cmp, is_eq}
use Rattle.std.specs.Cmp.Lexicographic.{slice_cmp}
use Rattle.dns_wire.specs.declared.record.Record.{Record}
use Rattle.dns_zone_map.specs.Zone.{is_equal}
use Rattle.dns_zone_map.specs.Changes.{is_kept_type}
use Rattle.dns_zone_map.specs.Sets.{set_in, in_sets}
use Rattle.dns_zone_map.specs.declared.sets.RecordSet.{RecordSet}

-- the set of a type was taken from among the sets of a name
pub record SetTaken (rtype : ℕ) (before after : List RecordSet) (set : RecordSet) : Type 0 where
  pub front : List RecordSet
  pub back : List RecordSet
  pub was : before ≡ front ++ set ∷ back
  pub typed : set.rtype ≡ rtype
  pub is : after ≡ front ++ back

-- a set is taken, if there is one
abbrev pub IsTaken : ℕ → List RecordSet → List RecordSet → Option RecordSet → Type 0
IsTaken rtype before after None = (after ≡ before) × (set_in rtype before ≡ None)
IsTaken rtype before after (Some set) = SetTaken rtype before after set

-- the test of a key
abbrev pub is_key : List ℕ → Vec ℕ Global → Bool
is_key key k = is_eq (slice_cmp nat_cmp key k.items)

-- the sets of the name with this key became others, so many of them
pub record ChangedIn (key : List ℕ) (Change : List RecordSet → List RecordSet → Type 0) (before after : List (Vec ℕ Global × List RecordSet)) (left : ℕ) : Type 0 where
  pub front : List (Vec ℕ Global × List RecordSet)
  pub stored : Vec ℕ Global
  pub sets : List RecordSet
  pub changed : List RecordSet
  pub back : List (Vec ℕ Global × List RecordSet)
  pub was : before ≡ front ++ (stored, sets) ∷ back
  pub first : AllByRecursion (λ e. is_key key e.0 ≡ false) front
  pub found : is_key key stored ≡ true
  pub is : after ≡ front ++ (stored, changed) ∷ back
  pub change : Change sets changed
  pub left_is : left ≡ length changed

-- no set of the type stands at the key
abbrev pub HasNone : List ℕ → ℕ → List (Vec ℕ Global × List RecordSet) → Type 0
HasNone key rtype entries = option_and_then (λ sets. set_in rtype sets) (lookup (is_key key) entries) ≡ None

-- the sets of the name with this key became others; the name stays, also where none are left
pub record ChangedFrom (key : List ℕ) (Change : List RecordSet → List RecordSet → Type 0) (before after : List (Vec ℕ Global × List RecordSet)) : Type 0 where
  pub front : List (Vec ℕ Global × List RecordSet)
  pub stored : Vec ℕ Global
  pub sets : List RecordSet
  pub changed : List RecordSet
  pub back : List (Vec ℕ Global × List RecordSet)
  pub was : before ≡ front ++ (stored, sets) ∷ back
  pub keyed : stored.items ≡ key
  pub is : after ≡ front ++ (stored, changed) ∷ back
  pub change : Change sets changed

-- the set of a type was taken from the name with this key
abbrev pub TakenFrom : List ℕ → ℕ → List (Vec ℕ Global × List RecordSet) → List (Vec ℕ Global × List RecordSet) → RecordSet → Type 0
TakenFrom key rtype before after set = ChangedFrom key (λ sets changed. SetTaken rtype sets changed set) before after

abbrev pub IsTakenFrom : List ℕ → ℕ → List (Vec ℕ Global × List RecordSet) → List (Vec ℕ Global × List RecordSet) → Option RecordSet → Type 0
IsTakenFrom key rtype before after None = (after ≡ before) × HasNone key rtype before
IsTakenFrom key rtype before after (Some set) = TakenFrom key rtype before after set

-- there is no name with this key
abbrev pub IsAbsent : List ℕ → List (Vec ℕ Global × List RecordSet) → Type 0
IsAbsent key entries = lookup (is_key key) entries ≡ None

-- all sets of a name but those of the SOA and of NS records were taken away, with so many records
pub record AreFreed (gone : ℕ) (sets changed : List RecordSet) : Type 0 where
  pub is : changed ≡ filter (λ s. is_kept_type s.rtype) sets
  pub count : gone + length (in_sets changed) ≡ length (in_sets sets)

abbrev pub IsFreedFrom : List ℕ → List (Vec ℕ Global × List RecordSet) → List (Vec ℕ Global × List RecordSet) → Option ℕ → Type 0
IsFreedFrom key before after None = (after ≡ before) × IsAbsent key before
IsFreedFrom key before after (Some gone) = ChangedFrom key (AreFreed gone) before after

-- all sets of a name were taken away
abbrev pub AreCleared : List RecordSet → List RecordSet → List RecordSet → Type 0
AreCleared taken sets changed = (sets ≡ taken) × (changed ≡ [])

abbrev pub IsClearedFrom : List ℕ → List (Vec ℕ Global × List RecordSet) → List (Vec ℕ Global × List RecordSet) → Option (List RecordSet) → Type 0
IsClearedFrom key before after None = (after ≡ before) × IsAbsent key before
IsClearedFrom key before after (Some taken) = ChangedFrom key (AreCleared taken) before after

-- the first record equal to this one stands at a place
pub record IsFirstEqual (one : Record) (records : List Record) (place : ℕ) : Type 0 where
  pub within : place < length records
  pub equal : (d : Record) → is_equal one (slice_index_or records place d) ≡ true
  pub first : AllByRecursion (λ r. is_equal one r ≡ false) (take place records)

-- the first record equal to this one was taken from a set, with its number
pub record EqualTaken (one r : Record) (before after : RecordSet) : Type 0 where
  pub front : List Record
  pub back : List Record
  pub lower : List ℕ
  pub number : ℕ
  pub upper : List ℕ
  pub was : before.records ≡ front ++ r ∷ back
  pub were : before.numbers ≡ lower ++ number ∷ upper
  pub beside : length lower ≡ length front
  pub first : AllByRecursion (λ s. is_equal one s ≡ false) front
  pub equal : is_equal one r ≡ true
  pub is : after ≡ record { rtype = before.rtype; records = front ++ back; numbers = lower ++ upper }

-- no record of a set is equal to this one
abbrev pub HasNoEqual : Record → RecordSet → Type 0
HasNoEqual one set = list_any (is_equal one) set.records ≡ false

abbrev pub IsEqualTaken : Record → RecordSet → RecordSet → Option Record → Type 0
IsEqualTaken one before after None = (after ≡ before) × HasNoEqual one before
IsEqualTaken one before after (Some r) = EqualTaken one r before after

-- the same at a place of sets
pub record EqualTakenAt (one r : Record) (place : ℕ) (before after : List RecordSet) : Type 0 where
  pub set : RecordSet
  pub changed : RecordSet
  pub here : (d : RecordSet) → slice_index_or before place d ≡ set
  pub is : after ≡ slice_set before place changed
  pub taken : EqualTaken one r set changed

abbrev pub IsEqualTakenAt : Record → ℕ → List RecordSet → List RecordSet → Option Record → Type 0
IsEqualTakenAt one place before after None = (after ≡ before) × ((d : RecordSet) → HasNoEqual one (slice_index_or before place d))
IsEqualTakenAt one place before after (Some r) = EqualTakenAt one r place before after

-- sets among which one stands, unless it is empty
abbrev pub with_set : List RecordSet → RecordSet → List RecordSet → List RecordSet
with_set front s back = if length s.records == 0 then front ++ back else front ++ s ∷ back

-- the same from among the sets of a name: a set goes with its last record
pub record OneTaken (one r : Record) (before after : List RecordSet) : Type 0 where
  pub front : List RecordSet
  pub set : RecordSet
  pub changed : RecordSet
  pub back : List RecordSet
  pub was : before ≡ front ++ set ∷ back
  pub typed : set.rtype ≡ one.rtype
  pub is : after ≡ with_set front changed back
  pub taken : EqualTaken one r set changed

abbrev pub IsOneTaken : Record → List RecordSet → List RecordSet → Option Record → Type 0
IsOneTaken one before after None = (after ≡ before) × IfSome (set_in one.rtype before) (HasNoEqual one)
IsOneTaken one before after (Some r) = OneTaken one r before after

-- the same from the name with this key
abbrev pub IsOneTakenFrom : List ℕ → Record → List (Vec ℕ Global × List RecordSet) → List (Vec ℕ Global × List RecordSet) → Option Record → Type 0
IsOneTakenFrom key one before after None = (after ≡ before) × IfSome (option_and_then (set_in one.rtype) (lookup (is_key key) before)) (HasNoEqual one)
IsOneTakenFrom key one before after (Some r) = ChangedFrom key (OneTaken one r) before after
