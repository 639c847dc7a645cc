-- A serial that is set in the map.
use Rattle.std.specs.Prelude.{◌≡◌, ◌⊎◌, ℕ, List, ◌∷◌, ◌++◌, None, Vec}
use Rattle.std.specs.declared.alloc.Global.{Global}
use Rattle.dns_wire.specs.declared.record_type.TheConstants.{SOA}
use Rattle.dns_zone_map.specs.declared.sets.RecordSet.{RecordSet}
use Rattle.dns_zone_map.specs.Changes.{set_serial}
use Rattle.dns_zone_map.specs.Sets.{set_in}
use Rattle.dns_zone_map.specs.Removal.{ChangedIn, IsAbsent}

-- a set whose SOAs have this serial
abbrev pub serial_set : ℕ → RecordSet → RecordSet
serial_set serial s = record { rtype = s.rtype; records = set_serial serial s.records; numbers = s.numbers }

-- the set of the SOA has this serial
pub record SerialSet (serial : ℕ) (before after : List RecordSet) : Type 0 where
  pub front : List RecordSet
  pub set : RecordSet
  pub back : List RecordSet
  pub was : before ≡ front ++ set ∷ back
  pub typed : set.rtype ≡ SOA
  pub is : after ≡ front ++ serial_set serial set ∷ back

-- or there is none
abbrev pub IsSerialSet : ℕ → List RecordSet → List RecordSet → Type 0
IsSerialSet serial before after = SerialSet serial before after ⊎ ((after ≡ before) × (set_in SOA before ≡ None))

-- the same at the name with this key
abbrev pub IsSerialSetAt : List ℕ → ℕ → List (Vec ℕ Global × List RecordSet) → List (Vec ℕ Global × List RecordSet) → Type 0
IsSerialSetAt key serial before after = ((left : ℕ) × ChangedIn key (IsSerialSet serial) before after left) ⊎ ((after ≡ before) × IsAbsent key before)
