-- A zone as an ordered map from names to their sets, each record with its order number.
use Rattle.std.specs.Prelude.{◌≡◌, ℕ, ◌<◌, ◌≤◌, List, [], ◌∷◌, length, true, false, Vec}
use Rattle.std.specs.List.{AllByRecursion, flat_map}
use Rattle.std.specs.Str.{bytes_eq}
use Rattle.std.specs.declared.alloc.Global.{Global}
use Rattle.dns_name.specs.Name.{is_at_or_below}
use Rattle.dns_wire.specs.declared.record.Record.{Record}
use Rattle.dns_zone_map.specs.declared.sets.RecordSet.{RecordSet}
use Rattle.dns_zone_map.specs.Keys.{key_of}
use Rattle.dns_zone_map.specs.Order.{Numbered, IsRising, AreBelow}
use Rattle.dns_zone_map.specs.Sets.{TypesRise, in_sets}

-- the records of a map with their numbers
abbrev pub in_entries : List (Vec ℕ Global × List RecordSet) → List Numbered
in_entries = flat_map (λ e. in_sets e.1)

-- the record belongs into the set of this key and type
pub record Belongs (origin : List (List ℕ)) (key : List ℕ) (rtype : ℕ) (r : Record) : Type 0 where
  pub within : is_at_or_below r.name origin ≡ true
  pub under : key_of origin r.name ≡ key
  pub typed : r.rtype ≡ rtype

-- a set of a name: not empty, a number for each record, the numbers rising
pub record IsSet (origin : List (List ℕ)) (key : List ℕ) (s : RecordSet) : Type 0 where
  pub filled : 0 < length s.records
  pub paired : length s.numbers ≡ length s.records
  pub belong : AllByRecursion (Belongs origin key s.rtype) s.records
  pub rising : IsRising s.numbers

-- the sets of a name, of which there may be none: each a set, by ascending type
pub record AreSets (origin : List (List ℕ)) (key : List ℕ) (sets : List RecordSet) : Type 0 where
  pub each : AllByRecursion (IsSet origin key) sets
  pub rise : TypesRise sets

-- the entries of a zone's map
abbrev pub AreEntries : List (List ℕ) → List (Vec ℕ Global × List RecordSet) → Type 0
AreEntries origin = AllByRecursion (λ e. AreSets origin e.0.items e.1)

-- the map of a zone: its entries, a number above all of its records', and how many records there are
pub record IsTree (origin : List (List ℕ)) (entries : List (Vec ℕ Global × List RecordSet)) (next count : ℕ) : Type 0 where
  pub each : AreEntries origin entries
  pub below : AreBelow next (in_entries entries)
  pub counted : count ≡ length (in_entries entries)
  pub few : count ≤ next

-- no key stands twice
abbrev pub KeysApart : List (Vec ℕ Global × List RecordSet) → Type 0
KeysApart [] = Unit {0}
KeysApart (e ∷ es) = AllByRecursion (λ f. bytes_eq e.0.items f.0.items ≡ false) es × KeysApart es

-- the names own what they owned: only names without sets may have come or gone
pub record OwnsSame (before after : List (Vec ℕ Global × List RecordSet)) : Type 0 where
  pub same : in_entries after ≡ in_entries before
  pub each : (origin : List (List ℕ)) → AreEntries origin before → AreEntries origin after
