-- The way from the origin of a zone down to a name.
use Rattle.std.specs.Prelude.{◌≡◌, ℕ, ◌+◌, ◌-◌, ◌<◌, ◌≤◌, List, true, length, drop, Vec}
use Rattle.std.specs.Map.{lookup}
use Rattle.std.specs.declared.alloc.Global.{Global}
use Rattle.dns_name.specs.Name.{is_at_or_below}
use Rattle.dns_wire.specs.declared.record.Record.{Record}
use Rattle.dns_zone_map.specs.declared.sets.RecordSet.{RecordSet}
use Rattle.dns_zone_map.specs.declared.presence.Presence.{Presence}
use Rattle.dns_zone_map.specs.Keys.{key_of}
use Rattle.dns_zone_map.specs.Presence.{IsPresence, IsPresenceAt, is_begun}
use Rattle.dns_zone_map.specs.Removal.{is_key}
use Rattle.dns_zone_map.specs.Sets.{sets_or_none}
use Rattle.dns_zone_map.specs.Table.{first_label, HasWholeLabel}

-- the records of a zone, and a name of it to which the way leads, with so many labels left to it: it stands at the name without these
pub record Way : Type 0 where
  pub origin : List (List ℕ)
  pub records : List Record
  pub name : List (List ℕ)
  pub left : ℕ

-- one label farther down
abbrev pub down : Way → Way
down w = record { origin = w.origin; records = w.records; name = w.name; left = w.left - 1 }

-- of the keys with this first label, one tree has what all have
pub record HasAllBehind (label : List ℕ) (tree all : List (Vec ℕ Global × List RecordSet)) : Type 0 where
  pub sets : (key : List ℕ) → first_label key ≡ label → sets_or_none (lookup (is_key key) tree) ≡ sets_or_none (lookup (is_key key) all)
  pub begun : (key : List ℕ) → HasWholeLabel key → 0 < length key → first_label key ≡ label → is_begun tree key ≡ is_begun all key

-- what a tree has at the key of a name with this first label below the origin, the zone has at the name
abbrev pub Tells : List (List ℕ) → List Record → List ℕ → List (Vec ℕ Global × List RecordSet) → Type 0
Tells origin records label tree =
    (name : List (List ℕ)) (key : List ℕ) (found : Presence) → is_at_or_below name origin ≡ true → key ≡ key_of origin name → 0 < length key → first_label key ≡ label
    → IsPresenceAt tree key found → IsPresence records name found

-- a way by a tree and by the key of the name, whose bytes before one place are the key of the name at which it stands, and before another that of
-- the name above
pub record IsWay (origin : List (List ℕ)) (records : List Record) (name : List (List ℕ)) (key : List ℕ) (tree : List (Vec ℕ Global × List RecordSet)) (end above left : ℕ) : Type 0 where
  pub within : is_at_or_below name origin ≡ true
  pub labels : length origin + left ≤ length name
  pub is : key ≡ key_of origin name
  pub short : length key ≤ 255
  pub here : end ≡ length (key_of origin (drop left name))
  pub over : length origin + left < length name → above ≡ length (key_of origin (drop (left + 1) name))
  pub tells : Tells origin records (first_label key) tree
