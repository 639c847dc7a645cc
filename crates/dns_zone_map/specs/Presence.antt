-- What a zone has at a name (RFC 4592 2.2).
use Rattle.std.specs.Prelude.{◌≡◌, ◌<◌, ◌&&◌, ℕ, Bool, true, false, List, [], length, Vec, nat_eq as eqb}
use Rattle.std.specs.List.{list_any, starts_with}
use Rattle.std.specs.Map.{lookup}
use Rattle.std.specs.declared.alloc.Global.{Global}
use Rattle.dns_wire.specs.declared.record.Record.{Record}
use Rattle.dns_zone_map.specs.declared.sets.RecordSet.{RecordSet}
use Rattle.dns_zone_map.specs.declared.presence.Presence.{Presence}
use Rattle.dns_zone_map.specs.declared.presence.Presence.TheVariants.{Owner, Empty, Absent}
use Rattle.dns_zone_map.specs.Existence.{exists}
use Rattle.dns_zone_map.specs.Sets.{AreSetsOf, sets_or_none, are_some}
use Rattle.dns_zone_map.specs.Removal.{is_key}

-- the name owns these sets, or exists and owns none, or does not exist
abbrev pub IsPresence : List Record → List (List ℕ) → Presence → Type 0
IsPresence records name (Owner sets) = AreSetsOf records name sets.now × (0 < length sets.now)
IsPresence records name Empty = AreSetsOf records name [] × (exists records name ≡ true)
IsPresence records name Absent = exists records name ≡ false

-- a key begins with this one at which there are sets
abbrev pub is_begun : List (Vec ℕ Global × List RecordSet) → List ℕ → Bool
is_begun es key = list_any (λ e. starts_with eqb e.0.items key && are_some e.1) es

-- the same of the name with a key, in a map
abbrev pub IsPresenceAt : List (Vec ℕ Global × List RecordSet) → List ℕ → Presence → Type 0
IsPresenceAt es key (Owner sets) = (sets.now ≡ sets_or_none (lookup (is_key key) es)) × (0 < length sets.now)
IsPresenceAt es key Empty = ([] ≡ sets_or_none (lookup (is_key key) es)) × (is_begun es key ≡ true)
IsPresenceAt es key Absent = is_begun es key ≡ false
