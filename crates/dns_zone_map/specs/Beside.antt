-- A record beside those that its owner has already (RFC 1034 3.6.2).
use Rattle.std.specs.Prelude.{◌≡◌, ℕ, Bool, true, false, not, ◌==◌, ◌&&◌, ◌||◌, if◌then◌else◌, List, is_some, Some, None, Vec}
use Rattle.std.specs.declared.alloc.Global.{Global}
use Rattle.std.specs.List.{list_any}
use Rattle.std.specs.Map.{lookup}
use Rattle.std.specs.Option.{IsSome}
use Rattle.dns_name.specs.Name.{is_same_name}
use Rattle.dns_wire.specs.declared.record.Record.{Record}
use Rattle.dns_wire.specs.declared.record_type.TheConstants.{CNAME}
use Rattle.dns_zone_map.specs.declared.beside.Beside.{Beside}
use Rattle.dns_zone_map.specs.declared.beside.Beside.TheVariants.{New, Replaced, Clash}
use Rattle.dns_zone_map.specs.declared.sets.RecordSet.{RecordSet}
use Rattle.dns_zone_map.specs.SameData.{data_eq}
use Rattle.dns_zone_map.specs.Zone.{is_type, is_equal, is_rival}
use Rattle.dns_zone_map.specs.Changes.{put_over, first_that}
use Rattle.dns_zone_map.specs.Sets.{set_in, in_all, sets_or_none}
use Rattle.dns_zone_map.specs.Insertion.{PutInSets, PutUnder}
use Rattle.dns_zone_map.specs.Removal.{is_key}

-- one of the two records of a name is an alias: a CNAME beside another type, or beside a CNAME with another target
abbrev pub is_beside_alias : Record → Record → Bool
is_beside_alias r s =
    (is_type CNAME r || is_type CNAME s) && (not (is_equal r s) && is_same_name r.name s.name)

-- a record of another type or with other data
abbrev pub is_other : Record → Record → Bool
is_other r s = not ((s.rtype == r.rtype) && data_eq s.rdata r.rdata)

-- a record that is no alias stands beside one, or an alias stands beside another record
abbrev pub stands_beside : List RecordSet → Record → Bool
stands_beside sets r = if is_type CNAME r then list_any (is_other r) (in_all sets) else is_some (set_in CNAME sets)

-- the record stands beside no alias, nor is it one beside others, and it came in the place of its rival, or else at the end
pub record PutAlone (one : Record) (before after : List Record) : Type 0 where
  pub alone : list_any (is_beside_alias one) before ≡ false
  pub is : after ≡ put_over (is_rival one) one before

-- what became of a record that was to be put: it is new, or took the place of its rival, or may not stand there, and nothing was changed
abbrev pub IsPutBeside : Record → List Record → List Record → Beside → Type 0
IsPutBeside one before after New = PutAlone one before after × (first_that (is_rival one) before ≡ None)
IsPutBeside one before after Replaced = PutAlone one before after × IsSome (first_that (is_rival one) before)
IsPutBeside one before after Clash = (list_any (is_beside_alias one) before ≡ true) × (after ≡ before)

-- the same among the sets of its name
abbrev pub IsPutInSets : ℕ → Record → List RecordSet → List RecordSet → Beside → Type 0
IsPutInSets number one before after New = (stands_beside before one ≡ false) × PutInSets number one before after None
IsPutInSets number one before after Replaced = (stands_beside before one ≡ false) × ((old : Record) × PutInSets number one before after (Some old))
IsPutInSets number one before after Clash = (stands_beside before one ≡ true) × (after ≡ before)

-- the same among those of the name with this key
abbrev pub IsPutAt : List ℕ → ℕ → Record → List (Vec ℕ Global × List RecordSet) → List (Vec ℕ Global × List RecordSet) → Beside → Type 0
IsPutAt key number one before after New = (stands_beside (sets_or_none (lookup (is_key key) before)) one ≡ false) × PutUnder key number one before after None
IsPutAt key number one before after Replaced =
    (stands_beside (sets_or_none (lookup (is_key key) before)) one ≡ false) × ((old : Record) × PutUnder key number one before after (Some old))
IsPutAt key number one before after Clash = (stands_beside (sets_or_none (lookup (is_key key) before)) one ≡ true) × (after ≡ before)
