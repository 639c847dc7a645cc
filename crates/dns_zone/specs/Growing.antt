-- A zone that takes rows behind those that stand for it.
use Rattle.std.specs.Prelude.{◌≡◌, ℕ, List, length, Option, IsSomeAnd, Ok}
use Rattle.dns_name.specs.Name.{fold_of}
use Rattle.dns_wire.specs.declared.record.Record.{Record}
use Rattle.dns_keeper.specs.declared.row.Row.{Row}
use Rattle.dns_zone_map.specs.Mapped.{Mapped}
use Rattle.dns_zone_map.specs.Zone.{Contents, IsSoFar, IsZone}
use Rattle.dns_update.specs.Replay.{Replays}
use Rattle.dns_zone.specs.Replayed.{Replayed}

-- this holds of all rows, so many, that stand for the zone
abbrev pub Behind : Contents → ℕ → (List Row → Type 0) → Type 0
Behind zone done P = (front : List Row) → length front ≡ done → Replays zone.origin front (Ok zone.records) → P front

-- what the rows left, and the records that the zone had before the first of them
pub record GrowingOf : Type 0 where
  pub now : Replayed
  pub before : Option (List Record)

-- the records may become those of a zone, and there are those of one to go back to
pub record IsGrowing (map : Mapped) : Type 0 where
  pub folded : fold_of map.origin ≡ map.origin
  pub so_far : IsSoFar map.origin map.records
  pub was : IsSomeAnd map.before (IsZone map.origin)
