-- What rows that were taken left.
use Rattle.std.specs.Prelude.{◌≡◌, ℕ, ℤ, List, None}
use Rattle.dns_name.specs.Name.{fold_of}
use Rattle.dns_wire.specs.declared.record.Record.{Record}
use Rattle.dns_zone_map.specs.Mapped.{Mapped}
use Rattle.dns_zone_map.specs.Zone.{IsSoFar}

-- the origin, the records so far, and the id of the last row, 0 before the first
pub record Replayed : Type 0 where
  pub origin : List (List ℕ)
  pub records : List Record
  pub last : ℤ

-- the records may become those of a zone, and no change of the map can be undone
pub record IsReplayed (map : Mapped) : Type 0 where
  pub folded : fold_of map.origin ≡ map.origin
  pub so_far : IsSoFar map.origin map.records
  pub settled : map.before ≡ None
