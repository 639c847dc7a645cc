-- The data of a zone's records is short.
use Rattle.std.proofs.Common.{ℕ, List, [], ◌∷◌}
use Rattle.std.specs.List.{AllByRecursion}
use Rattle.dns_wire.specs.declared.record.Record.{Record}
use Rattle.dns_wire.specs.WireFormat.{AreShort}
use Rattle.dns_zone_map.specs.Zone.{IsEntry}

-- the records of a zone have short data
pub AreShort-entries : (origin : List (List ℕ)) (rs : List Record) → AllByRecursion (IsEntry origin) rs → AreShort rs
AreShort-entries origin [] all = tt
AreShort-entries origin (r ∷ rs) all = (all.0.short, AreShort-entries origin rs all.1)
