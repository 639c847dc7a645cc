-- What contracts see of a map of records whose changes can be undone.
use Rattle.std.specs.Prelude.{ℕ, List, Option, Some, None}
use Rattle.dns_wire.specs.declared.record.Record.{Record}
use Rattle.dns_zone_map.specs.Zone.{Contents}

-- the name at the top of a zone, the zone's records in their order, and, where changes can be undone, those before the changes
pub record Mapped : Type 0 where
  pub origin : List (List ℕ)
  pub records : List Record
  pub before : Option (List Record)

-- the name and the records alone
abbrev pub contents : Mapped → Contents
contents m = record { origin = m.origin; records = m.records }

-- from here on changes can be undone
abbrev pub begun : Mapped → Mapped
begun m = record { origin = m.origin; records = m.records; before = Some m.records }

-- what was changed stays
abbrev pub kept : Mapped → Mapped
kept m = record { origin = m.origin; records = m.records; before = None }

-- what was changed is undone
abbrev pub back_to : Mapped → Option (List Record) → Mapped
back_to m None = m
back_to m (Some records) = record { origin = m.origin; records = records; before = None }

abbrev pub undone : Mapped → Mapped
undone m = back_to m m.before
