-- Which names own records, and which names there are (RFC 4592 2.2).
use Rattle.std.specs.Prelude.{ℕ, Bool, List}
use Rattle.std.specs.List.{list_any}
use Rattle.dns_name.specs.Name.{is_at_or_below}
use Rattle.dns_wire.specs.declared.record.Record.{Record}
use Rattle.dns_zone_map.specs.Zone.{is_in_set}

-- the name owns a record of the type
abbrev pub owns_type : List Record → List (List ℕ) → ℕ → Bool
owns_type records name rtype = list_any (is_in_set name rtype) records

-- the record is of the name, or of one below it
abbrev pub is_at_or_under : List (List ℕ) → Record → Bool
is_at_or_under name r = is_at_or_below r.name name

-- a name exists where it or a name below it owns a record (RFC 4592 2.2.2)
abbrev pub exists : List Record → List (List ℕ) → Bool
exists records name = list_any (is_at_or_under name) records
