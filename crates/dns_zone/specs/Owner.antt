-- What the owner of records owns beside a type.
use Rattle.std.specs.Prelude.{ℕ, Bool, not, ◌==◌, ◌&&◌, List}
use Rattle.std.specs.List.{list_any}
use Rattle.dns_name.specs.Name.{is_same_name}
use Rattle.dns_wire.specs.declared.record.Record.{Record}
use Rattle.dns_zone_map.specs.declared.sets.RecordSet.{RecordSet}
use Rattle.dns_zone_map.specs.Zone.{is_type}

-- the record is of the name, and of another type
abbrev pub is_of_another_type : List (List ℕ) → ℕ → Record → Bool
is_of_another_type name rtype r = not (is_type rtype r) && is_same_name r.name name

-- the name owns another type
abbrev pub owns_another_type : List Record → List (List ℕ) → ℕ → Bool
owns_another_type records name rtype = list_any (is_of_another_type name rtype) records

-- there is a set of another type
abbrev pub has_another_set : ℕ → List RecordSet → Bool
has_another_set rtype sets = list_any (λ s. not (s.rtype == rtype)) sets
