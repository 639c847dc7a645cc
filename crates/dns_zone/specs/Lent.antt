-- What the sets that a name owns give to a look: what `look_at` finds in the zone's list, it finds in them.
use Rattle.std.specs.Prelude.{ℕ, ◌-◌, ◌<◌, ◌==◌, ◌||◌, if◌then◌else◌, List, length, map, Option, None, IfSome}
use Rattle.std.specs.List.{slice_get}
use Rattle.dns_wire.specs.declared.record.Record.{Record}
use Rattle.dns_wire.specs.declared.record_type.TheConstants.{CNAME, ANY}
use Rattle.dns_zone_map.specs.declared.sets.RecordSet.{RecordSet}
use Rattle.dns_zone_map.specs.Sets.{in_all, of_type}
use Rattle.dns_zone.specs.declared.look.Look.{Look}
use Rattle.dns_wire.specs.Given.{given}
use Rattle.dns_zone.specs.Look.{first_of, alias_or}

-- the alias that answers, unless CNAME or ANY was asked
abbrev pub alias_in : List RecordSet → Option (List (List ℕ)) → ℕ → Option Record
alias_in sets owner rtype = if (rtype == CNAME) || (rtype == ANY) then None else first_of (map (given owner) (of_type sets CNAME))

-- the records that answer a question of this type
abbrev pub found_in : List RecordSet → Option (List (List ℕ)) → ℕ → List Record
found_in sets owner rtype = map (given owner) (if rtype == ANY then in_all sets else of_type sets rtype)

-- what a look finds at the name that owns these sets
unfoldable pub look_in : List RecordSet → Option (List (List ℕ)) → ℕ → Look
look_in sets owner rtype = alias_or (alias_in sets owner rtype) (found_in sets owner rtype)

-- the type of the last set is a number of 16 bits (RFC 1035 3.2.2)
abbrev pub LastTypeFits : List RecordSet → Type 0
LastTypeFits sets = IfSome (slice_get sets (length sets - 1)) (λ s. s.rtype < 65536)
