-- That aliases stand alone, as the text of a zone has them (RFC 1034 3.6.2).
use Rattle.std.specs.Prelude.{Bool, ◌&&◌, ◌||◌, List}
use Rattle.std.specs.List.{IsDistinct, list_any}
use Rattle.dns_name.specs.Name.{is_same_name}
use Rattle.dns_wire.specs.declared.record.Record.{Record}
use Rattle.dns_wire.specs.declared.record_type.TheConstants.{CNAME}
use Rattle.dns_zone_map.specs.Zone.{is_type}
use Rattle.dns_zone.specs.Owner.{owns_another_type}

-- two records of one name, of which one is an alias
abbrev pub is_alias_pair : Record → Record → Bool
is_alias_pair r s = is_same_name r.name s.name && (is_type CNAME r || is_type CNAME s)

-- no alias stands beside another record: no two records are of one name of which one is an alias
abbrev pub HasLoneAliases : List Record → Type 0
HasLoneAliases records = IsDistinct is_alias_pair records

-- some name owns an alias and a record of another type
abbrev pub has_alias_beside_other : List Record → Bool
has_alias_beside_other records = list_any (λ r. is_type CNAME r && owns_another_type records r.name CNAME) records
