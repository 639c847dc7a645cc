use Rattle.std.proofs.Common.{◌≡◌, drop, map}
use Rattle.std.specs.Prelude.{◌&&◌}
use Rattle.std.specs.List.{list_any}
use Rattle.dns_zone_map.specs.Zone.{is_type}
use Rattle.dns_zone.specs.Owner.{owns_another_type}
use Rattle.dns_printed.specs.Lone.{has_alias_beside_other}
use Rattle.dns_printed.proofs.lone_aliases.has_alias_beside_other.Given as goal

abbrev pub invariant-loop-one : goal.invariant-loop-one
invariant-loop-one l =
    list_any (λ r. is_type 5 r && owns_another_type l.zone.records r.name 5) (map (λ r. r.now) (drop l.one-index l.records))
    ≡ list_any (λ r. is_type 5 r && owns_another_type l.zone.records r.name 5) (map (λ r. r.now) l.records)
