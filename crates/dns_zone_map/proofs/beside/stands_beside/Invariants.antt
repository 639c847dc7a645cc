use Rattle.std.proofs.Common.{◌≡◌, drop}
use Rattle.std.specs.List.{list_any}
use Rattle.dns_zone_map.specs.Sets.{in_all}
use Rattle.dns_zone_map.specs.Beside.{is_other}
use Rattle.dns_zone_map.proofs.beside.stands_beside.Given as goal

abbrev pub invariant-loop-set : goal.invariant-loop-set
invariant-loop-set l =
    list_any (is_other l.one) (in_all (drop l.set-index l.sets)) ≡ list_any (is_other l.one) (in_all l.sets)
