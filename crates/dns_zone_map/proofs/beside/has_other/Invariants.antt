use Rattle.std.proofs.Common.{◌≡◌, drop}
use Rattle.std.specs.List.{list_any}
use Rattle.dns_zone_map.specs.Beside.{is_other}
use Rattle.dns_zone_map.proofs.beside.has_other.Given as goal

abbrev pub invariant-loop-other : goal.invariant-loop-other
invariant-loop-other l = list_any (is_other l.one) (drop l.other-index l.records) ≡ list_any (is_other l.one) l.records
