use Rattle.std.proofs.Common.{◌≡◌, drop}
use Rattle.std.specs.List.{list_all}
use Rattle.dns_zone_map.specs.Zone.{set_of}
use Rattle.dns_update.specs.Verdict.{has_data}
use Rattle.dns_update.proofs.prerequisites.is_covered.Given as goal

abbrev pub invariant-loop-one : goal.invariant-loop-one
invariant-loop-one l = list_all (has_data (set_of l.gathered l.name l.rtype)) (drop l.one-index l.set) ≡ list_all (has_data (set_of l.gathered l.name l.rtype)) l.set
