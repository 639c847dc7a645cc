use Rattle.std.proofs.Common.{◌≡◌, drop}
use Rattle.std.specs.List.{list_all}
use Rattle.dns_zone_map.specs.Zone.{set_of}
use Rattle.dns_update.specs.Verdict.{has_data}
use Rattle.dns_update.proofs.prerequisites.is_within.Given as goal

abbrev pub invariant-loop-one : goal.invariant-loop-one
invariant-loop-one l = list_all (has_data l.set) (set_of (drop l.one-index l.gathered) l.name l.rtype) ≡ list_all (has_data l.set) (set_of l.gathered l.name l.rtype)
