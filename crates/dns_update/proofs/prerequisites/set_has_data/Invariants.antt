use Rattle.std.proofs.Common.{◌≡◌, drop}
use Rattle.dns_zone_map.specs.Zone.{set_of}
use Rattle.dns_update.specs.Verdict.{has_data}
use Rattle.dns_update.proofs.prerequisites.set_has_data.Given as goal

abbrev pub invariant-loop-other : goal.invariant-loop-other
invariant-loop-other l = has_data (set_of (drop l.other-index l.records) l.name l.rtype) l.one ≡ has_data (set_of l.records l.name l.rtype) l.one
