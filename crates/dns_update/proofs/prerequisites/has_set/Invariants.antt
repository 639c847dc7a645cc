use Rattle.std.proofs.Common.{◌≡◌, drop}
use Rattle.dns_zone_map.specs.Existence.{owns_type}
use Rattle.dns_update.proofs.prerequisites.has_set.Given as goal

abbrev pub invariant-loop-other : goal.invariant-loop-other
invariant-loop-other l = owns_type (drop l.other-index l.records) l.name l.rtype ≡ owns_type l.records l.name l.rtype
