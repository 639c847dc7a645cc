use Rattle.std.proofs.Common.{sym, subst}
use Rattle.dns_zone_map.specs.Zone.{IsSoFar}
use Rattle.dns_update.proofs.ReplayZones.{none_so_far}
use Rattle.dns_zone.proofs.replaying.take_row.Goals as goal

pub returns-in_ok-anew-in-Ok-false-clause-so_far : goal.returns-in_ok-anew-in-Ok-false-clause-so_far
returns-in_ok-anew-in-Ok-false-clause-so_far c =
    subst (IsSoFar c.in_ok-anew-in-Ok-false.anew.origin) (sym c.in_ok-anew-in-Ok-false.ensures.records) (none_so_far c.in_ok-anew-in-Ok-false.anew.origin)
