use Rattle.dns_audit.proofs.AnsweredZones.{zone_answered, zone_one, zone_found, zone_idle}
use Rattle.dns_audit.proofs.laws.answered_zones.Goals as goal

pub returns : goal.returns
returns g c = record { at = zone_answered g.K.Keeper.keeper; one = zone_one; found = zone_found; idle = zone_idle g.K.Keeper.keeper }
