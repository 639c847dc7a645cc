use Rattle.dns_zone_map.proofs.Existing.{exists_above, exists_owner}
use Rattle.dns_zone_map.proofs.laws.existing_names.Goals as goal

pub returns : goal.returns
returns c = record { above = exists_above; owners = exists_owner }
