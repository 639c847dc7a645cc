use Rattle.dns_zone_map.proofs.Keyed.{below_keys}
use Rattle.dns_zone_map.proofs.laws.key_order.Goals as goal

pub returns : goal.returns
returns c = below_keys
