use Rattle.std.proofs.Common.{ap}
use Rattle.dns_zone_map.specs.Mapped.{contents}
use Rattle.dns_zone_map.proofs.Reading.{count_is}
use Rattle.dns_zone_map.proofs.zone_map.ZoneMap.len.Goals as goal

pub returns : goal.returns
returns c = count_is c.self.inside.origin c.self.inside.names _ (contents c.args.self.now) (ap contents c.self.view_is) c.self.invariant.tree.counted
