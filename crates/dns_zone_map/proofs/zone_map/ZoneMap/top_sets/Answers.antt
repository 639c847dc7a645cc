use Rattle.std.proofs.Common.{ap}
use Rattle.dns_zone_map.specs.Mapped.{contents}
use Rattle.dns_zone_map.proofs.Reading.{top_sets_at}
use Rattle.dns_zone_map.proofs.zone_map.ZoneMap.top_sets.Goals as goal

pub returns : goal.returns
returns c = top_sets_at c.self.inside.origin c.self.inside.names _ _ (contents c.args.self.now) (ap contents c.self.view_is) c.self.invariant.tree c.sets_at.result c.sets_at.ensures.apart c.sets_at.ensures.sets
