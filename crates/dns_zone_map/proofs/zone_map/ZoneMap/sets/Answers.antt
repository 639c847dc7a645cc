use Rattle.std.proofs.Common.{drop, ap}
use Rattle.dns_zone_map.specs.Mapped.{contents}
use Rattle.dns_zone_map.proofs.Reading.{sets_at}
use Rattle.dns_zone_map.proofs.zone_map.ZoneMap.sets.Goals as goal

pub returns-clause-sets : goal.returns-clause-sets
returns-clause-sets c = sets_at c.self.inside.origin c.self.inside.names _ _ (contents c.args.self.now) c.args.key.now (ap contents c.self.view_is) c.self.invariant.tree c.requires.origin (drop c.args.labels_dropped c.args.key.now.name) c.above.ensures.within _ c.sets_at.result c.sets_at.ensures.apart c.above.ensures.key c.sets_at.ensures.sets
