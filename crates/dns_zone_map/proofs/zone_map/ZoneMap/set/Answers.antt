use Rattle.std.proofs.Common.{◌∙◌, ap, sym}
use Rattle.dns_zone_map.specs.Mapped.{contents}
use Rattle.dns_zone_map.proofs.Outside.{outside_at}
use Rattle.dns_zone_map.proofs.zone_map.ZoneMap.set.Goals as goal

pub returns-then-not-at_or_below : goal.returns-then-not-at_or_below
returns-then-not-at_or_below c =
    outside_at c.self.inside.origin c.args.name.now c.args.rtype c.self.inside.names (contents c.args.self.now) (ap contents c.self.view_is) (sym c.at_or_below.ensures.test ∙ c.if-not-at_or_below.true) c.self.invariant.tree.each
