use Rattle.std.proofs.Common.{refl, ap}
use Rattle.dns_zone_map.specs.Mapped.{contents}
use Rattle.dns_zone_map.specs.Table.{first_label}
use Rattle.dns_zone_map.proofs.Begun.{whole_key}
use Rattle.dns_zone_map.proofs.Reading.{presence_at}
use Rattle.dns_zone_map.proofs.Ways.{in_all}
use Rattle.dns_zone_map.proofs.zone_map.ZoneMap.tree_of.Goals as goal

pub returns : goal.returns
returns c = λ name key found within is some first at.
    presence_at c.self.inside.origin c.self.inside.names _ _ (contents c.args.self.now) (record { origin = c.args.self.now.origin; name = name }) (ap contents c.self.view_is) c.self.invariant.tree refl name within key found c.tree_of.ensures.apart is
    (in_all (first_label c.args.key.now) c.tree_of.result.now.entries c.self.inside.names key found c.tree_of.ensures.tree (whole_key c.args.self.now.origin name key is) some first at)
