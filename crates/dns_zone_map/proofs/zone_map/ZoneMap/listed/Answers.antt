use Rattle.std.proofs.Common.{ap, map}
use Rattle.dns_zone_map.specs.Mapped.{contents}
use Rattle.dns_zone_map.proofs.Reading.{records_seen, paired_all}
use Rattle.dns_zone_map.proofs.zone_map.ZoneMap.listed.Goals as goal

pub in_order-requires : goal.in_order-requires
in_order-requires c = paired_all c.self.inside.origin c.self.inside.names c.self.invariant.tree.each

pub returns : goal.returns
returns c = records_seen (λ records. map (λ r. r.now) records.items) c.self.inside.origin c.self.inside.names (contents c.args.self.now) c.in_order.result (ap contents c.self.view_is) c.in_order.ensures
