use Rattle.std.proofs.Common.{◌∙◌, ap}
use Rattle.dns_zone_map.specs.Mapped.{contents}
use Rattle.dns_zone_map.specs.Zone.{first_serial}
use Rattle.dns_zone_map.proofs.Serials.{seen_none, seen_some}
use Rattle.dns_zone_map.proofs.zone_map.ZoneMap.serial.Goals as goal

pub returns-in-None : goal.returns-in-None
returns-in-None c = seen_none (contents c.args.self.now) c.origin-origin.result.now c.requires.entries c.origin-origin.ensures c.in-None.ensures

pub returns-in-Some : goal.returns-in-Some
returns-in-Some c = c.first_serial.ensures ∙ ap first_serial c.as_slice.ensures ∙ seen_some (contents c.args.self.now) c.origin-origin.result.now c.in-Some.soa.now c.requires.entries c.origin-origin.ensures c.in-Some.ensures
