use Rattle.std.proofs.Common.{sym, subst}
use Rattle.dns_zone_map.specs.Former.{IsMap}
use Rattle.dns_zone_map.proofs.Reverting.{kept_map}
use Rattle.dns_zone_map.proofs.zone_map.ZoneMap.keep.Goals as goal

pub invariant_of-self-in-Some : goal.invariant_of-self-in-Some
invariant_of-self-in-Some c = subst (IsMap c.self.inside.origin c.sweep.new.names c.self.inside.next c.self.inside.count) (sym c.replace.ensures.after) (kept_map c.self.inside.origin c.self.inside.names c.self.inside.next c.self.inside.count c.self.inside.undoing c.self.invariant c.sweep.new.names c.sweep.ensures)
