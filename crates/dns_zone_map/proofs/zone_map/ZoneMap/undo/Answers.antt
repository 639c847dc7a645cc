use Rattle.std.proofs.Common.{sym, subst}
use Rattle.dns_zone_map.specs.Former.{IsMap}
use Rattle.dns_zone_map.proofs.Reverting.{undone_map}
use Rattle.dns_zone_map.proofs.zone_map.ZoneMap.undo.Goals as goal

pub invariant_of-self-in-Some : goal.invariant_of-self-in-Some
invariant_of-self-in-Some c =
    subst (IsMap c.self.inside.origin c.sweep.new.names c.in-Some.undoing.next c.in-Some.undoing.count) (sym c.replace.ensures.after)
    (undone_map c.self.inside.origin c.self.inside.names c.self.inside.next c.self.inside.count c.self.inside.undoing c.self.invariant c.in-Some.undoing c.put_all_back.new.names c.sweep.new.names (sym c.in-Some.ensures.value) c.put_all_back.ensures c.sweep.ensures)
