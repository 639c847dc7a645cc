use Rattle.std.proofs.Common.{◌≡◌, ◌∙◌, ap, refl}
use Rattle.dns_zone_map.specs.Mapped.{begun}
use Rattle.dns_zone_map.proofs.Reverting.{begun_map, begun_seen}
use Rattle.dns_zone_map.proofs.zone_map.ZoneMap.begin.Goals as goal
use Rattle.dns_zone_map.proofs.zone_map.ZoneMap.begin.Goals.{then-self+in_ok-number_anew, else-self}

pub invariant_of-self : goal.invariant_of-self
invariant_of-self c = begun_map c.self-2.inside.origin c.self-2.inside.names c.self-2.inside.next c.self-2.inside.count c.self-2.inside.undoing c.self-2.invariant _ c.new.ensures.items refl refl

pub returns-clause-ok : goal.returns-clause-ok
returns-clause-ok c =
    let same : c.if-self.self ≡ c.args.self.now = elim c.if-self.branch [ then-self+in_ok-number_anew w ↦ (cc) | else-self w ↦ (cc) ] in
    begun_seen c.self-2.inside.origin c.self-2.inside.names c.self-2.inside.next c.self-2.inside.count c.self-2.inside.undoing c.self-2.invariant c.if-self.self c.self-2.view_is (record { formers = c.new.result; next = c.self-2.inside.next; count = c.self-2.inside.count }) c.new.ensures.items ∙ ap begun same
