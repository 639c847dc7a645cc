use Rattle.std.proofs.Common.{[], ap, subst, ◌∙◌}
use Rattle.dns_zone_map.specs.Sets.{AreSetsOf}
use Rattle.dns_zone.specs.Owner.{has_another_set}
use Rattle.dns_zone.proofs.AnotherType.{another_is}
use Rattle.dns_zone.proofs.zone.Zone.owns_another_type.Goals as goal

pub returns-in-None : goal.returns-in-None
returns-in-None c =
    another_is c.args.self.now.records c.args.name.now [] c.args.rtype
    (subst (λ records. AreSetsOf records c.args.name.now []) (ap (λ zone. zone.records) c.map-map.ensures.is)
    (subst (λ name. AreSetsOf c.map-map.result.now.records name []) (c.new-key.ensures.name ∙ c.view.ensures) c.in-None.ensures.sets))

pub returns-in-Some : goal.returns-in-Some
returns-in-Some c =
    c.has_another_set.ensures ∙ ap (has_another_set c.args.rtype) c.as_slice.ensures
    ∙ another_is c.args.self.now.records c.args.name.now c.in-Some.sets.now c.args.rtype
    (subst (λ records. AreSetsOf records c.args.name.now c.in-Some.sets.now) (ap (λ zone. zone.records) c.map-map.ensures.is)
    (subst (λ name. AreSetsOf c.map-map.result.now.records name c.in-Some.sets.now) (c.new-key.ensures.name ∙ c.view.ensures) c.in-Some.ensures.sets))
