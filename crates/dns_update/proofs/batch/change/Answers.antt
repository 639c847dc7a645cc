use Rattle.std.proofs.Common.{◌∙◌, sym, ap, subst}
use Rattle.dns_zone_map.specs.Zone.{IsZone, IsSoFar}
use Rattle.dns_zone_map.specs.Mapped.{contents}
use Rattle.dns_update.specs.Change.{step}
use Rattle.dns_update.proofs.Doing.{undone, done, zone_step}
use Rattle.dns_update.proofs.batch.change.Goals as goal

pub returns-then-not-makes_change-clause-records : goal.returns-then-not-makes_change-clause-records
returns-then-not-makes_change-clause-records c =
    let z = contents c.args.map.now in
    undone z.origin z.records c.args.one.now c.makes_change.result c.makes_change.ensures c.if-not-makes_change.true

pub returns-clause-records : goal.returns-clause-records
returns-clause-records c =
    let z = contents c.args.map.now in
    c.in_ok-step.ensures.records ∙ ap (step z.origin z.records) c.in_ok-copy.ensures
    ∙ done z.origin z.records c.args.one.now c.makes_change.result c.makes_change.ensures c.if-not-makes_change.false

pub returns-clause-zone : goal.returns-clause-zone
returns-clause-zone c =
    let z = contents c.args.map.now in
    subst (λ o. IsZone o c.step.new.map.records) (sym c.step.ensures.origin)
    (zone_step z.origin z.records c.step.new.map.records c.in_ok-copy.field-0 c.requires.zone c.in_ok-step.ensures.records
    (subst (λ o. IsSoFar o c.step.new.map.records) c.step.ensures.origin c.step.ensures.so_far))
