use Rattle.std.proofs.Common.{◌≡◌, ◌∙◌, ◌+◌, sym, ap, subst, List, ℕ, drop}
use Rattle.std.specs.List.{AllByRecursion}
use Rattle.dns_wire.specs.declared.record.Record.{Record}
use Rattle.dns_zone_map.specs.Zone.{IsZone, IsSoFar}
use Rattle.dns_update.specs.Change.{step, steps}
use Rattle.dns_update.specs.Replay.{IsJournalledAsIs, MayCome}
use Rattle.dns_update.proofs.Zones.{batch_entry}
use Rattle.dns_update.proofs.Doing.{zone_step}
use Rattle.dns_update.proofs.HalfDone.{left_of, steps_of}
use Rattle.dns_update.proofs.batch.apply_each.Goals as goal

pub step-requires-clause-fit : goal.step-requires-clause-fit
step-requires-clause-fit c =
    let was = c.loop-one in
    let left = left_of was.map.origin c.args.batch.now was.one-index c.one-item.result c.loop-one-test.true c.one-item.is was.invariant.left in
    subst (λ (r : Record). MayCome was.map.origin r) (sym c.in_ok-copy.ensures) (batch_entry was.map.origin c.one-item.result left.0)

pub loop-one-preserved : goal.loop-one-preserved
loop-one-preserved c =
    let was = c.loop-one in
    let rest : List Record = drop (was.one-index + 1) c.args.batch.now in
    let left = left_of was.map.origin c.args.batch.now was.one-index c.one-item.result c.loop-one-test.true c.one-item.is was.invariant.left in
    let stepped : c.step.new.map.records ≡ step was.map.origin was.map.records c.one-item.result = c.in_ok-step.ensures.records ∙ ap (step was.map.origin was.map.records) c.in_ok-copy.ensures in
    record {
      origin = c.step.ensures.origin ∙ was.invariant.origin;
      zone =
          subst (λ (o : List (List ℕ)). IsZone o c.step.new.map.records) (sym c.step.ensures.origin)
          (zone_step was.map.origin was.map.records c.step.new.map.records c.one-item.result was.invariant.zone stepped
          (subst (λ (o : List (List ℕ)). IsSoFar o c.step.new.map.records) c.step.ensures.origin c.step.ensures.so_far));
      left = subst (λ (o : List (List ℕ)). AllByRecursion (IsJournalledAsIs o) rest) (sym c.step.ensures.origin) left.1;
      made =
          ap (λ (o : List (List ℕ)). steps o c.step.new.map.records rest) c.step.ensures.origin
          ∙ ap (λ (l : List Record). steps was.map.origin l rest) stepped
          ∙ steps_of was.map.origin was.map.records c.args.batch.now was.one-index c.one-item.result c.loop-one-test.true c.one-item.is ∙ was.invariant.made;
      undo = c.step.ensures.before ∙ was.invariant.undo;
    }
