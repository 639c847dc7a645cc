use Rattle.std.proofs.Common.{◌∙◌, sym}
use Rattle.dns_update.proofs.Gathered.{passed_over}
use Rattle.dns_update.proofs.prerequisites.gathered_rule.Goals as goal

pub loop-place-preserved-then-has_set : goal.loop-place-preserved-then-has_set
loop-place-preserved-then-has_set c =
    let both = passed_over c.args.map.now.records c.args.gathered.now c.loop-place.place c.index-gathered-place.result _ c.loop-place-test.true c.index-gathered-place.is (sym c.has_set.ensures ∙ c.if-has_set.true) c.loop-place.invariant.left c.loop-place.invariant.done in
    record { left = both.0; done = both.1 }
