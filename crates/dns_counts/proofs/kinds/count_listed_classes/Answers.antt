use Rattle.dns_counts.proofs.Following.{class-first, counted-next, classes-end}
use Rattle.dns_counts.proofs.kinds.count_listed_classes.Goals as goal

pub loop-one-preserved : goal.loop-one-preserved
loop-one-preserved c =
    counted-next _ _ _ _ _ _ _ (class-first _ _ _ c.loop-one-test.true c.if-one-eq-OPT.false) c.count_class.ensures c.loop-one.invariant

pub returns : goal.returns
returns c = classes-end _ _ _ _ _ c.loop-one-test.false c.loop-one.invariant
