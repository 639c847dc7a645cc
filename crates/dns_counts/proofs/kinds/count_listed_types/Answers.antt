use Rattle.dns_counts.proofs.Following.{type-first, counted-next, types-end}
use Rattle.dns_counts.proofs.kinds.count_listed_types.Goals as goal

pub loop-one-preserved : goal.loop-one-preserved
loop-one-preserved c =
    counted-next _ _ _ _ _ _ _ (type-first _ _ _ c.loop-one-test.true) c.count_type.ensures c.loop-one.invariant

pub returns : goal.returns
returns c = types-end _ _ _ _ _ c.loop-one-test.false c.loop-one.invariant
