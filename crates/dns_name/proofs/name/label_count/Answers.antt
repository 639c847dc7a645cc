use Rattle.std.proofs.Common.{length, ap, arith}
use Rattle.dns_name.proofs.Walk.{Spells-next, Spells-end}
use Rattle.dns_name.proofs.name.label_count.Goals as goal

pub loop-at-preserved : goal.loop-at-preserved
loop-at-preserved c =
    let i = c.loop-at.invariant in
    let n = Spells-next _ _ _ i.1 c.loop-at-test.true in
    (n.others, rw n.size n.after, omega (arith, i.2, ap length n.is))

pub returns : goal.returns
returns c =
    let i = c.loop-at.invariant in
    omega (arith, i.2, ap length (Spells-end _ _ _ i.1 c.loop-at-test.false))
