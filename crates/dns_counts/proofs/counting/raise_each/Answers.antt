use Rattle.std.proofs.Common.{sym}
use Rattle.dns_counts.proofs.Counted.{grown-nil, grown-take}
use Rattle.dns_counts.proofs.counting.raise_each.Goals as goal

pub loop-place-init : goal.loop-place-init
loop-place-init c = sym (grown-nil _)

pub loop-place-preserved : goal.loop-place-preserved
loop-place-preserved c =
    rw (c.raise.ensures, c.loop-place.invariant) (grown-take _ _ _ c.loop-place-test.true)
