use Rattle.dns_zone.proofs.Descending.{IsUnderway}
use Rattle.dns_zone.proofs.descent.descend.Given as goal

abbrev pub invariant-loop-end : goal.invariant-loop-end
invariant-loop-end l = IsUnderway l.fn.walk l.walk

abbrev pub decreases-loop-end : goal.decreases-loop-end
decreases-loop-end l = l.walk.left
