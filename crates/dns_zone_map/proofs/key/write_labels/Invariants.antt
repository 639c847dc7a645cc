use Rattle.dns_zone_map.proofs.Written.{Writing}
use Rattle.dns_zone_map.proofs.key.write_labels.Given as goal

abbrev pub invariant-loop-start : goal.invariant-loop-start
invariant-loop-start l = Writing l.origin l.name l.labels l.room l.depth l.start

abbrev pub decreases-loop-start : goal.decreases-loop-start
decreases-loop-start l = l.start
