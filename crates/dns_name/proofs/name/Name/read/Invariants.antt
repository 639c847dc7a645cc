use Rattle.std.proofs.Common.{◌+◌, ◌-◌, ◌*◌, length}
use Rattle.dns_name.proofs.NameRead.{Reading}
use Rattle.dns_name.proofs.name.Name.read.Given as goal

abbrev pub invariant-loop-at : goal.invariant-loop-at
invariant-loop-at l = Reading l.message l.place l.start l.at l.end l.wire.items

abbrev pub decreases-loop-at : goal.decreases-loop-at
decreases-loop-at l = l.start * (length l.message + 1) + (length l.message - l.at)
