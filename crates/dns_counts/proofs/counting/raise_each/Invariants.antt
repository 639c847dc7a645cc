use Rattle.std.proofs.Common.{◌≡◌, take}
use Rattle.dns_counts.specs.Counting.{grown}
use Rattle.dns_counts.proofs.counting.raise_each.Given as goal

abbrev pub invariant-loop-place : goal.invariant-loop-place
invariant-loop-place l = l.counts ≡ grown l.initial.counts (take l.place l.more)
