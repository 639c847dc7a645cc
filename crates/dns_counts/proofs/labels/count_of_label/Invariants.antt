use Rattle.std.proofs.Common.{◌≡◌, map, drop}
use Rattle.dns_counts.specs.Counters.{count_at}
use Rattle.dns_counts.proofs.labels.count_of_label.Given as goal

abbrev pub invariant-loop-place : goal.invariant-loop-place
invariant-loop-place l =
    count_at (map (λ known. known.now) (drop l.place l.labels)) (drop l.place l.counts) l.label
    ≡ count_at (map (λ known. known.now) l.labels) l.counts l.label
