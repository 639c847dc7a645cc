use Rattle.std.proofs.Common.{◌≡◌, drop}
use Rattle.dns_counts.specs.Counting.{grown, seen_or_unknown}
use Rattle.dns_counts.specs.declared.labels.TheConstants.{CLASS_CODES}
use Rattle.dns_counts.specs.Counters.{classes_in, classed}
use Rattle.dns_counts.proofs.kinds.count_listed_classes.Given as goal

abbrev pub invariant-loop-one : goal.invariant-loop-one
invariant-loop-one l =
    grown l.counts (seen_or_unknown CLASS_CODES (classes_in (classed (drop l.one-index l.pairs))))
    ≡ grown l.initial.counts (seen_or_unknown CLASS_CODES (classes_in (classed l.pairs)))
