use Rattle.std.proofs.Common.{◌≡◌, drop}
use Rattle.dns_counts.specs.Counting.{grown, seen_or_unknown}
use Rattle.dns_counts.specs.declared.labels.TheConstants.{TYPE_CODES}
use Rattle.dns_counts.specs.Counters.{types_in}
use Rattle.dns_counts.proofs.kinds.count_listed_types.Given as goal

abbrev pub invariant-loop-one : goal.invariant-loop-one
invariant-loop-one l =
    grown l.counts (seen_or_unknown TYPE_CODES (types_in (drop l.one-index l.pairs)))
    ≡ grown l.initial.counts (seen_or_unknown TYPE_CODES (types_in l.pairs))
