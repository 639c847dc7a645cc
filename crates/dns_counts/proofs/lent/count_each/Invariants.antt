use Rattle.std.proofs.Common.{◌≡◌, drop}
use Rattle.dns_wire.specs.Given.{kinds}
use Rattle.dns_counts.specs.Counting.{grown, seen_or_unknown}
use Rattle.dns_counts.specs.declared.labels.TheConstants.{TYPE_CODES, CLASS_CODES}
use Rattle.dns_counts.specs.Counters.{types_in, classes_in, classed}
use Rattle.dns_counts.proofs.lent.count_each.Given as goal

abbrev pub invariant-loop-one : goal.invariant-loop-one
invariant-loop-one l = record {
  types : grown l.types (seen_or_unknown TYPE_CODES (types_in (kinds (drop l.one-index l.records))))
      ≡ grown l.initial.types (seen_or_unknown TYPE_CODES (types_in (kinds l.records)));
  classes : grown l.classes (seen_or_unknown CLASS_CODES (classes_in (classed (kinds (drop l.one-index l.records)))))
      ≡ grown l.initial.classes (seen_or_unknown CLASS_CODES (classes_in (classed (kinds l.records))));
}
