use Rattle.std.proofs.Common.{◌≡◌, drop, take}
use Rattle.dns_wire.specs.Given.{in_parts, kinds}
use Rattle.dns_counts.specs.Counting.{grown, seen_or_unknown}
use Rattle.dns_counts.specs.declared.labels.TheConstants.{TYPE_CODES, CLASS_CODES}
use Rattle.dns_counts.specs.Counters.{types_in, classes_in, classed}
use Rattle.dns_counts.proofs.lent.count_parts.Given as goal

abbrev pub invariant-loop-part : goal.invariant-loop-part
invariant-loop-part l = record {
  types : grown l.types (seen_or_unknown TYPE_CODES (types_in (kinds (take l.left (in_parts (drop l.part-index l.parts))))))
      ≡ grown l.initial.types (seen_or_unknown TYPE_CODES (types_in (kinds (take l.written (in_parts l.parts)))));
  classes : grown l.classes (seen_or_unknown CLASS_CODES (classes_in (classed (kinds (take l.left (in_parts (drop l.part-index l.parts)))))))
      ≡ grown l.initial.classes (seen_or_unknown CLASS_CODES (classes_in (classed (kinds (take l.written (in_parts l.parts))))));
}
