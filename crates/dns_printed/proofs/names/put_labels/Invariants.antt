use Rattle.std.specs.List.{flat_map}
use Rattle.dns_printed.specs.Appending.{IsPutUpTo}
use Rattle.dns_printed.specs.Printed.{label_text}
use Rattle.dns_printed.proofs.names.put_labels.Given as goal

abbrev pub invariant-loop-label : goal.invariant-loop-label
invariant-loop-label l = IsPutUpTo l.fn.out.items l.out.items (flat_map label_text l.name) (flat_map label_text l.labels)
