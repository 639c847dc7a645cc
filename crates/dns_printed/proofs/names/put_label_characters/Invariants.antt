use Rattle.std.proofs.Common.{drop}
use Rattle.std.specs.List.{flat_map}
use Rattle.dns_printed.specs.Appending.{IsPutUpTo}
use Rattle.dns_printed.specs.Printed.{label_character}
use Rattle.dns_printed.proofs.names.put_label_characters.Given as goal

abbrev pub invariant-loop-byte : goal.invariant-loop-byte
invariant-loop-byte l = IsPutUpTo l.fn.out.items l.out.items (flat_map label_character l.label) (flat_map label_character (drop l.byte-index l.label))
