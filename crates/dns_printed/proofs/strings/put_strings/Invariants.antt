use Rattle.std.proofs.Common.{map}
use Rattle.dns_printed.specs.Appending.{IsPutUpTo}
use Rattle.dns_printed.specs.Printed.{spaced, string_text}
use Rattle.dns_printed.proofs.strings.put_strings.Given as goal

abbrev pub invariant-loop-text : goal.invariant-loop-text
invariant-loop-text l = IsPutUpTo l.fn.out.items l.out.items (spaced (map string_text l.texts)) (spaced (map string_text l.left))
