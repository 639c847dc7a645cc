use Rattle.std.proofs.Common.{drop}
use Rattle.dns_printed.specs.Appending.{IsPutUpTo}
use Rattle.dns_printed.specs.Printed.{zone_text}
use Rattle.dns_printed.proofs.zone_lines.put_lines.Given as goal

abbrev pub invariant-loop-place : goal.invariant-loop-place
invariant-loop-place l = IsPutUpTo l.fn.out.items l.out.items (zone_text l.lines) (zone_text (drop l.place l.lines))
