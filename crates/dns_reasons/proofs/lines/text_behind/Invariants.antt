-- What is left behind the lines that are still to be passed is what was looked for.
use Rattle.std.proofs.Common.{◌≡◌}
use Rattle.dns_reasons.specs.Lines.{text_behind}
use Rattle.dns_reasons.proofs.lines.text_behind.Given as goal

abbrev pub invariant-loop-left : goal.invariant-loop-left
invariant-loop-left l = text_behind l.left l.rest ≡ text_behind l.before l.text

abbrev pub decreases-loop-left : goal.decreases-loop-left
decreases-loop-left l = l.left
