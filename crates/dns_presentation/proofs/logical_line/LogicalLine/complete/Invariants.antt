use Rattle.std.proofs.Common.{◌≡◌, ◌+◌, ◌≤◌, length}
use Rattle.dns_presentation.specs.Lines.{lines_of}
use Rattle.dns_presentation.specs.LogicalLines.{lines_after}
use Rattle.dns_presentation.proofs.logical_line.LogicalLine.complete.Given as goal

abbrev pub invariant-loop-self : goal.invariant-loop-self
invariant-loop-self l = record {
  left : lines_after l.self (lines_of l.rest) ≡ lines_after l.fn.self (lines_of l.text);
  shorter : length l.rest ≤ length l.text;
  few : l.self.open_count + length l.rest ≤ l.fn.self.open_count + length l.text;
  counted : l.self.next + length l.rest ≤ l.fn.self.next + length l.text;
}

abbrev pub decreases-loop-self : goal.decreases-loop-self
decreases-loop-self l = length l.rest
