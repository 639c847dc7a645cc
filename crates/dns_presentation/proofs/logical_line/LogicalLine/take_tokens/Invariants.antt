use Rattle.std.proofs.Common.{◌≡◌, ◌+◌, ◌≤◌, length}
use Rattle.dns_presentation.specs.Words.{tokens_of}
use Rattle.dns_presentation.specs.LogicalLines.{with_tokens}
use Rattle.dns_presentation.proofs.logical_line.LogicalLine.take_tokens.Given as goal

abbrev pub invariant-loop-rest : goal.invariant-loop-rest
invariant-loop-rest l = record {
  left : with_tokens l.self (tokens_of l.rest) ≡ with_tokens l.fn.self (tokens_of l.line);
  few : l.self.open_count + length l.rest ≤ l.fn.self.open_count + length l.line;
  counted : l.self.next ≡ l.fn.self.next;
}

abbrev pub decreases-loop-rest : goal.decreases-loop-rest
decreases-loop-rest l = length l.rest
