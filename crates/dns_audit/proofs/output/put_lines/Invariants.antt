-- The lines of the batches so far are written.
use Rattle.std.proofs.Common.{Ok, take}
use Rattle.dns_edges.specs.Edges.{around}
use Rattle.dns_words.specs.Writing.{Writes}
use Rattle.dns_audit.specs.Lines.{batch_lines}
use Rattle.dns_audit.proofs.output.put_lines.Given as goal

abbrev pub invariant-loop-batch : goal.invariant-loop-batch
invariant-loop-batch g l = Writes (around g.W.Sink.sink.told l.fn.out l.out) (batch_lines (take l.batch-index l.batches)) (Ok tt)
