-- One line more is written, or the lines end there.
use Rattle.std.specs.Prelude.{pos}
use Rattle.std.proofs.lemmas.Result.{err_from_is_err_and}
use Rattle.dns_words.proofs.TextsWritten.{Writes-stop, Writes-then}
use Rattle.dns_audit.proofs.BatchLines.{lines_more, lines_round}
use Rattle.dns_audit.proofs.output.put_lines.Goals as goal

pub returns-in_err-put_batch : goal.returns-in_err-put_batch
returns-in_err-put_batch g c =
    let p = err_from_is_err_and c.from_residual.result c.from_residual.ensures.1 in
    rw (lines_round c.loop-batch.batch-index c.args.batches.now (record { first = pos 0; count = pos 0; serial = pos 0; client = pos 0 }) c.loop-batch-test.true, p.1, p.2)
    (Writes-stop _ _ _ _ (Writes-then _ _ _ _ _ _ c.loop-batch.invariant c.in_err-put_batch.ensures))

pub loop-batch-preserved : goal.loop-batch-preserved
loop-batch-preserved g c =
    rw (lines_more c.loop-batch.batch-index c.args.batches.now (record { first = pos 0; count = pos 0; serial = pos 0; client = pos 0 }) c.loop-batch-test.true)
    (Writes-then _ _ _ _ _ _ c.loop-batch.invariant c.in_ok-put_batch.ensures)
