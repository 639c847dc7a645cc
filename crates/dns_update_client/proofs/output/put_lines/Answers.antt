-- One line more is written, or the lines end there.
use Rattle.std.proofs.Common.{arith}
use Rattle.std.proofs.lemmas.Result.{err_from_is_err_and}
use Rattle.dns_words.proofs.TextsWritten.{Writes-stop, Writes-then}
use Rattle.dns_update_client.proofs.LinesWritten.{lines_more, lines_round}
use Rattle.dns_update_client.proofs.output.put_lines.Goals as goal

pub returns-in_err-put_code : goal.returns-in_err-put_code
returns-in_err-put_code g c =
    let p = err_from_is_err_and c.from_residual.result c.from_residual.ensures.1 in
    rw (lines_round c.args.first_id c.loop-code.code-index c.loop-code.id c.args.codes.now c.loop-code-test.true c.loop-code.invariant.id, p.1, p.2)
    (Writes-stop _ _ _ _ (Writes-then _ _ _ _ _ _ c.loop-code.invariant.written c.in_err-put_code.ensures))

pub loop-code-preserved : goal.loop-code-preserved
loop-code-preserved g c = record {
  id = omega (arith, c.loop-code.invariant.id);
  written = rw (lines_more c.args.first_id c.loop-code.code-index c.loop-code.id c.args.codes.now c.loop-code-test.true c.loop-code.invariant.id)
      (Writes-then _ _ _ _ _ _ c.loop-code.invariant.written c.in_ok-put_code.ensures);
}
