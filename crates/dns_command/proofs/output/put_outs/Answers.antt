-- One line more is written, or the lines end there.
use Rattle.std.proofs.lemmas.Result.{err_from_is_err_and}
use Rattle.dns_words.proofs.TextsWritten.{Writes-stop, Writes-then}
use Rattle.dns_command.proofs.LinesWritten.{lines_round}
use Rattle.dns_command.proofs.output.put_outs.Goals as goal

pub returns-in_err-put_out : goal.returns-in_err-put_out
returns-in_err-put_out g c =
    let p = err_from_is_err_and c.from_residual.result c.from_residual.ensures.1 in
    rw (lines_round c.args.outs.now c.loop-one.one-index c.one-item.result c.loop-one-test.true c.one-item.is, p.1, p.2)
    (Writes-stop _ _ _ _ (Writes-then _ _ _ _ _ _ c.loop-one.invariant c.in_err-put_out.ensures))
