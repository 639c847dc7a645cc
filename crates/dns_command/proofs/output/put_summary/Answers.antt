use Rattle.std.proofs.lemmas.Result.{err_from_is_err_and}
use Rattle.dns_words.proofs.TextsWritten.{Writes-stop, Writes-then, Whole-stop, Whole-flush}
use Rattle.dns_command.proofs.output.put_summary.Goals as goal

pub returns-in_err-put_counted : goal.returns-in_err-put_counted
returns-in_err-put_counted g c =
    let p = err_from_is_err_and c.from_residual.result c.from_residual.ensures.1 in
    rw (p.1, p.2) (Whole-stop _ _ _ (Writes-stop _ _ _ _ c.in_err-put_counted.ensures))

pub returns-in_err-put_closing : goal.returns-in_err-put_closing
returns-in_err-put_closing g c =
    let p = err_from_is_err_and c.from_residual-in_err-put_closing.result c.from_residual-in_err-put_closing.ensures.1 in
    rw (p.1, p.2) (Whole-stop _ _ _ (Writes-then _ _ _ _ _ _ c.in_ok-put_counted.ensures c.in_err-put_closing.ensures))

pub returns : goal.returns
returns g c =
    let written = Writes-then _ _ _ _ _ _ c.in_ok-put_counted.ensures c.in_ok-put_closing.ensures in
    Whole-flush _ _ _ _ _ written c.flush.ensures.told.kept c.flush.ensures.told.all c.flush.ensures.told.cause
