use Rattle.std.proofs.Common.{codes}
use Rattle.std.proofs.lemmas.Result.{err_from_is_err_and}
use Rattle.dns_command.specs.Lines.{number_line}
use Rattle.dns_words.proofs.TextsWritten.{Writes-stop, Writes-then, Whole-stop, Whole-flush}
use Rattle.dns_command.proofs.output.put_totals.Goals as goal

pub returns-in_err-put_number : goal.returns-in_err-put_number
returns-in_err-put_number g c =
    let p = err_from_is_err_and c.from_residual.result c.from_residual.ensures.1 in
    let first = rw c.from.ensures at c.in_err-put_number.ensures in
    rw (p.1, p.2) (Whole-stop _ _ _ (Writes-stop _ (number_line (codes "serial") c.args.serial) _ _ first))

pub returns-in_err-put_number-2 : goal.returns-in_err-put_number-2
returns-in_err-put_number-2 g c =
    let p = err_from_is_err_and c.from_residual-in_err-put_number-2.result c.from_residual-in_err-put_number-2.ensures.1 in
    let first = rw c.from.ensures at c.in_ok-put_number.ensures in
    let second = rw c.from-2.ensures at c.in_err-put_number-2.ensures in
    rw (p.1, p.2) (Whole-stop _ _ _ (Writes-then _ _ _ (number_line (codes "serial") c.args.serial) _ _ first second))

pub returns : goal.returns
returns g c =
    let first = rw c.from.ensures at c.in_ok-put_number.ensures in
    let second = rw c.from-2.ensures at c.in_ok-put_number-2.ensures in
    let written = Writes-then _ _ _ (number_line (codes "serial") c.args.serial) _ _ first second in
    Whole-flush _ _ _ _ _ written c.flush.ensures.told.kept c.flush.ensures.told.all c.flush.ensures.told.cause
