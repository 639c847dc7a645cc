use Rattle.std.proofs.Common.{ℕ, List, ◌++◌, codes}
use Rattle.std.proofs.lemmas.Result.{err_from_is_err_and}
use Rattle.dns_command.specs.Lines.{number_line}
use Rattle.dns_words.proofs.TextsWritten.{Writes-stop, Writes-then}
use Rattle.dns_command.proofs.output.put_closing.Goals as goal

-- the three lines
abbrev serial_line : ℕ → List ℕ
serial_line n = number_line (codes "serial") n

abbrev rows_line : ℕ → List ℕ
rows_line n = number_line (codes "journal_len") n

abbrev open_line : ℕ → List ℕ
open_line n = number_line (codes "open") n

pub returns-in_err-put_number : goal.returns-in_err-put_number
returns-in_err-put_number g c =
    let p = err_from_is_err_and c.from_residual.result c.from_residual.ensures.1 in
    let first = rw c.from.ensures at c.in_err-put_number.ensures in
    rw (p.1, p.2)
    (Writes-stop _ (serial_line c.args.serial ++ rows_line c.args.length) (open_line c.args.connections) _
    (Writes-stop _ (serial_line c.args.serial) (rows_line c.args.length) _ first))

pub returns-in_err-put_number-2 : goal.returns-in_err-put_number-2
returns-in_err-put_number-2 g c =
    let p = err_from_is_err_and c.from_residual-in_err-put_number-2.result c.from_residual-in_err-put_number-2.ensures.1 in
    let first = rw c.from.ensures at c.in_ok-put_number.ensures in
    let second = rw c.from-2.ensures at c.in_err-put_number-2.ensures in
    rw (p.1, p.2)
    (Writes-stop _ (serial_line c.args.serial ++ rows_line c.args.length) (open_line c.args.connections) _
    (Writes-then _ _ _ (serial_line c.args.serial) (rows_line c.args.length) _ first second))

pub returns : goal.returns
returns g c =
    let first = rw c.from.ensures at c.in_ok-put_number.ensures in
    let second = rw c.from-2.ensures at c.in_ok-put_number-2.ensures in
    let third = rw c.from-3.ensures at c.put_number-3.ensures in
    Writes-then _ _ _ (serial_line c.args.serial ++ rows_line c.args.length) (open_line c.args.connections) _
    (Writes-then _ _ _ (serial_line c.args.serial) (rows_line c.args.length) _ first second) third
