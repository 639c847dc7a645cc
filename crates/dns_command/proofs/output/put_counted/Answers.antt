use Rattle.std.proofs.Common.{ℕ, List, ◌++◌, codes}
use Rattle.std.proofs.lemmas.Result.{err_from_is_err_and}
use Rattle.dns_generator.specs.declared.summary.Summary.{Summary}
use Rattle.dns_command.specs.Lines.{number_line}
use Rattle.dns_words.proofs.TextsWritten.{Writes-stop, Writes-then}
use Rattle.dns_command.proofs.output.put_counted.Goals as goal

-- the five lines, and those from each of them on
abbrev messages : ℕ → List ℕ
messages n = number_line (codes "messages") n

abbrev replies : Summary → List ℕ
replies s = number_line (codes "replies") s.replies

abbrev bytes : Summary → List ℕ
bytes s = number_line (codes "bytes") s.bytes

abbrev noerror : Summary → List ℕ
noerror s = number_line (codes "noerror") s.no_error

abbrev nxdomain : Summary → List ℕ
nxdomain s = number_line (codes "nxdomain") s.nx_domain

abbrev from_noerror : Summary → List ℕ
from_noerror s = noerror s ++ nxdomain s

abbrev from_bytes : Summary → List ℕ
from_bytes s = bytes s ++ from_noerror s

abbrev from_replies : Summary → List ℕ
from_replies s = replies s ++ from_bytes s

pub returns-in_err-put_number : goal.returns-in_err-put_number
returns-in_err-put_number g c =
    let p = err_from_is_err_and c.from_residual.result c.from_residual.ensures.1 in
    let first = rw c.from.ensures at c.in_err-put_number.ensures in
    rw (p.1, p.2) (Writes-stop _ (messages c.args.messages) (from_replies c.args.summary.now) _ first)

pub returns-in_err-put_number-2 : goal.returns-in_err-put_number-2
returns-in_err-put_number-2 g c =
    let p = err_from_is_err_and c.from_residual-in_err-put_number-2.result c.from_residual-in_err-put_number-2.ensures.1 in
    let first = rw c.from.ensures at c.in_ok-put_number.ensures in
    rw (p.1, p.2)
    (Writes-then _ _ _ (messages c.args.messages) (from_replies c.args.summary.now) _ first
    (Writes-stop _ (replies c.args.summary.now) (from_bytes c.args.summary.now) _ c.in_err-put_number-2.ensures))

pub returns-in_err-put_number-3 : goal.returns-in_err-put_number-3
returns-in_err-put_number-3 g c =
    let p = err_from_is_err_and c.from_residual-in_err-put_number-3.result c.from_residual-in_err-put_number-3.ensures.1 in
    let first = rw c.from.ensures at c.in_ok-put_number.ensures in
    rw (p.1, p.2)
    (Writes-then _ _ _ (messages c.args.messages) (from_replies c.args.summary.now) _ first
    (Writes-then _ _ _ (replies c.args.summary.now) (from_bytes c.args.summary.now) _ c.in_ok-put_number-2.ensures
    (Writes-stop _ (bytes c.args.summary.now) (from_noerror c.args.summary.now) _ c.in_err-put_number-3.ensures)))

pub returns-in_err-put_number-4 : goal.returns-in_err-put_number-4
returns-in_err-put_number-4 g c =
    let p = err_from_is_err_and c.from_residual-in_err-put_number-4.result c.from_residual-in_err-put_number-4.ensures.1 in
    let first = rw c.from.ensures at c.in_ok-put_number.ensures in
    rw (p.1, p.2)
    (Writes-then _ _ _ (messages c.args.messages) (from_replies c.args.summary.now) _ first
    (Writes-then _ _ _ (replies c.args.summary.now) (from_bytes c.args.summary.now) _ c.in_ok-put_number-2.ensures
    (Writes-then _ _ _ (bytes c.args.summary.now) (from_noerror c.args.summary.now) _ c.in_ok-put_number-3.ensures
    (Writes-stop _ (noerror c.args.summary.now) (nxdomain c.args.summary.now) _ c.in_err-put_number-4.ensures))))

pub returns : goal.returns
returns g c =
    let first = rw c.from.ensures at c.in_ok-put_number.ensures in
    Writes-then _ _ _ (messages c.args.messages) (from_replies c.args.summary.now) _ first
    (Writes-then _ _ _ (replies c.args.summary.now) (from_bytes c.args.summary.now) _ c.in_ok-put_number-2.ensures
    (Writes-then _ _ _ (bytes c.args.summary.now) (from_noerror c.args.summary.now) _ c.in_ok-put_number-3.ensures
    (Writes-then _ _ _ (noerror c.args.summary.now) (nxdomain c.args.summary.now) _ c.in_ok-put_number-4.ensures c.put_number-5.ensures)))
