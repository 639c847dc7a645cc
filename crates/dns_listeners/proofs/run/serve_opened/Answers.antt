use Rattle.std.proofs.Common.{refl}
use Rattle.std.proofs.lemmas.Result.{err_from_is_err_and}
use Rattle.dns_listeners.specs.ServingParts.{not_opened, not_served}
use Rattle.dns_listeners.proofs.run.serve_opened.Goals as goal

pub returns-in_err-book-clause-err : goal.returns-in_err-book-clause-err
returns-in_err-book-clause-err g c =
    let p = err_from_is_err_and c.from_residual.result c.from_residual.ensures.1 in
    rw (p.1, p.2) (not_opened c.in_err-book.ensures.err c.in_err-book.ensures.kept refl refl)

pub returns-in_err-served-clause-err : goal.returns-in_err-served-clause-err
returns-in_err-served-clause-err g c =
    let p = err_from_is_err_and c.from_residual-in_err-served.result c.from_residual-in_err-served.ensures.1 in
    rw (p.1, p.2) (not_served c.in_ok-book.book c.in_ok-book.ensures.ok c.in_err-served.ensures.err)
