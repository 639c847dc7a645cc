use Rattle.std.proofs.lemmas.Result.{err_from_is_err_and}
use Rattle.dns_command.specs.Parts.{not_opened, not_settled}
use Rattle.dns_command.proofs.run_list.settle_events.Goals as goal

pub returns-in_err-book-clause-err : goal.returns-in_err-book-clause-err
returns-in_err-book-clause-err g c =
    let p = err_from_is_err_and c.from_residual.result c.from_residual.ensures.1 in
    rw (p.1, p.2) (not_opened c.in_err-book.ensures.err c.in_err-book.ensures.kept)

pub returns-in_err-served-clause-err : goal.returns-in_err-served-clause-err
returns-in_err-served-clause-err g c =
    let p = err_from_is_err_and c.from_residual-in_err-served.result c.from_residual-in_err-served.ensures.1 in
    rw (p.1, p.2) (not_settled c.in_ok-book.book c.in_ok-book.ensures.ok (rw c.access_of.ensures at c.in_err-served.ensures.err))

pub returns-clause-ok : goal.returns-clause-ok
returns-clause-ok g c = record {
  first = c.in_ok-book.book;
  begun = c.in_ok-book.ensures.ok;
  settled = rw c.access_of.ensures at c.in_ok-served.ensures.ok;
}
