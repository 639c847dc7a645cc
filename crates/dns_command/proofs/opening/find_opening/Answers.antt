use Rattle.std.proofs.Common.{refl}
use Rattle.std.proofs.lemmas.Result.{err_from_is_err_and}
use Rattle.dns_command.specs.Steps.{unseen, no_zone}
use Rattle.dns_command.proofs.opening.find_opening.Goals as goal

pub returns-in_err-has_rows-clause-err : goal.returns-in_err-has_rows-clause-err
returns-in_err-has_rows-clause-err g c =
    let p = err_from_is_err_and c.from_residual.result c.from_residual.ensures.1 in
    rw (p.1, p.2) (unseen c.in_err-has_rows.ensures.err refl)

pub returns-in_err-zone-clause-err : goal.returns-in_err-zone-clause-err
returns-in_err-zone-clause-err g c =
    let p = err_from_is_err_and c.from_residual-in_err-zone.result c.from_residual-in_err-zone.ensures.1 in
    rw (p.1, p.2) (no_zone (c.in_ok-has_rows.ensures.none c.if-branch.false) c.in_ok-has_rows.ensures.still c.in_err-zone.ensures.err)
