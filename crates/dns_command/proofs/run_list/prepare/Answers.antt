use Rattle.std.proofs.Common.{refl, sym, ◌∙◌}
use Rattle.std.proofs.lemmas.Result.{err_from_is_err_and}
use Rattle.dns_command.specs.Steps.{at_words, without_memory, at_finding, at_events}
use Rattle.dns_command.proofs.run_list.prepare.Goals as goal

pub returns-in-Ok-None-clause-err : goal.returns-in-Ok-None-clause-err
returns-in-Ok-None-clause-err g c =
    at_words (rw c.as_slice.ensures.value at (sym c.in-Ok-None.ensures.is ∙ c.in-Ok-None.field-0-is))
    refl refl refl refl

pub returns-in-Err-clause-err : goal.returns-in-Err-clause-err
returns-in-Err-clause-err g c =
    without_memory refl refl refl refl

pub returns-in_err-opening-clause-err : goal.returns-in_err-opening-clause-err
returns-in_err-opening-clause-err g c =
    let legal = rw c.as_slice.ensures.value at (sym c.in-Ok-Some.ensures.is ∙ c.in-Ok-Some.field-0-is) in
    let p = err_from_is_err_and c.from_residual.result c.from_residual.ensures.1 in
    rw (p.1, p.2) (at_finding c.in-Ok-Some.options legal c.in_err-opening.ensures.err refl refl)

pub returns-in_err-events-clause-err : goal.returns-in_err-events-clause-err
returns-in_err-events-clause-err g c =
    let legal = rw c.as_slice.ensures.value at (sym c.in-Ok-Some.ensures.is ∙ c.in-Ok-Some.field-0-is) in
    let p = err_from_is_err_and c.from_residual-in_err-events.result c.from_residual-in_err-events.ensures.1 in
    rw (p.1, p.2) (at_events c.in-Ok-Some.options c.in_ok-opening.opening legal c.in_ok-opening.ensures.ok c.in_ok-opening.ensures.still c.in_err-events.ensures.err refl)
