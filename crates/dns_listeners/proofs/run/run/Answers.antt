use Rattle.std.proofs.Common.{None, refl, sym, ◌∙◌}
use Rattle.dns_command.proofs.ServingEndings.{if_some}
use Rattle.dns_listeners.proofs.RunEndings.{by_serve, by_events, for_memory}
use Rattle.dns_listeners.proofs.run.run.Goals as goal

pub returns-in-Ok-Some-clause-ends : goal.returns-in-Ok-Some-clause-ends
returns-in-Ok-Some-clause-ends g c =
    let legal = rw c.as_slice.ensures.value at (sym c.in-Ok-Some.ensures.is ∙ c.in-Ok-Some.field-0-is) in
    if_some c.serve.result.keeper _ _ c.serve.ensures.ends (λ left ends. (ends.0, ends.1, by_serve _ _ _ _ _ legal (ends.2 _ legal)))

pub returns-in-Ok-None-clause-ends : goal.returns-in-Ok-None-clause-ends
returns-in-Ok-None-clause-ends g c =
    let none = rw c.as_slice.ensures.value at (sym c.in-Ok-None.ensures.is ∙ c.in-Ok-None.field-0-is) in
    if_some c.run_list.result.keeper _ _ c.run_list.ensures.ends (λ left tells. (tells.0, tells.1, by_events _ _ _ _ none refl tells.2))

pub returns-in-Err-clause-ends : goal.returns-in-Err-clause-ends
returns-in-Err-clause-ends g c = (None, refl, for_memory _ _ _ refl refl refl refl refl refl)
