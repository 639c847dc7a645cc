use Rattle.std.proofs.Common.{[], ◌∙◌, Result, Ok, Err}
use Rattle.std.specs.Result.{OnErr}
use Rattle.dns_name.proofs.Wire.{IsWire-spelled, labels_of-spelled, IsName-nil}
use Rattle.dns_name.proofs.name.Name.refill.Goals as goal

at_err : {T E : Type 0} (r : Result T E) (P : Type 0) → P → OnErr r P
at_err (Ok t) P p = tt
at_err (Err e) P p = p

pub invariant_of-self : goal.invariant_of-self
invariant_of-self c = IsWire-spelled _ [] IsName-nil (c.in_err-extend_from_slice.ensures.items ∙ c.clear.ensures.items)

pub returns-in_err-extend_from_slice-clause-err : goal.returns-in_err-extend_from_slice-clause-err
returns-in_err-extend_from_slice-clause-err c = at_err c.from_residual.result _ (labels_of-spelled _ [] (c.in_err-extend_from_slice.ensures.items ∙ c.clear.ensures.items))
