-- What is found, and heard, for a drawn list of events.
use Rattle.std.proofs.Common.{Result, Ok, Err, IfOk, IfErr}

-- what holds of an answer, beside a fact that does not speak of it
pub ok_with : {A E : Type 0} (r : Result A E) (P : A → Type 0) (X : Type 0) → IfOk r P → X → IfOk r (λ a. P a × X)
ok_with (Ok a) P X p x = (p, x)
ok_with (Err e) P X p x = tt

pub err_with : {A E : Type 0} (r : Result A E) (P : E → Type 0) (X : Type 0) → IfErr r P → X → IfErr r (λ e. P e × X)
err_with (Ok a) P X p x = tt
err_with (Err e) P X p x = (p, x)
