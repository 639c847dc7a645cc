use Rattle.std.proofs.lemmas.Result.{IfOk-weaker}
use Rattle.dns_keeper.proofs.stamping.stamp.Goals as goal

pub returns : goal.returns
returns c = IfOk-weaker c.stamp_text.result _ _ (λ s is. record { shown = c.in-Some.shown; at = c.in-Some.ensures; is = is }) c.stamp_text.ensures
