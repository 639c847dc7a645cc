use Rattle.std.proofs.Common.{◌++◌, ◌∷◌, [], sym, ap, ◌∙◌}
use Rattle.std.proofs.lemmas.Result.{on_ok_weaker}
use Rattle.dns_keeper.specs.Batches.{counted_up}
use Rattle.dns_keeper.proofs.RunsGrow.{counted_last}
use Rattle.dns_keeper.proofs.row_runs.count_up.Goals as goal

pub returns-in-Some-longer : goal.returns-in-Some-longer
returns-in-Some-longer c =
    let front = c.pop.new.self.items in
    on_ok_weaker c.push.result (λ e. e ∙ ap (λ b. front ++ b ∷ []) c.in-Some-longer.ensures ∙ sym (ap counted_up c.in-Some.ensures.items ∙ counted_last front c.in-Some.last)) c.push.ensures
