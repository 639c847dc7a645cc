use Rattle.std.proofs.Common.{◌∙◌}
use Rattle.dns_update.proofs.Owned.{sets_found}
use Rattle.dns_update.proofs.owners.is_in_use.Goals as goal

pub returns : goal.returns
returns c =
    c.is_some.ensures ∙ sets_found c.args.map.now.records c.new-key.result.name c.args.name.now c.sets.result (c.new-key.ensures.name ∙ c.view.ensures) c.sets.ensures.sets c.sets.ensures.some
