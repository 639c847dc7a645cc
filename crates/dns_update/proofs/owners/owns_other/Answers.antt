use Rattle.std.proofs.Common.{◌∙◌, ap, []}
use Rattle.std.specs.Prelude.{◌==◌, not}
use Rattle.std.specs.List.{list_any}
use Rattle.dns_update.proofs.MapSets.{other_sets}
use Rattle.dns_update.proofs.owners.owns_other.Goals as goal

pub returns-in-Some : goal.returns-in-Some
returns-in-Some c =
    c.has_other.ensures ∙ ap (list_any (λ set. not (set.rtype == 5))) c.as_slice.ensures
    ∙ other_sets c.args.map.now.records c.new-key.result.name c.args.name.now c.in-Some.sets.now (c.new-key.ensures.name ∙ c.view.ensures) c.in-Some.ensures.sets

pub returns-in-None : goal.returns-in-None
returns-in-None c = other_sets c.args.map.now.records c.new-key.result.name c.args.name.now [] (c.new-key.ensures.name ∙ c.view.ensures) c.in-None.ensures.sets
