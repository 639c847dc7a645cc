use Rattle.std.proofs.Common.{◌∙◌, ap, []}
use Rattle.std.specs.Prelude.{◌&&◌, not}
use Rattle.std.specs.List.{list_any}
use Rattle.dns_name.specs.Name.{is_same_name}
use Rattle.dns_zone_map.specs.Changes.{is_kept_type}
use Rattle.dns_update.proofs.MapSets.{named_sets}
use Rattle.dns_update.proofs.changing.takes_any_set.Goals as goal

pub returns-in-Some : goal.returns-in-Some
returns-in-Some c =
    let z = c.args.map.now in
    let name = c.args.name.now in
    c.has_free_set.ensures ∙ ap (list_any (λ set. not (c.same-keeps.result && is_kept_type set.rtype))) c.as_slice.ensures
    ∙ named_sets z.origin z.records c.new-key.result.name name c.in-Some.sets.now c.same-keeps.result (c.new-key.ensures.name ∙ c.view.ensures) (c.same-keeps.ensures.test ∙ ap (is_same_name name) c.origin.ensures) c.in-Some.ensures.sets

pub returns-in-None : goal.returns-in-None
returns-in-None c =
    let z = c.args.map.now in
    let name = c.args.name.now in
    named_sets z.origin z.records c.new-key.result.name name [] c.same-keeps.result (c.new-key.ensures.name ∙ c.view.ensures) (c.same-keeps.ensures.test ∙ ap (is_same_name name) c.origin.ensures) c.in-None.ensures.sets
