use Rattle.std.proofs.Common.{◌∙◌, sym, ap}
use Rattle.dns_name.specs.Name.{is_same_name}
use Rattle.std.specs.Prelude.{◌&&◌}
use Rattle.dns_zone_map.specs.Changes.{is_kept_type}
use Rattle.dns_update.proofs.MapSets.{kept_set, free_set}
use Rattle.dns_update.proofs.changing.takes_set.Goals as goal

pub returns-then-is_kept_set : goal.returns-then-is_kept_set
returns-then-is_kept_set c =
    kept_set c.args.map.now.origin c.args.name.now c.args.rtype c.args.map.now.records
    (sym (ap (λ o. is_same_name c.args.name.now o && is_kept_type c.args.rtype) c.origin.ensures) ∙ sym c.is_kept_set.ensures ∙ c.if-is_kept_set.true)

pub returns : goal.returns
returns c =
    c.owns_type.ensures
    ∙ free_set c.args.map.now.origin c.args.name.now c.args.rtype c.args.map.now.records
    (sym (ap (λ o. is_same_name c.args.name.now o && is_kept_type c.args.rtype) c.origin.ensures) ∙ sym c.is_kept_set.ensures ∙ c.if-is_kept_set.false)
