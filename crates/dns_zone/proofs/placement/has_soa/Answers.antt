use Rattle.std.proofs.Common.{sym, ap, ◌∙◌}
use Rattle.std.specs.Prelude.{is_some}
use Rattle.dns_zone_map.specs.Sets.{some_of}
use Rattle.dns_zone_map.specs.Zone.{set_of}
use Rattle.dns_zone_map.proofs.Besides.{soa_is, copied_some}
use Rattle.dns_zone.proofs.placement.has_soa.Goals as goal

pub returns : goal.returns
returns c =
    c.is_some.ensures ∙ copied_some c.set.result ∙ ap is_some c.set.ensures
    ∙ ap (λ origin. is_some (some_of (set_of c.args.map.now.records origin 6))) c.origin.ensures
    ∙ sym (soa_is c.args.map.now.origin c.args.map.now.records c.requires)
