use Rattle.std.proofs.Common.{◌∙◌, sym, ap}
use Rattle.std.specs.List.{list_any}
use Rattle.dns_zone_map.specs.Zone.{is_type}
use Rattle.dns_zone.specs.Replayed.{Replayed}
use Rattle.dns_zone.proofs.TakenRows.{soa_missing}
use Rattle.dns_zone.proofs.replaying.Replaying.finish.Goals as goal

pub returns-then-not-has_soa-clause-fault : goal.returns-then-not-has_soa-clause-fault
returns-then-not-has_soa-clause-fault c =
    soa_missing c.args.self c.without_soa.result c.without_soa.ensures
    (ap (λ (s : Replayed). list_any (is_type 6) s.records) (sym c.self.view_is) ∙ sym c.has_soa.ensures ∙ c.if-not-has_soa.true)
