use Rattle.std.proofs.Common.{◌≡◌, true, sym, ap, ◌∙◌}
use Rattle.dns_name.specs.Name.{is_at_or_below}
use Rattle.dns_zone.proofs.Placing.{put_alone, placed_over}
use Rattle.dns_zone.proofs.placement.place.Goals as goal

pub returns-in-New-clause-ok : goal.returns-in-New-clause-ok
returns-in-New-clause-ok c =
    let within : is_at_or_below c.args.one.name c.args.map.now.origin ≡ true =
    ap (is_at_or_below c.args.one.name) (sym c.origin.ensures) ∙ sym c.at_or_below.ensures.test ∙ c.if-not-at_or_below.false in
    let put = put_alone c.args.one c.args.map.now.records c.put_beside.new.self.records c.in_ok-put_beside.field-0 c.in-New.is c.in_ok-put_beside.ensures.put in
    placed_over c.args.map.now.origin c.args.map.now.records c.args.one c.put_beside.new.self.records within (sym c.is_soa_too_many.ensures ∙ c.if-is_soa_too_many.false) put.alone put.is
