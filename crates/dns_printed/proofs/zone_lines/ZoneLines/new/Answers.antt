use Rattle.std.proofs.Common.{◌∙◌, map, ap, sym, subst, Bor}
use Rattle.std.specs.List.{AllByRecursion}
use Rattle.dns_wire.specs.declared.record.Record.{Record}
use Rattle.dns_wire.specs.Kept.{IsKept}
use Rattle.dns_printed.proofs.Alone.{lone_from}
use Rattle.dns_printed.proofs.Whole.{zone_back}
use Rattle.dns_printed.proofs.zone_lines.ZoneLines.new.Goals as goal

pub returns-clause-read : goal.returns-clause-read
returns-clause-read c =
    let origin = c.args.zone.now.origin in
    let records = c.args.zone.now.records in
    let zone = c.in_ok-records.ensures.zone in
    zone_back origin records zone
    (subst (AllByRecursion IsKept) (ap (map (λ (r : Bor Record). r.now)) c.deref-2.ensures.value ∙ c.in_ok-records.ensures.records) c.kept_listed.ensures)
    (lone_from origin records zone (sym c.has_alias_beside_other.ensures ∙ c.if-has_alias_beside_other.false))
