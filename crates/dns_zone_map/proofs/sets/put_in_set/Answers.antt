use Rattle.std.proofs.Common.{sym, ap, ◌∙◌}
use Rattle.std.specs.List.{list_any}
use Rattle.dns_zone_map.specs.Zone.{is_rival}
use Rattle.dns_zone_map.proofs.Putting.{first_none}
use Rattle.dns_zone_map.proofs.sets.put_in_set.Goals as goal

pub returns-in_ok-pushed-in-Err-clause-replaced : goal.returns-in_ok-pushed-in-Err-clause-replaced
returns-in_ok-pushed-in-Err-clause-replaced c =
    sym (first_none (is_rival c.args.one) c.args.set.now.records (ap (list_any (is_rival c.args.one)) (sym (c.into_vec-records.ensures ∙ c.replace.ensures.value)) ∙ c.in-Err.ensures.none))
