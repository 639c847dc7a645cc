use Rattle.std.proofs.Common.{◌∙◌, ap}
use Rattle.std.specs.List.{list_any}
use Rattle.dns_update.specs.Change.{is_same_record}
use Rattle.dns_update.proofs.MapSets.{some_set, no_set, same_in_set}
use Rattle.dns_update.proofs.changing.has_record.Goals as goal

pub returns-in-Some : goal.returns-in-Some
returns-in-Some c =
    let r = c.args.one.now in
    c.is_among.ensures ∙ ap (list_any (is_same_record r)) c.as_slice.ensures
    ∙ some_set (is_same_record r) c.args.map.now.records r.name r.rtype (same_in_set r) c.in-Some.set.now c.in-Some.ensures

pub returns-in-None : goal.returns-in-None
returns-in-None c =
    let r = c.args.one.now in
    no_set (is_same_record r) c.args.map.now.records r.name r.rtype (same_in_set r) c.in-None.ensures
