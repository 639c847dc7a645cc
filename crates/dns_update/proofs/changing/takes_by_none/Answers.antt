use Rattle.std.proofs.Common.{◌∙◌, ap}
use Rattle.std.specs.List.{list_any}
use Rattle.dns_update.specs.Change.{is_taken_by_none, ns_count}
use Rattle.dns_update.proofs.MapSets.{some_set, no_set, taken_in_set}
use Rattle.dns_update.proofs.changing.takes_by_none.Goals as goal

pub returns-in-Some : goal.returns-in-Some
returns-in-Some c =
    let r = c.args.one.now in
    let z = c.args.map.now in
    let p = is_taken_by_none z.origin (ns_count z.origin z.records) r in
    rw (c.origin.ensures, c.ns_count.ensures) at (c.takes_one.ensures) ∙ ap (list_any p) c.as_slice.ensures
    ∙ some_set p z.records r.name r.rtype (taken_in_set z.origin (ns_count z.origin z.records) r) c.in-Some.set.now c.in-Some.ensures

pub returns-in-None : goal.returns-in-None
returns-in-None c =
    let r = c.args.one.now in
    let z = c.args.map.now in
    no_set (is_taken_by_none z.origin (ns_count z.origin z.records) r) z.records r.name r.rtype (taken_in_set z.origin (ns_count z.origin z.records) r) c.in-None.ensures
