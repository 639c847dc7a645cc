use Rattle.std.proofs.Common.{◌∙◌, [], ap, map, sym}
use Rattle.dns_wire.specs.Given.{negative}
use Rattle.dns_zone_map.specs.Sets.{records_or_none}
use Rattle.dns_zone_map.proofs.Owned.{set_is}
use Rattle.dns_zone.proofs.lookup.negative_soa.Goals as goal

pub returns-in-None : goal.returns-in-None
returns-in-None c = c.none.ensures ∙ ap (map negative) (sym (set_is c.args.map.now.records c.args.map.now.origin [] 6 c.in-None.ensures))

pub returns-in-None-set : goal.returns-in-None-set
returns-in-None-set c =
    c.none-in-None-set.ensures
    ∙ ap (λ found. map negative (records_or_none found)) c.in-None-set.ensures
    ∙ ap (map negative) (sym (set_is c.args.map.now.records c.args.map.now.origin c.in-Some.sets.now 6 c.in-Some.ensures))

pub returns-in-Some-set : goal.returns-in-Some-set
returns-in-Some-set c =
    c.negative.ensures
    ∙ ap (map negative) (c.as_slice.ensures ∙ c.records.ensures)
    ∙ ap (λ found. map negative (records_or_none found)) c.in-Some-set.ensures
    ∙ ap (map negative) (sym (set_is c.args.map.now.records c.args.map.now.origin c.in-Some.sets.now 6 c.in-Some.ensures))
