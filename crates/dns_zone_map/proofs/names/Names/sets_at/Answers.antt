use Rattle.std.proofs.Common.{◌∙◌, sym, ap, rules, subst, length}
use Rattle.dns_zone_map.specs.Sets.{sets_or_none}
use Rattle.dns_zone_map.specs.Tree.{KeysApart}
use Rattle.dns_zone_map.proofs.Table.{apart_all, found_tree}
use Rattle.dns_zone_map.proofs.Lifted.{seen}
use Rattle.dns_zone_map.proofs.names.Names.sets_at.Goals as goal

pub returns-clause-sets : goal.returns-clause-sets
returns-clause-sets c =
    let ts = c.self.inside.trees.items in
    let t = c.index.result.now in
    let p = found_tree ts c.args.key.now c.len.result c.place_of-place.result t c.self.invariant (search rules) c.place_of-place.ensures.is c.place_of-place.ensures.within (search rules) in
    c.sets_at.ensures.sets ∙ sym (ap sets_or_none (seen ts t t c.args.key.now c.place_of-place.result p _ c.self.view_is))

pub returns-clause-apart : goal.returns-clause-apart
returns-clause-apart c = subst KeysApart c.self.view_is (apart_all (length c.self.inside.trees.items) 0 c.self.inside.trees.items c.self.invariant.each)
