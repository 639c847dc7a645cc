use Rattle.std.proofs.Common.{rules, subst, length}
use Rattle.dns_zone_map.specs.Tree.{KeysApart}
use Rattle.dns_zone_map.proofs.Table.{apart_all, found_tree}
use Rattle.dns_zone_map.proofs.Lifted.{copied}
use Rattle.dns_zone_map.proofs.names.Names.copied_sets.Goals as goal

pub returns-clause-sets : goal.returns-clause-sets
returns-clause-sets c =
    let ts = c.self.inside.trees.items in
    let t = c.index.result.now in
    let p = found_tree ts c.args.key.now c.len.result c.place_of-place.result t c.self.invariant (search rules) c.place_of-place.ensures.is c.place_of-place.ensures.within (search rules) in
    copied ts t t c.args.key.now c.place_of-place.result p _ c.self.view_is c.copied_sets.result c.copied_sets.ensures

pub returns-clause-apart : goal.returns-clause-apart
returns-clause-apart c = subst KeysApart c.self.view_is (apart_all (length c.self.inside.trees.items) 0 c.self.inside.trees.items c.self.invariant.each)
