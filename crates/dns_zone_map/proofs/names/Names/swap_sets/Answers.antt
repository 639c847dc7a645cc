use Rattle.std.proofs.Common.{rules, subst, length}
use Rattle.dns_zone_map.specs.Tree.{KeysApart}
use Rattle.dns_zone_map.proofs.Table.{apart_all, found_tree}
use Rattle.dns_zone_map.proofs.Lifted.{written, table_written}
use Rattle.dns_zone_map.proofs.names.Names.swap_sets.Goals as goal

pub invariant_of-self : goal.invariant_of-self
invariant_of-self c =
    let ts = c.self.inside.trees.items in
    let t = c.index_mut-tree.result.now in
    let p = found_tree ts c.args.key.now c.len.result c.place_of-place.result t c.self.invariant (search rules) c.place_of-place.ensures.is c.place_of-place.ensures.within (search rules) in
    table_written ts t c.swap_sets.new.names c.args.key.now c.place_of-place.result p _ c.self.view_is c.args.sets.now c.swap_sets.ensures

pub returns-clause-sets : goal.returns-clause-sets
returns-clause-sets c =
    let ts = c.self.inside.trees.items in
    let t = c.index_mut-tree.result.now in
    let p = found_tree ts c.args.key.now c.len.result c.place_of-place.result t c.self.invariant (search rules) c.place_of-place.ensures.is c.place_of-place.ensures.within (search rules) in
    written ts t c.swap_sets.new.names c.args.key.now c.place_of-place.result p _ c.self.view_is c.args.sets.now c.swap_sets.ensures

pub returns-clause-apart : goal.returns-clause-apart
returns-clause-apart c = subst KeysApart c.self.view_is (apart_all (length c.self.inside.trees.items) 0 c.self.inside.trees.items c.self.invariant.each)
