use Rattle.std.proofs.Common.{rules, subst, length}
use Rattle.dns_zone_map.specs.Sets.{ArePaired, TypesRise}
use Rattle.dns_zone_map.specs.Tree.{KeysApart}
use Rattle.dns_zone_map.proofs.Table.{apart_all, found_tree}
use Rattle.dns_zone_map.proofs.Lifted.{held_by, one_taken, table_one_taken, others}
use Rattle.dns_zone_map.proofs.names.Names.one_from.Goals as goal

pub one_from-requires-clause-rise : goal.one_from-requires-clause-rise
one_from-requires-clause-rise c =
    let ts = c.self.inside.trees.items in
    let t = c.index_mut-tree.result.now in
    let p = found_tree ts c.args.key.now c.len.result c.place_of-place.result t c.self.invariant (search rules) c.place_of-place.ensures.is c.place_of-place.ensures.within (search rules) in
    held_by ts t t c.args.key.now c.place_of-place.result p _ c.self.view_is (λ e. TypesRise e.1) c.requires.rise

pub one_from-requires-clause-paired : goal.one_from-requires-clause-paired
one_from-requires-clause-paired c =
    let ts = c.self.inside.trees.items in
    let t = c.index_mut-tree.result.now in
    let p = found_tree ts c.args.key.now c.len.result c.place_of-place.result t c.self.invariant (search rules) c.place_of-place.ensures.is c.place_of-place.ensures.within (search rules) in
    held_by ts t t c.args.key.now c.place_of-place.result p _ c.self.view_is (λ e. ArePaired e.1) c.requires.paired

pub invariant_of-self : goal.invariant_of-self
invariant_of-self c =
    let ts = c.self.inside.trees.items in
    let t = c.index_mut-tree.result.now in
    let p = found_tree ts c.args.key.now c.len.result c.place_of-place.result t c.self.invariant (search rules) c.place_of-place.ensures.is c.place_of-place.ensures.within (search rules) in
    table_one_taken ts t c.one_from.new.names c.args.key.now c.place_of-place.result p _ c.self.view_is c.args.one.now c.one_from.result c.one_from.ensures.is

pub returns-clause-is : goal.returns-clause-is
returns-clause-is c =
    let ts = c.self.inside.trees.items in
    let t = c.index_mut-tree.result.now in
    let p = found_tree ts c.args.key.now c.len.result c.place_of-place.result t c.self.invariant (search rules) c.place_of-place.ensures.is c.place_of-place.ensures.within (search rules) in
    one_taken ts t c.one_from.new.names c.args.key.now c.place_of-place.result p _ c.self.view_is c.args.one.now c.one_from.result c.one_from.ensures.is

pub returns-clause-others : goal.returns-clause-others
returns-clause-others c =
    let ts = c.self.inside.trees.items in
    let t = c.index_mut-tree.result.now in
    let p = found_tree ts c.args.key.now c.len.result c.place_of-place.result t c.self.invariant (search rules) c.place_of-place.ensures.is c.place_of-place.ensures.within (search rules) in
    others ts t c.one_from.new.names c.args.key.now c.place_of-place.result p _ c.self.view_is c.one_from.ensures.others

pub returns-clause-apart : goal.returns-clause-apart
returns-clause-apart c = subst KeysApart c.self.view_is (apart_all (length c.self.inside.trees.items) 0 c.self.inside.trees.items c.self.invariant.each)
