use Rattle.std.proofs.Common.{rules, subst, length}
use Rattle.dns_zone_map.specs.Sets.{TypesRise}
use Rattle.dns_zone_map.specs.Tree.{KeysApart}
use Rattle.dns_zone_map.proofs.Table.{apart_all, found_tree}
use Rattle.dns_zone_map.proofs.Lifted.{held_by, taken, table_taken, others}
use Rattle.dns_zone_map.proofs.names.Names.take_from.Goals as goal

pub take_from-requires : goal.take_from-requires
take_from-requires c =
    let ts = c.self.inside.trees.items in
    let t = c.index_mut-tree.result.now in
    let p = found_tree ts c.args.key.now c.len.result c.place_of-place.result t c.self.invariant (search rules) c.place_of-place.ensures.is c.place_of-place.ensures.within (search rules) in
    held_by ts t t c.args.key.now c.place_of-place.result p _ c.self.view_is (λ e. TypesRise e.1) c.requires

pub invariant_of-self : goal.invariant_of-self
invariant_of-self c =
    let ts = c.self.inside.trees.items in
    let t = c.index_mut-tree.result.now in
    let p = found_tree ts c.args.key.now c.len.result c.place_of-place.result t c.self.invariant (search rules) c.place_of-place.ensures.is c.place_of-place.ensures.within (search rules) in
    table_taken ts t c.take_from.new.names c.args.key.now c.place_of-place.result p _ c.self.view_is c.args.rtype c.take_from.result c.take_from.ensures.is

pub returns-clause-is : goal.returns-clause-is
returns-clause-is c =
    let ts = c.self.inside.trees.items in
    let t = c.index_mut-tree.result.now in
    let p = found_tree ts c.args.key.now c.len.result c.place_of-place.result t c.self.invariant (search rules) c.place_of-place.ensures.is c.place_of-place.ensures.within (search rules) in
    taken ts t c.take_from.new.names c.args.key.now c.place_of-place.result p _ c.self.view_is c.args.rtype c.take_from.result c.take_from.ensures.is

pub returns-clause-others : goal.returns-clause-others
returns-clause-others c =
    let ts = c.self.inside.trees.items in
    let t = c.index_mut-tree.result.now in
    let p = found_tree ts c.args.key.now c.len.result c.place_of-place.result t c.self.invariant (search rules) c.place_of-place.ensures.is c.place_of-place.ensures.within (search rules) in
    others ts t c.take_from.new.names c.args.key.now c.place_of-place.result p _ c.self.view_is c.take_from.ensures.others

pub returns-clause-apart : goal.returns-clause-apart
returns-clause-apart c = subst KeysApart c.self.view_is (apart_all (length c.self.inside.trees.items) 0 c.self.inside.trees.items c.self.invariant.each)
