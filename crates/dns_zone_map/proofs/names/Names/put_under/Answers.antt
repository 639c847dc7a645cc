use Rattle.std.proofs.Common.{rules, subst, length}
use Rattle.dns_zone_map.specs.Sets.{TypesRise}
use Rattle.dns_zone_map.specs.Tree.{KeysApart}
use Rattle.dns_zone_map.proofs.Table.{apart_all, found_tree}
use Rattle.dns_zone_map.proofs.Lifted.{held_by, put_ok, same_err, table_put_ok, others_found}
use Rattle.dns_zone_map.proofs.names.Names.put_under.Goals as goal

pub put_under-requires : goal.put_under-requires
put_under-requires c =
    let ts = c.self.inside.trees.items in
    let t = c.index_mut-tree.result.now in
    let p = found_tree ts c.args.key.now c.len.result c.place_of-place.result t c.self.invariant (search rules) c.place_of-place.ensures.is c.place_of-place.ensures.within (search rules) in
    held_by ts t t c.args.key.now c.place_of-place.result p _ c.self.view_is (λ e. TypesRise e.1) c.requires

pub invariant_of-self : goal.invariant_of-self
invariant_of-self c =
    let ts = c.self.inside.trees.items in
    let t = c.index_mut-tree.result.now in
    let p = found_tree ts c.args.key.now c.len.result c.place_of-place.result t c.self.invariant (search rules) c.place_of-place.ensures.is c.place_of-place.ensures.within (search rules) in
    table_put_ok ts t c.put_under.new.names c.args.key.now c.place_of-place.result p _ c.self.view_is c.args.number c.args.one c.put_under.result c.put_under.ensures.put c.put_under.ensures.err

pub returns-clause-put : goal.returns-clause-put
returns-clause-put c =
    let ts = c.self.inside.trees.items in
    let t = c.index_mut-tree.result.now in
    let p = found_tree ts c.args.key.now c.len.result c.place_of-place.result t c.self.invariant (search rules) c.place_of-place.ensures.is c.place_of-place.ensures.within (search rules) in
    put_ok ts t c.put_under.new.names c.args.key.now c.place_of-place.result p _ c.self.view_is c.args.number c.args.one c.put_under.result c.put_under.ensures.put

pub returns-clause-others : goal.returns-clause-others
returns-clause-others c =
    let ts = c.self.inside.trees.items in
    let t = c.index_mut-tree.result.now in
    let p = found_tree ts c.args.key.now c.len.result c.place_of-place.result t c.self.invariant (search rules) c.place_of-place.ensures.is c.place_of-place.ensures.within (search rules) in
    others_found ts t c.put_under.new.names c.args.key.now c.place_of-place.result p _ c.self.view_is c.put_under.ensures.others

pub returns-clause-err : goal.returns-clause-err
returns-clause-err c =
    let ts = c.self.inside.trees.items in
    let t = c.index_mut-tree.result.now in
    let p = found_tree ts c.args.key.now c.len.result c.place_of-place.result t c.self.invariant (search rules) c.place_of-place.ensures.is c.place_of-place.ensures.within (search rules) in
    same_err ts t c.put_under.new.names c.args.key.now c.place_of-place.result p _ c.self.view_is c.put_under.result c.put_under.ensures.err

pub returns-clause-apart : goal.returns-clause-apart
returns-clause-apart c = subst KeysApart c.self.view_is (apart_all (length c.self.inside.trees.items) 0 c.self.inside.trees.items c.self.invariant.each)
