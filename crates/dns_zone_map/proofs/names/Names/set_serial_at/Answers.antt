use Rattle.std.proofs.Common.{rules, subst, length}
use Rattle.dns_zone_map.specs.Sets.{TypesRise}
use Rattle.dns_zone_map.specs.Tree.{KeysApart}
use Rattle.dns_zone_map.proofs.Table.{apart_all, found_tree}
use Rattle.dns_zone_map.proofs.Lifted.{held_by, serial_set, table_serial_set, others}
use Rattle.dns_zone_map.proofs.names.Names.set_serial_at.Goals as goal

pub set_serial_at-requires : goal.set_serial_at-requires
set_serial_at-requires c =
    let ts = c.self.inside.trees.items in
    let t = c.index_mut-tree.result.now in
    let p = found_tree ts c.args.key.now c.len.result c.place_of-place.result t c.self.invariant (search rules) c.place_of-place.ensures.is c.place_of-place.ensures.within (search rules) in
    held_by ts t t c.args.key.now c.place_of-place.result p _ c.self.view_is (λ e. TypesRise e.1) c.requires

pub invariant_of-self : goal.invariant_of-self
invariant_of-self c =
    let ts = c.self.inside.trees.items in
    let t = c.index_mut-tree.result.now in
    let p = found_tree ts c.args.key.now c.len.result c.place_of-place.result t c.self.invariant (search rules) c.place_of-place.ensures.is c.place_of-place.ensures.within (search rules) in
    table_serial_set ts t c.set_serial_at.new.names c.args.key.now c.place_of-place.result p _ c.self.view_is c.args.serial c.set_serial_at.ensures.is

pub returns-clause-is : goal.returns-clause-is
returns-clause-is c =
    let ts = c.self.inside.trees.items in
    let t = c.index_mut-tree.result.now in
    let p = found_tree ts c.args.key.now c.len.result c.place_of-place.result t c.self.invariant (search rules) c.place_of-place.ensures.is c.place_of-place.ensures.within (search rules) in
    serial_set ts t c.set_serial_at.new.names c.args.key.now c.place_of-place.result p _ c.self.view_is c.args.serial c.set_serial_at.ensures.is

pub returns-clause-others : goal.returns-clause-others
returns-clause-others c =
    let ts = c.self.inside.trees.items in
    let t = c.index_mut-tree.result.now in
    let p = found_tree ts c.args.key.now c.len.result c.place_of-place.result t c.self.invariant (search rules) c.place_of-place.ensures.is c.place_of-place.ensures.within (search rules) in
    others ts t c.set_serial_at.new.names c.args.key.now c.place_of-place.result p _ c.self.view_is c.set_serial_at.ensures.others

pub returns-clause-apart : goal.returns-clause-apart
returns-clause-apart c = subst KeysApart c.self.view_is (apart_all (length c.self.inside.trees.items) 0 c.self.inside.trees.items c.self.invariant.each)
