use Rattle.std.proofs.Common.{rules}
use Rattle.dns_zone_map.proofs.Table.{found_tree}
use Rattle.dns_zone_map.proofs.Lifted.{owns, table_left}
use Rattle.dns_zone_map.proofs.names.Names.sweep_name.Goals as goal

pub invariant_of-self : goal.invariant_of-self
invariant_of-self c =
    let ts = c.self.inside.trees.items in
    let t = c.index_mut-tree.result.now in
    let p = found_tree ts c.args.key.now c.len.result c.place_of-place.result t c.self.invariant (search rules) c.place_of-place.ensures.is c.place_of-place.ensures.within (search rules) in
    table_left ts t c.sweep_name.new.names c.args.key.now c.place_of-place.result p _ c.self.view_is c.sweep_name.ensures.left

pub returns : goal.returns
returns c =
    let ts = c.self.inside.trees.items in
    let t = c.index_mut-tree.result.now in
    let p = found_tree ts c.args.key.now c.len.result c.place_of-place.result t c.self.invariant (search rules) c.place_of-place.ensures.is c.place_of-place.ensures.within (search rules) in
    owns ts t c.sweep_name.new.names c.args.key.now c.place_of-place.result p _ c.self.view_is c.sweep_name.ensures.owns
