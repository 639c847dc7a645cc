use Rattle.std.proofs.Common.{rules}
use Rattle.dns_zone_map.proofs.Table.{found_tree}
use Rattle.dns_zone_map.proofs.Lifted.{same_err, named_ok, table_named_ok}
use Rattle.dns_zone_map.proofs.names.Names.add_missing.Goals as goal

pub invariant_of-self : goal.invariant_of-self
invariant_of-self c =
    let ts = c.self.inside.trees.items in
    let t = c.index_mut-tree.result.now in
    let p = found_tree ts c.args.key.now c.len.result c.place_of-place.result t c.self.invariant (search rules) c.place_of-place.ensures.is c.place_of-place.ensures.within (search rules) in
    table_named_ok ts t c.add_missing.new.names c.args.key.now c.place_of-place.result p _ c.self.view_is c.add_missing.result c.add_missing.ensures.ok c.add_missing.ensures.err

pub returns-clause-ok : goal.returns-clause-ok
returns-clause-ok c =
    let ts = c.self.inside.trees.items in
    let t = c.index_mut-tree.result.now in
    let p = found_tree ts c.args.key.now c.len.result c.place_of-place.result t c.self.invariant (search rules) c.place_of-place.ensures.is c.place_of-place.ensures.within (search rules) in
    named_ok ts t c.add_missing.new.names c.args.key.now c.place_of-place.result p _ c.self.view_is c.add_missing.result c.add_missing.ensures.ok

pub returns-clause-err : goal.returns-clause-err
returns-clause-err c =
    let ts = c.self.inside.trees.items in
    let t = c.index_mut-tree.result.now in
    let p = found_tree ts c.args.key.now c.len.result c.place_of-place.result t c.self.invariant (search rules) c.place_of-place.ensures.is c.place_of-place.ensures.within (search rules) in
    same_err ts t c.add_missing.new.names c.args.key.now c.place_of-place.result p _ c.self.view_is c.add_missing.result c.add_missing.ensures.err
