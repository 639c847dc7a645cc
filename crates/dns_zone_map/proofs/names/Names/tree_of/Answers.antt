use Rattle.std.proofs.Common.{rules, subst, length}
use Rattle.dns_zone_map.specs.Tree.{KeysApart}
use Rattle.dns_zone_map.proofs.Table.{apart_all}
use Rattle.dns_zone_map.proofs.Ways.{all_behind}
use Rattle.dns_zone_map.proofs.names.Names.tree_of.Goals as goal

pub returns-clause-tree : goal.returns-clause-tree
returns-clause-tree c =
    all_behind c.self.inside.trees.items c.args.self.now c.args.key.now c.len.result c.place_of-place.result c.index.result.now c.self.invariant c.self.view_is (search rules) c.place_of-place.ensures.is c.place_of-place.ensures.within (search rules)

pub returns-clause-apart : goal.returns-clause-apart
returns-clause-apart c = subst KeysApart c.self.view_is (apart_all (length c.self.inside.trees.items) 0 c.self.inside.trees.items c.self.invariant.each)
