use Rattle.dns_zone_map.proofs.Table.{empty_all, empty_table}
use Rattle.dns_zone_map.proofs.names.Names.new.Goals as goal

pub invariant_of-result : goal.invariant_of-result
invariant_of-result c = empty_table c.loop.trees.items c.loop.invariant.some c.loop.invariant.empty

pub returns : goal.returns
returns c = empty_all c.loop.trees.items c.loop.invariant.empty
