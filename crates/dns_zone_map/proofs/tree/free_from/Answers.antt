use Rattle.std.proofs.Common.{arith}
use Rattle.dns_zone_map.specs.Removal.{AreFreed}
use Rattle.dns_zone_map.proofs.Taking.{changed_from}
use Rattle.dns_zone_map.proofs.Freed.{found_paired, found_few}
use Rattle.dns_zone_map.proofs.CanBeUndone.{written_others}
use Rattle.dns_zone_map.proofs.tree.free_from.Goals as goal

pub take_free-requires-clause-paired : goal.take_free-requires-clause-paired
take_free-requires-clause-paired c = found_paired c.args.key.now c.args.names.now.entries c.in-Some.sets.now c.requires.paired c.in-Some.ensures.value

pub take_free-requires-clause-few : goal.take_free-requires-clause-few
take_free-requires-clause-few c = omega (arith, c.requires.few, found_few c.args.key.now c.args.names.now.entries c.in-Some.sets.now c.in-Some.ensures.value)

pub returns-in-Some-clause-is : goal.returns-in-Some-clause-is
returns-in-Some-clause-is c = changed_from c.args.key.now c.args.names.now.entries (c.get_mut.follows.lender c.take_free.new.self).entries (AreFreed c.take_free.result) c.in-Some.sets.now c.take_free.new.self c.in-Some.ensures.value (c.get_mut.follows.holds c.take_free.new.self).0 c.take_free.ensures

pub returns-in-Some-clause-others : goal.returns-in-Some-clause-others
returns-in-Some-clause-others c = written_others c.args.key.now c.args.names.now.entries (c.get_mut.follows.lender c.take_free.new.self).entries c.take_free.new.self (c.get_mut.follows.holds c.take_free.new.self).0
