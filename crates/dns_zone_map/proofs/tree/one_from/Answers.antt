use Rattle.dns_zone_map.proofs.Taking.{rising_at}
use Rattle.dns_zone_map.proofs.Freed.{found_paired}
use Rattle.dns_zone_map.proofs.RecordTaken.{one_of_name}
use Rattle.dns_zone_map.proofs.CanBeUndone.{written_others}
use Rattle.dns_zone_map.proofs.tree.one_from.Goals as goal

pub take_one-requires-clause-rise : goal.take_one-requires-clause-rise
take_one-requires-clause-rise c = rising_at c.args.key.now c.args.one.now.rtype c.args.names.now.entries c.args.names.now.entries c.in-Some.sets.now c.requires.rise c.in-Some.ensures.value

pub take_one-requires-clause-paired : goal.take_one-requires-clause-paired
take_one-requires-clause-paired c = found_paired c.args.key.now c.args.names.now.entries c.in-Some.sets.now c.requires.paired c.in-Some.ensures.value

pub returns-in-Some-clause-is : goal.returns-in-Some-clause-is
returns-in-Some-clause-is c = one_of_name c.args.key.now c.args.one.now c.args.names.now.entries (c.get_mut.follows.lender c.take_one.new.self).entries c.in-Some.sets.now c.take_one.new.self c.take_one.result c.in-Some.ensures.value (c.get_mut.follows.holds c.take_one.new.self).0 c.take_one.ensures

pub returns-in-Some-clause-others : goal.returns-in-Some-clause-others
returns-in-Some-clause-others c = written_others c.args.key.now c.args.names.now.entries (c.get_mut.follows.lender c.take_one.new.self).entries c.take_one.new.self (c.get_mut.follows.holds c.take_one.new.self).0
