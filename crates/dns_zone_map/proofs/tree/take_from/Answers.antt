use Rattle.dns_zone_map.proofs.Taking.{taken_from, rising_at}
use Rattle.dns_zone_map.proofs.CanBeUndone.{written_others}
use Rattle.dns_zone_map.proofs.tree.take_from.Goals as goal

pub take-requires : goal.take-requires
take-requires c = rising_at c.args.key.now c.args.rtype c.args.names.now.entries c.args.names.now.entries c.in-Some.sets.now c.requires c.in-Some.ensures.value

pub returns-in-Some-clause-is : goal.returns-in-Some-clause-is
returns-in-Some-clause-is c = taken_from c.args.key.now c.args.rtype c.args.names.now.entries (c.get_mut.follows.lender c.take.new.self).entries c.in-Some.sets.now c.take.new.self c.take.result c.in-Some.ensures.value (c.get_mut.follows.holds c.take.new.self).0 c.take.ensures

pub returns-in-Some-clause-others : goal.returns-in-Some-clause-others
returns-in-Some-clause-others c = written_others c.args.key.now c.args.names.now.entries (c.get_mut.follows.lender c.take.new.self).entries c.take.new.self (c.get_mut.follows.holds c.take.new.self).0
