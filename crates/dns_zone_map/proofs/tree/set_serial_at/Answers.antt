use Rattle.std.proofs.Common.{inl, length, refl}
use Rattle.dns_zone_map.proofs.Taking.{changed_in, rising_at}
use Rattle.dns_zone_map.proofs.CanBeUndone.{written_others}
use Rattle.dns_zone_map.proofs.tree.set_serial_at.Goals as goal

pub set_serial-requires : goal.set_serial-requires
set_serial-requires c = rising_at c.args.key.now 6 c.args.names.now.entries c.args.names.now.entries c.in-Some.sets.now c.requires c.in-Some.ensures.value

pub returns-in-Some-clause-is : goal.returns-in-Some-clause-is
returns-in-Some-clause-is c = inl (length c.set_serial.new.self, changed_in c.args.key.now c.args.names.now.entries (c.get_mut.follows.lender c.set_serial.new.self).entries _ c.in-Some.sets.now c.set_serial.new.self (length c.set_serial.new.self) c.in-Some.ensures.value (c.get_mut.follows.holds c.set_serial.new.self).0 c.set_serial.ensures refl)

pub returns-in-Some-clause-others : goal.returns-in-Some-clause-others
returns-in-Some-clause-others c = written_others c.args.key.now c.args.names.now.entries (c.get_mut.follows.lender c.set_serial.new.self).entries c.set_serial.new.self (c.get_mut.follows.holds c.set_serial.new.self).0
