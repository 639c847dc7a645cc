use Rattle.std.proofs.Common.{refl, inr}
use Rattle.dns_zone_map.proofs.Taking.{none_there}
use Rattle.dns_zone_map.proofs.SerialPut.{serial_there}
use Rattle.dns_zone_map.proofs.sets.OwnerSets.set_serial.Goals as goal

pub returns-in-Err : goal.returns-in-Err
returns-in-Err c = inr (refl, (none_there 6 c.self.inside.sets.items c.deref.result.now c.args.self.now c.in-Err.field-0 c.self.view_is c.deref.ensures.value c.in-Err.ensures.none).1)

pub returns-in-Ok : goal.returns-in-Ok
returns-in-Ok c = serial_there c.args.serial c.self.inside.sets.items c.deref.result.now c.args.self.now c.set_serial_at.new.sets.items c.in-Ok.place c.self.view_is c.deref.ensures.value c.in-Ok.ensures.found c.set_serial_at.ensures
