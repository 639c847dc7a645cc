use Rattle.std.proofs.Common.{refl}
use Rattle.dns_zone_map.proofs.Taking.{none_there, taken_there}
use Rattle.dns_zone_map.proofs.sets.OwnerSets.take.Goals as goal

pub returns-in-Ok : goal.returns-in-Ok
returns-in-Ok c = taken_there c.args.rtype c.self.inside.sets.items c.deref.result.now c.args.self.now c.remove.new.self.items c.in-Ok.place c.remove.result c.self.view_is c.deref.ensures.value c.in-Ok.ensures.found c.remove.ensures.value c.remove.ensures.by_index.2

pub returns-in-Err : goal.returns-in-Err
returns-in-Err c = (refl, (none_there c.args.rtype c.self.inside.sets.items c.deref.result.now c.args.self.now c.in-Err.field-0 c.self.view_is c.deref.ensures.value c.in-Err.ensures.none).1)
