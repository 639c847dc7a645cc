use Rattle.std.proofs.Common.{refl, ◌∙◌}
use Rattle.dns_zone_map.proofs.Taking.{none_there}
use Rattle.dns_zone_map.proofs.EqualTaken.{none_in, none_of_type, taken_one}
use Rattle.dns_zone_map.proofs.sets.OwnerSets.take_one.Goals as goal

pub returns-in-Err : goal.returns-in-Err
returns-in-Err c = (refl, none_of_type c.args.one.now c.args.self.now (none_there c.args.one.now.rtype c.self.inside.sets.items c.deref.result.now c.args.self.now c.in-Err.field-0 c.self.view_is c.deref.ensures.value c.in-Err.ensures.none).1)

pub returns-in-None : goal.returns-in-None
returns-in-None c = (c.in-None.ensures.0 ∙ c.self.view_is, none_in c.args.one.now c.self.inside.sets.items c.deref.result.now c.args.self.now c.in-Ok.place c.self.view_is c.deref.ensures.value c.in-Ok.ensures.found c.in-None.ensures.1)

pub returns-in-Some : goal.returns-in-Some
returns-in-Some c = taken_one c.args.one.now c.in-Some.taken c.self.inside.sets.items c.deref.result.now c.args.self.now c.take_equal_at.new.sets.items c.drop_empty.new.sets.items c.in-Ok.place c.self.view_is c.deref.ensures.value c.in-Ok.ensures.found c.in-Some.ensures c.drop_empty.ensures
