-- The one that is put behind the others is greater than all.
use Rattle.dns_crowd.proofs.Placed.{put_climbs}
use Rattle.dns_crowd.proofs.sessions.Sessions.push.Goals as goal

pub invariant_of-self : goal.invariant_of-self
invariant_of-self c =
    let way = c.make_way-self-inside in
    put_climbs c.put.result way.new.slots.items c.put.new.slots.items c.args.session c.number.result c.put.ensures.all c.put.ensures.err c.number.ensures way.ensures.climbs way.ensures.below
