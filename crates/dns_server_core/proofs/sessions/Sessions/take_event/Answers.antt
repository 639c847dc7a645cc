-- What is kept, one event later.
use Rattle.dns_server_core.specs.Connections.{Kept}
use Rattle.dns_server_core.proofs.KeptOrder.{IsKept-next}
use Rattle.dns_server_core.proofs.sessions.Sessions.take_event.Goals as goal

pub invariant_of-self-2 : goal.invariant_of-self-2
invariant_of-self-2 g c =
    let kept : Kept = record { last = c.self.inside.last; greatest = c.self.inside.greatest; stopped = c.self.inside.stopped; connections = c.self.inside.connections.items } in
    let n = IsKept-next kept c.args.event.now (rw (← c.self.view_is) at c.requires.rises) c.self.invariant in
    rw (c.in-Ok.ensures.ok, c.greatest_from-self-inside.ensures) (record { rests = n.rests; going = n.going; climbs = n.climbs; below = n.below })
