use Rattle.dns_connections.proofs.Stepping.{rests}
use Rattle.dns_connections.proofs.crowd.Crowd.rest.Goals as goal

pub invariant_of-self-in-Some : goal.invariant_of-self-in-Some
invariant_of-self-in-Some g c = rests _ _ _ _ _ _ c.self.inside.moments _ _ _ _ _ c.in-Some.millis c.rest.ensures.told c.self.invariant
