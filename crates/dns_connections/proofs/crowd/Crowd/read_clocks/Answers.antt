use Rattle.dns_connections.proofs.Stepping.{clock_step, no_clock}
use Rattle.dns_connections.proofs.crowd.Crowd.read_clocks.Goals as goal

pub invariant_of-self : goal.invariant_of-self
invariant_of-self g c =
    clock_step _ _ _ _ _ _ c.self.inside.moments c.read.new.self _ _ _ _ _ c.in-Ok.reading c.in-Ok.ensures.told c.read.ensures.is c.read.ensures.later c.self.invariant

pub invariant_of-self-in-Err : goal.invariant_of-self-in-Err
invariant_of-self-in-Err g c = no_clock _ _ _ _ _ _ c.self.inside.moments _ _ _ _ _ c.in-Err.field-0 c.in-Err.ensures.told c.self.invariant
