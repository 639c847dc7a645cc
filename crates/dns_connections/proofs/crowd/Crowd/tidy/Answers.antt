use Rattle.dns_connections.proofs.Keeping.{keeps_filter}
use Rattle.dns_connections.proofs.crowd.Crowd.tidy.Goals as goal

pub invariant_of-self : goal.invariant_of-self
invariant_of-self g c = rw c.drop_ended.ensures (keeps_filter _ _ _ _ _ _ _ _ c.self.invariant.0, c.self.invariant.1)
