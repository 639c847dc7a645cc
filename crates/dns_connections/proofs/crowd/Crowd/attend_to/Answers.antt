use Rattle.dns_connections.proofs.Finding.{rises}
use Rattle.dns_connections.proofs.crowd.Crowd.attend_to.Goals as goal

pub place_of-requires : goal.place_of-requires
place_of-requires g c = rises _ _ c.self.invariant.0.climb
