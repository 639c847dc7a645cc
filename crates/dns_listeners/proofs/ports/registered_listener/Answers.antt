use Rattle.dns_listeners.proofs.Crews.{listener_taken}
use Rattle.dns_listeners.proofs.ports.registered_listener.Goals as goal

pub returns-in-Ok-clause-manned : goal.returns-in-Ok-clause-manned
returns-in-Ok-clause-manned g c = (listener_taken _ _ _ _ _ _ c.requires.manned c.requires.fresh c.in-Ok.ensures.ok c.in-Ok.ensures.others.0 c.in-Ok.ensures.others.2).0
