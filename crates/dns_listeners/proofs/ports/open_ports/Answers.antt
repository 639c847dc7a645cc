-- The socket was opened, and then the listeners.
use Rattle.dns_listeners.proofs.Crews.{OpensAll-on}
use Rattle.dns_listeners.proofs.ports.open_ports.Goals as goal

pub returns-clause-ok : goal.returns-clause-ok
returns-clause-ok g c = OpensAll-on _ _ _ _ _ c.open_listeners.result c.in_ok-open_socket.ensures.ok c.open_listeners.ensures.ok
