-- Each connection so far was handed back.
use Rattle.dns_ports.specs.Ports.{listener_of}
use Rattle.dns_server.proofs.Attending.{Going}
use Rattle.dns_server.proofs.listener_worker.serve_listener.Given as goal

abbrev pub invariant-loop : goal.invariant-loop
invariant-loop g l =
    ((goal.iterator-loop g).can_next l.iterator' × (goal.iterator-loop g).is_finite l.iterator')
    × Going (g.H.RequestHandler.serves l.access) g.H.RequestHandler.skips (listener_of g.T.TcpPort.told g.T.In.Source.source g.T.Out.Sink.sink g.T.Time.Clock.clock) l.limit (record { handler = l.fn.handler; port = l.fn.listener }) l.handler l.listener l.is_short
