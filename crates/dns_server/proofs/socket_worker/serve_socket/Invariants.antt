-- Each datagram so far was handled.
use Rattle.std.proofs.Common.{◌≡◌, length}
use Rattle.dns_server.proofs.Handling.{Going}
use Rattle.dns_server.proofs.socket_worker.serve_socket.Given as goal

abbrev pub invariant-loop : goal.invariant-loop
invariant-loop g l =
    ((goal.iterator-loop g).can_next l.iterator' × (goal.iterator-loop g).is_finite l.iterator')
    × Going (g.H.RequestHandler.serves l.access) g.H.RequestHandler.skips g.U.UdpPort.told (record { handler = l.fn.handler; port = l.fn.socket }) l.handler l.socket l.is_short
    × (length l.room.items ≡ 65535)
