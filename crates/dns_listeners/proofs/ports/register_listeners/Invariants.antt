-- The first listeners are registered, or those from the first that was refused on were handed back.
use Rattle.std.proofs.Common.{◌≡◌, ◌≤◌, ◌+◌, ◌++◌, false, length}
use Rattle.std.specs.Vec.Iter.{into_iter_items, into_iter_len}
use Rattle.dns_io.specs.Told.{Keeps}
use Rattle.dns_edges.specs.Edges.{around}
use Rattle.dns_listeners.specs.ServingParts.{IsManned, IsSameServer, IsCalm}
use Rattle.dns_listeners.proofs.ports.register_listeners.Given as goal

abbrev pub invariant-loop-listener : goal.invariant-loop-listener
invariant-loop-listener g l =
    ((goal.iterator-loop-listener g).can_next l.listener-iterator × (goal.iterator-loop-listener g).is_finite l.listener-iterator)
    × (l.yielded ++ into_iter_items l.listener-iterator ≡ l.fn.listeners.items)
    × (into_iter_len l.listener-iterator ≡ length (into_iter_items l.listener-iterator))
    × IsManned g.H.Udp.UdpPort.told g.H.Tcp.TcpPort.told l.limit l.server
    × IsSameServer l.fn.server l.server
    × (l.server.sockets ≡ l.fn.server.sockets)
    × (length l.fn.server.listeners ≤ length l.server.listeners)
    × ((g.H.Hub.told l.hub).lent_tcp + (length l.fn.server.listeners + length l.yielded) ≡ (g.H.Hub.told l.fn.hub).lent_tcp + length l.server.listeners)
    × (l.is_refused ≡ false → (length l.server.listeners ≡ length l.fn.server.listeners + length l.yielded) × Keeps (g.H.Hub.told l.fn.hub).closed_tcp (g.H.Hub.told l.hub).closed_tcp)
    × IsCalm (around g.H.Hub.told l.fn.hub l.hub)
