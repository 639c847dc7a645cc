-- The first sockets were handed back.
use Rattle.std.proofs.Common.{◌≡◌, ◌⊎◌, ◌≤◌, ◌+◌, ◌++◌, length}
use Rattle.std.specs.Vec.Iter.{into_iter_items, into_iter_len}
use Rattle.dns_io.specs.Told.{Keeps, Grows, Rose}
use Rattle.dns_listeners.specs.Hubs.{AnyFault}
use Rattle.dns_listeners.proofs.ports.close_sockets.Given as goal

abbrev pub invariant-loop-socket : goal.invariant-loop-socket
invariant-loop-socket g l =
    ((goal.iterator-loop-socket g).can_next l.socket-iterator × (goal.iterator-loop-socket g).is_finite l.socket-iterator)
    × (l.yielded ++ into_iter_items l.socket-iterator ≡ l.fn.sockets.items)
    × (into_iter_len l.socket-iterator ≡ length (into_iter_items l.socket-iterator))
    × Grows (g.H.Hub.told l.fn.hub).closed_udp (g.H.Hub.told l.hub).closed_udp l.yielded
    × ((g.H.Hub.told l.hub).lent_udp + length l.yielded ≡ (g.H.Hub.told l.fn.hub).lent_udp)
    × Keeps (g.H.Hub.told l.fn.hub).openings (g.H.Hub.told l.hub).openings
    × Keeps (g.H.Hub.told l.fn.hub).closed_tcp (g.H.Hub.told l.hub).closed_tcp
    × ((g.H.Hub.told l.hub).lent_tcp ≡ (g.H.Hub.told l.fn.hub).lent_tcp)
    × ((g.H.Hub.told l.hub).opened_calls ≡ (g.H.Hub.told l.fn.hub).opened_calls)
    × ((g.H.Hub.told l.hub).failed_calls ≡ (g.H.Hub.told l.fn.hub).failed_calls)
    × ((g.H.Hub.told l.fn.hub).faults ≤ (g.H.Hub.told l.hub).faults)
    × (AnyFault (λ port. (g.H.Udp.UdpPort.told port).faults) l.yielded → Rose (g.H.Hub.told l.fn.hub).faults (g.H.Hub.told l.hub).faults)
    × (((g.H.Hub.told l.hub).faults ≡ (g.H.Hub.told l.fn.hub).faults) ⊎ AnyFault (λ port. (g.H.Udp.UdpPort.told port).faults) l.yielded)
