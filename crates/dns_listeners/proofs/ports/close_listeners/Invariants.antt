-- The first listeners were handed back.
use Rattle.std.proofs.Common.{◌≡◌, ◌⊎◌, ◌≤◌, ◌+◌, ◌++◌, length}
use Rattle.std.specs.Vec.Iter.{into_iter_items, into_iter_len}
use Rattle.dns_io.specs.Told.{Keeps, Grows, Rose}
use Rattle.dns_listeners.specs.Hubs.{AnyFault}
use Rattle.dns_listeners.proofs.ports.close_listeners.Given as goal

abbrev pub invariant-loop-listener : goal.invariant-loop-listener
invariant-loop-listener g l =
    ((goal.iterator-loop-listener g).can_next l.listener-iterator × (goal.iterator-loop-listener g).is_finite l.listener-iterator)
    × (l.yielded ++ into_iter_items l.listener-iterator ≡ l.fn.listeners.items)
    × (into_iter_len l.listener-iterator ≡ length (into_iter_items l.listener-iterator))
    × Grows (g.H.Hub.told l.fn.hub).closed_tcp (g.H.Hub.told l.hub).closed_tcp l.yielded
    × ((g.H.Hub.told l.hub).lent_tcp + length l.yielded ≡ (g.H.Hub.told l.fn.hub).lent_tcp)
    × Keeps (g.H.Hub.told l.fn.hub).openings (g.H.Hub.told l.hub).openings
    × Keeps (g.H.Hub.told l.fn.hub).closed_udp (g.H.Hub.told l.hub).closed_udp
    × ((g.H.Hub.told l.hub).lent_udp ≡ (g.H.Hub.told l.fn.hub).lent_udp)
    × ((g.H.Hub.told l.hub).opened_calls ≡ (g.H.Hub.told l.fn.hub).opened_calls)
    × ((g.H.Hub.told l.hub).failed_calls ≡ (g.H.Hub.told l.fn.hub).failed_calls)
    × ((g.H.Hub.told l.fn.hub).faults ≤ (g.H.Hub.told l.hub).faults)
    × (AnyFault (λ port. (g.H.Tcp.TcpPort.told port).faults) l.yielded → Rose (g.H.Hub.told l.fn.hub).faults (g.H.Hub.told l.hub).faults)
    × (((g.H.Hub.told l.hub).faults ≡ (g.H.Hub.told l.fn.hub).faults) ⊎ AnyFault (λ port. (g.H.Tcp.TcpPort.told port).faults) l.yielded)
