-- The first ports have workers.
use Rattle.std.proofs.Common.{◌≡◌, ◌++◌, length}
use Rattle.std.specs.Vec.{vec_capacity}
use Rattle.std.specs.Vec.Iter.{into_iter_items, into_iter_len}
use Rattle.dns_server.specs.Servers.{their_passes, their_ports}
use Rattle.dns_crowd_server.proofs.rooms.take_on.Given as goal

abbrev pub invariant-loop-port : goal.invariant-loop-port
invariant-loop-port g l =
    ((goal.iterator-loop-port g).can_next l.port-iterator × (goal.iterator-loop-port g).is_finite l.port-iterator)
    × (l.yielded ++ into_iter_items l.port-iterator ≡ l.fn.ports.items)
    × (into_iter_len l.port-iterator ≡ length (into_iter_items l.port-iterator))
    × (their_ports l.workers.items ≡ l.yielded)
    × (l.fn.free.items ≡ their_passes l.workers.items ++ l.free.items)
    × (vec_capacity l.free ≡ vec_capacity l.fn.free)
    × (vec_capacity l.workers ≡ vec_capacity l.fn.room)
