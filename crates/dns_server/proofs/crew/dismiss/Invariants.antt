-- The first workers were dismissed.
use Rattle.std.proofs.Common.{◌≡◌, ◌++◌, length}
use Rattle.std.specs.Vec.{vec_capacity}
use Rattle.std.specs.Vec.Iter.{into_iter_items, into_iter_len}
use Rattle.dns_server.specs.Servers.{their_passes, their_ports}
use Rattle.dns_server.proofs.crew.dismiss.Given as goal

abbrev pub invariant-loop-worker : goal.invariant-loop-worker
invariant-loop-worker g l =
    ((goal.iterator-loop-worker g).can_next l.worker-iterator × (goal.iterator-loop-worker g).is_finite l.worker-iterator)
    × (l.yielded ++ into_iter_items l.worker-iterator ≡ l.fn.workers.items)
    × (into_iter_len l.worker-iterator ≡ length (into_iter_items l.worker-iterator))
    × (l.free.items ≡ l.fn.free.items ++ their_passes l.yielded)
    × (l.ports.items ≡ their_ports l.yielded)
    × (vec_capacity l.free ≡ vec_capacity l.fn.free)
    × (vec_capacity l.ports ≡ vec_capacity l.fn.room)
