-- Nothing came, and the room is as long as it was.
use Rattle.std.proofs.Common.{◌≡◌, length}
use Rattle.dns_ports.specs.Passed.{passed}
use Rattle.dns_ports.proofs.datagrams.next_datagram.Given as goal

abbrev pub invariant-loop : goal.invariant-loop
invariant-loop g l =
    (passed (g.N.Network.calls l.network) ≡ passed (g.N.Network.calls l.fn.network))
    × (length l.room ≡ length l.fn.room)
