-- None of them was used, and there is room for all.
use Rattle.std.proofs.Common.{◌≡◌, ◌≤◌, length, All, vec_capacity}
use Rattle.dns_ports.specs.Memory.{IsUnusedUdp}
use Rattle.dns_crowd_server.proofs.memory_hub.next_sockets.Given as goal

abbrev pub invariant-loop-place : goal.invariant-loop-place
invariant-loop-place l =
    All IsUnusedUdp l.first.items
    × All IsUnusedUdp l.sockets.items
    × (length l.first.items ≡ l._place)
    × (l.count ≤ vec_capacity l.first)
