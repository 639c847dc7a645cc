-- None of them was used, and there is room for all.
use Rattle.std.proofs.Common.{◌≡◌, ◌≤◌, length, All, vec_capacity}
use Rattle.dns_crowd_server.specs.Memory.{IsUnusedCrowd}
use Rattle.dns_crowd_server.proofs.memory_hub.next_crowds.Given as goal

abbrev pub invariant-loop-place : goal.invariant-loop-place
invariant-loop-place l =
    All IsUnusedCrowd l.first.items
    × All IsUnusedCrowd l.crowds.items
    × (length l.first.items ≡ l._place)
    × (l.count ≤ vec_capacity l.first)
