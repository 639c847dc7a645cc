-- The listeners so far are the first ones, and those behind them are left.
use Rattle.std.proofs.Common.{◌≡◌, ◌≤◌, ◌+◌, length, drop, All, vec_len, vec_capacity}
use Rattle.dns_ports.specs.Memory.{IsUnusedTcp, next_listeners}
use Rattle.dns_ports.proofs.memory_hub.first_listeners.Given as goal

abbrev pub invariant-loop-place : goal.invariant-loop-place
invariant-loop-place l =
    (l.ports.items ≡ next_listeners l._place l.fn.listeners.items)
    × (l.listeners.items ≡ drop l._place l.fn.listeners.items)
    × All IsUnusedTcp l.ports.items
    × All IsUnusedTcp l.listeners.items
    × (length l.ports.items ≡ l._place)
    × (vec_len l.ports + l.workers ≤ vec_capacity l.ports + l._place)
