-- There are as many listeners as were asked for so far, and none of them failed.
use Rattle.std.proofs.Common.{◌≡◌, length, All}
use Rattle.dns_ports.proofs.listener_port.ListenerPort.open.Given as goal

abbrev pub invariant-loop-place : goal.invariant-loop-place
invariant-loop-place g l = (length l.ports.items ≡ l._place) × All (λ port. port.faults ≡ 0) l.ports.items
