-- There are as many crowds as were asked for so far, and none of them failed.
use Rattle.std.proofs.Common.{◌≡◌, length, All}
use Rattle.dns_crowd_server.proofs.socket_hub.crowds_over.Given as goal

abbrev pub invariant-loop-place : goal.invariant-loop-place
invariant-loop-place g l = (length l.crowds.items ≡ l._place) × All (λ one. one.faults ≡ 0) l.crowds.items
