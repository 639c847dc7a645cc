-- None of the first has a fault.
use Rattle.std.proofs.Common.{◌≡◌, take}
use Rattle.std.specs.List.{sum_by}
use Rattle.dns_crowd.specs.Crowds.{untold_crowd}
use Rattle.dns_crowd_server.proofs.socket_hub.has_faulty_crowd.Given as goal

abbrev pub invariant-loop-crowd : goal.invariant-loop-crowd
invariant-loop-crowd g l = sum_by (λ one. (untold_crowd one).faults) (take l.crowd-index l.crowds) ≡ 0
