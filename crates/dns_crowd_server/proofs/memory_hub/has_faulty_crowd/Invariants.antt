-- None of the first has a fault.
use Rattle.std.proofs.Common.{◌≡◌, take}
use Rattle.std.specs.List.{sum_by}
use Rattle.dns_crowd.specs.Memory.{crowd_told}
use Rattle.dns_crowd_server.proofs.memory_hub.has_faulty_crowd.Given as goal

abbrev pub invariant-loop-crowd : goal.invariant-loop-crowd
invariant-loop-crowd l = sum_by (λ one. (crowd_told one).faults) (take l.crowd-index l.crowds) ≡ 0
