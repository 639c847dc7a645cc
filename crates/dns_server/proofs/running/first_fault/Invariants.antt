-- What is told of the first workers, with what is told of the others, is what is told of all.
use Rattle.std.proofs.Common.{◌≡◌, drop}
use Rattle.dns_server.specs.Servers.{first_fault, or_later}
use Rattle.dns_server.proofs.running.first_fault.Given as goal

abbrev pub invariant-loop-worker : goal.invariant-loop-worker
invariant-loop-worker g l = or_later l.told (first_fault (drop l.worker-index l.workers)) ≡ first_fault l.workers
