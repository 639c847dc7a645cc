-- It rises where a count is above 0.
use Rattle.std.proofs.Common.{ℕ, subst}
use Rattle.dns_ports.specs.Passed.{socket_told}
use Rattle.dns_crowd.specs.Crowds.{untold_crowd}
use Rattle.dns_ports.specs.Ports.{CountsPort}
use Rattle.dns_crowd_server.specs.Hubs.{their_faults}
use Rattle.dns_crowd_server.proofs.Faults.{counts_alike}
use Rattle.dns_crowd_server.proofs.socket_hub.faults_after.Goals as goal

pub returns : goal.returns
returns g c =
    counts_alike (their_faults socket_told untold_crowd c.args.sockets.now c.args.crowds.now) c.args.faults c.faults_behind.result
    (subst (λ (n : ℕ). CountsPort n c.args.faults c.faults_behind.result) c.faulty.ensures c.faults_behind.ensures.cause)
