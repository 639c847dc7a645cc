-- None of the first has a fault.
use Rattle.std.proofs.Common.{◌≡◌, take}
use Rattle.std.specs.List.{sum_by}
use Rattle.dns_ports.specs.Passed.{socket_told}
use Rattle.dns_crowd_server.proofs.socket_hub.has_faulty_socket.Given as goal

abbrev pub invariant-loop-socket : goal.invariant-loop-socket
invariant-loop-socket g l = sum_by (λ one. (socket_told one).faults) (take l.socket-index l.sockets) ≡ 0
