-- None of the first has a fault.
use Rattle.std.proofs.Common.{◌≡◌, take}
use Rattle.std.specs.List.{sum_by}
use Rattle.dns_ports.specs.Memory.{udp_told}
use Rattle.dns_crowd_server.proofs.memory_hub.has_faulty_socket.Given as goal

abbrev pub invariant-loop-socket : goal.invariant-loop-socket
invariant-loop-socket l = sum_by (λ one. (udp_told one).faults) (take l.socket-index l.sockets) ≡ 0
