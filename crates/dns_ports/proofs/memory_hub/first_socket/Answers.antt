use Rattle.std.proofs.lemmas.List.Elements.{All-drop}
use Rattle.dns_ports.specs.Memory.{IsUnusedUdp}
use Rattle.dns_ports.proofs.memory_hub.first_socket.Goals as goal

-- what holds of all holds of those behind the first
pub returns-in-Some-clause-unused_rest : goal.returns-in-Some-clause-unused_rest
returns-in-Some-clause-unused_rest c = rw (c.pop_front.ensures.rest) (All-drop IsUnusedUdp 1 _ c.requires)
