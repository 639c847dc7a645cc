use Rattle.std.proofs.lemmas.List.Elements.{All-drop}
use Rattle.dns_ports.specs.Memory.{IsUnusedTcp}
use Rattle.dns_ports.proofs.memory_hub.first_listener.Goals as goal

-- what holds of all holds of those behind the first
pub returns-in-Some-clause-unused_rest : goal.returns-in-Some-clause-unused_rest
returns-in-Some-clause-unused_rest c = rw (c.pop_front.ensures.rest) (All-drop IsUnusedTcp 1 _ c.requires)
