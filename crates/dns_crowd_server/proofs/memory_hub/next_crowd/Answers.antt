-- What holds of all holds of those behind the first.
use Rattle.std.proofs.lemmas.List.Elements.{All-drop}
use Rattle.dns_crowd_server.specs.Memory.{IsUnusedCrowd}
use Rattle.dns_crowd_server.proofs.memory_hub.next_crowd.Goals as goal

pub returns-in-Some-clause-unused_rest : goal.returns-in-Some-clause-unused_rest
returns-in-Some-clause-unused_rest c = rw (c.pop_front.ensures.rest) (All-drop IsUnusedCrowd 1 _ c.requires)
