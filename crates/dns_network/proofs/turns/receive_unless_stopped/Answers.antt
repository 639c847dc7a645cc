use Rattle.dns_network.proofs.Causes.{looked_behind}
use Rattle.dns_network.proofs.turns.receive_unless_stopped.Goals as goal

pub receive-requires : goal.receive-requires
receive-requires g c = record { looked = looked_behind _ _ c.look.result c.look.ensures.told }
