use Rattle.dns_network.proofs.Causes.{looked_behind, worked_behind}
use Rattle.dns_network.proofs.turns.wait_unless_stopped.Goals as goal

pub wait-requires : goal.wait-requires
wait-requires g c = record {
  looked = looked_behind _ _ c.look.result c.look.ensures.told;
  awake = λ e. worked_behind _ _ c.look.result c.look.ensures.told (c.requires e);
}
