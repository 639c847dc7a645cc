use Rattle.std.proofs.Common.{rules, ◌≡◌, false}
use Rattle.dns_connections.proofs.Crowding.{pause_crowd, pause_keeps, pause_stopped}
use Rattle.dns_connections.proofs.crowd.Crowd.pause.Goals as goal

pub invariant_of-self : goal.invariant_of-self
invariant_of-self g c =
    let e : c.self.inside.ended ≡ false = search rules in (
      pause_keeps _ _ _ _ _ _ _ _ _ c.wait_with-most.result c.wait_unless_stopped-found.result c.wait_unless_stopped-found.ensures c.self.invariant.0,
      pause_crowd _ _ c.self.inside.moments _ _ _ c.wait_with-most.result c.wait_unless_stopped-found.result c.wait_unless_stopped-found.ensures e c.self.invariant.1,
    )

pub returns-clause-stopped : goal.returns-clause-stopped
returns-clause-stopped g c = pause_stopped _ _ c.wait_with-most.result c.wait_unless_stopped-found.result c.wait_unless_stopped-found.ensures
