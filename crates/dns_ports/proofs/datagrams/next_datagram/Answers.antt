use Rattle.std.proofs.Common.{◌∙◌, refl}
use Rattle.std.proofs.lemmas.Result.{err_from_is_err_and}
use Rattle.dns_network.proofs.Causes.{stopped_behind}
use Rattle.dns_ports.proofs.Passed.{came, refused_stays, stop_stays}
use Rattle.dns_ports.proofs.datagrams.next_datagram.Goals as goal

pub returns-in-None-clause-told : goal.returns-in-None-clause-told
returns-in-None-clause-told g c = stop_stays _ _ c.receive_unless_stopped.new.room c.in-None.ensures.told ∙ c.loop.invariant.0

pub returns-in-None-clause-stopped : goal.returns-in-None-clause-stopped
returns-in-None-clause-stopped g c = stopped_behind _ _ _ c.in-None.ensures.told refl

pub returns-in-Some-Ok-clause-told : goal.returns-in-Some-Ok-clause-told
returns-in-Some-Ok-clause-told g c =
    rw (← c.loop.invariant.0)
    (came _ _ c.receive_unless_stopped.new.room c.in-Some-Ok.field-0 c.in-Some-Ok.came c.in-Some-Ok.ensures.told c.in-Some-Ok.field-0-is)

pub returns-in_err-rested-in-Some-Err-clause-told : goal.returns-in_err-rested-in-Some-Err-clause-told
returns-in_err-rested-in-Some-Err-clause-told g c =
    let p = err_from_is_err_and c.from_residual.result c.from_residual.ensures.1 in
    rw (p.1)
    (refused_stays _ _ _ c.receive_unless_stopped.new.room c.in-Some-Err.field-0 c.in-Some-Err.refused c.loop.rested c.in-Some-Err.ensures.told c.in-Some-Err.field-0-is
    c.rest_to_receive.ensures.told ∙ c.loop.invariant.0)

pub loop-preserved : goal.loop-preserved
loop-preserved g c = (
  refused_stays _ _ _ c.receive_unless_stopped.new.room c.in-Some-Err.field-0 c.in-Some-Err.refused c.loop.rested c.in-Some-Err.ensures.told c.in-Some-Err.field-0-is
      c.rest_to_receive.ensures.told ∙ c.loop.invariant.0,
  c.receive_unless_stopped.ensures.size ∙ c.loop.invariant.1,
)
