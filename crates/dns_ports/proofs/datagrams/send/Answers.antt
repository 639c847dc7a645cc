use Rattle.std.proofs.Common.{◌∙◌}
use Rattle.std.proofs.lemmas.Result.{err_from_is_err_and}
use Rattle.dns_ports.proofs.Passed.{handed, unhanded}
use Rattle.dns_ports.proofs.datagrams.send.Goals as goal

pub returns-in-Ok : goal.returns-in-Ok
returns-in-Ok g c = record {
  told = rw (c.sent_whole.ensures, ← c.loop.invariant) (handed _ _ c.args.bytes.now c.args.to c.in-Ok.sent c.in-Ok.ensures.told);
}

pub returns-in_err-sending_after-in-Err : goal.returns-in_err-sending_after-in-Err
returns-in_err-sending_after-in-Err g c =
    let p = err_from_is_err_and c.from_residual.result c.from_residual.ensures.1 in
    record { told = rw (p.1) (unhanded _ _ c.args.bytes.now c.args.to c.in-Err.refused c.in-Err.ensures.told ∙ c.loop.invariant) }

pub loop-preserved : goal.loop-preserved
loop-preserved g c = unhanded _ _ c.args.bytes.now c.args.to c.in-Err.refused c.in-Err.ensures.told ∙ c.loop.invariant
