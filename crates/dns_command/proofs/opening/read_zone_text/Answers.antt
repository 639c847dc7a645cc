use Rattle.std.proofs.Common.{rules}
use Rattle.std.proofs.lemmas.Result.{err_from_is_err_and}
use Rattle.dns_command.specs.Steps.{zone_faulty, zone_without_memory}
use Rattle.dns_command.proofs.TextsRead.{still_read, zone_cut}
use Rattle.dns_command.proofs.opening.read_zone_text.Goals as goal

pub returns-in_err-text-clause-err : goal.returns-in_err-text-clause-err
returns-in_err-text-clause-err g c =
    let p = err_from_is_err_and c.from_residual.result c.from_residual.ensures.1 in
    rw (p.1, p.2) (zone_cut _ _ _ c.in_err-text.ensures.long c.in_err-text.ensures.cause c.in_err-text.ensures.calm)

pub returns-in-Ok-clause-ok : goal.returns-in-Ok-clause-ok
returns-in-Ok-clause-ok g c = record { named = search rules; read = search rules; still = still_read _ _ _ c.in_ok-text.ensures.calm }

pub returns-in-Err-Refused-clause-err : goal.returns-in-Err-Refused-clause-err
returns-in-Err-Refused-clause-err g c = zone_faulty c.in-Err-Refused.line c.in-Err-Refused.kind (search rules) (still_read _ _ _ c.in_ok-text.ensures.calm)

pub returns-clause-err : goal.returns-clause-err
returns-clause-err g c = zone_without_memory (still_read _ _ _ c.in_ok-text.ensures.calm)
