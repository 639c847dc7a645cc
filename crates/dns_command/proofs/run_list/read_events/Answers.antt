use Rattle.std.proofs.Common.{rules}
use Rattle.std.proofs.lemmas.Result.{err_from_is_err_and}
use Rattle.dns_command.specs.Steps.{event_faulty, events_without_memory}
use Rattle.dns_command.proofs.TextsRead.{still_read, events_cut}
use Rattle.dns_command.proofs.run_list.read_events.Goals as goal

pub returns-in_err-text-clause-err : goal.returns-in_err-text-clause-err
returns-in_err-text-clause-err g c =
    let p = err_from_is_err_and c.from_residual.result c.from_residual.ensures.1 in
    rw (p.1, p.2) (events_cut _ _ c.in_err-text.ensures.long c.in_err-text.ensures.cause c.in_err-text.ensures.calm)

pub returns-in-Ok-clause-ok : goal.returns-in-Ok-clause-ok
returns-in-Ok-clause-ok g c = record { read = search rules; still = still_read _ _ _ c.in_ok-text.ensures.calm }

pub returns-in-Err-Line-clause-err : goal.returns-in-Err-Line-clause-err
returns-in-Err-Line-clause-err g c = event_faulty c.in-Err-Line.line (search rules) (still_read _ _ _ c.in_ok-text.ensures.calm)

pub returns-clause-err : goal.returns-clause-err
returns-clause-err g c = events_without_memory (still_read _ _ _ c.in_ok-text.ensures.calm)
