use Rattle.dns_update_client.proofs.Causes.{read-done, read-failed}
use Rattle.dns_update_client.proofs.receiving.read_behind.Goals as goal

pub returns-in-Ok-clause-cause : goal.returns-in-Ok-clause-cause
returns-in-Ok-clause-cause g c = read-done _ _ c.in-Ok.count c.in-Ok.ensures.told.cause.counts

pub returns-in-Err-clause-cause : goal.returns-in-Err-clause-cause
returns-in-Err-clause-cause g c = rw c.of_input.ensures (read-failed _ _ c.in-Err.fault c.in-Err.ensures.told.cause)
