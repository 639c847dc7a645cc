use Rattle.dns_command.proofs.Endings.{sees_no_row}
use Rattle.dns_command.proofs.opening.has_rows.Goals as goal

pub returns-clause-err : goal.returns-clause-err
returns-clause-err g c = rw (c.unkept.ensures) (sees_no_row _ c.in-Err.fault c.in-Err.ensures.read.cause)
