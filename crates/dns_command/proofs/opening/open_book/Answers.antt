use Rattle.dns_command.proofs.Endings.{begun_not, recovered_not}
use Rattle.dns_command.proofs.opening.open_book.Goals as goal

pub returns-in-Err-clause-err : goal.returns-in-Err-clause-err
returns-in-Err-clause-err g c = rw (c.in-Begin.is, c.unopened.ensures) (begun_not _ _ _ _ _ c.in-Err.ensures.err)

pub returns-in-Err-recover-clause-err : goal.returns-in-Err-recover-clause-err
returns-in-Err-recover-clause-err g c = rw (c.in-Recover.is, c.unopened-in-Err-recover.ensures) (recovered_not _ _ _ _ c.in-Err-recover.ensures.err)
