use Rattle.dns_command.specs.Steps.{journal_without_memory}
use Rattle.dns_command.proofs.opening.find_example.Goals as goal

pub returns-in-Err-clause-err : goal.returns-in-Err-clause-err
returns-in-Err-clause-err g c = journal_without_memory c.in_ok-has_rows.ensures.still
