-- The output is that of a list of events, or the summary.
use Rattle.dns_command.proofs.output.put_answers.Goals as goal

pub returns-in-None : goal.returns-in-None
returns-in-None g c = rw c.in-None.is c.put_output.ensures

pub returns-in-Some : goal.returns-in-Some
returns-in-Some g c =
    let written = rw c.of-summary.ensures at c.put_summary.ensures in
    rw c.in-Some.is written
