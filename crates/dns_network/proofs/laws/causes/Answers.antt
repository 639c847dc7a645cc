use Rattle.dns_network.proofs.Causes.{ceased_now, ended, gone_read, gone_written, nothing_taken, unwatched, was_shut_now}
use Rattle.dns_network.proofs.laws.causes.Goals as goal

pub returns-clause-ended : goal.returns-clause-ended
returns-clause-ended c = ended

pub returns-clause-not_read : goal.returns-clause-not_read
returns-clause-not_read c = gone_read

pub returns-clause-not_written : goal.returns-clause-not_written
returns-clause-not_written c = gone_written

pub returns-clause-nothing_taken : goal.returns-clause-nothing_taken
returns-clause-nothing_taken c = nothing_taken

pub returns-clause-unwatched : goal.returns-clause-unwatched
returns-clause-unwatched c = unwatched

pub returns-clause-shut : goal.returns-clause-shut
returns-clause-shut c = was_shut_now

pub returns-clause-ceased : goal.returns-clause-ceased
returns-clause-ceased c = ceased_now
