use Rattle.dns_counts.proofs.Totalled.{recorded_all-total, recorded-recorded}
use Rattle.dns_counts.proofs.laws.recorded_replies.Goals as goal

pub returns-clause-total : goal.returns-clause-total
returns-clause-total c = recorded_all-total

pub returns-clause-order : goal.returns-clause-order
returns-clause-order c = recorded-recorded
