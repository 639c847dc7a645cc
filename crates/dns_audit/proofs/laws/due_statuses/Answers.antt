use Rattle.dns_audit.proofs.OneDue.{due_one}
use Rattle.dns_audit.proofs.laws.due_statuses.Goals as goal

pub returns : goal.returns
returns c = due_one
