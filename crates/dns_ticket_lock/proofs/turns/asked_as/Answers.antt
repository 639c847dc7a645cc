use Rattle.std.proofs.Common.{ap}
use Rattle.dns_ticket_lock.specs.Settling.{asked_by}
use Rattle.dns_ticket_lock.proofs.turns.asked_as.Goals as goal

pub returns : goal.returns
returns c = ap (asked_by c.args.client) c.ask.view_is
