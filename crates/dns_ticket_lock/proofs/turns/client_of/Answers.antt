use Rattle.std.proofs.Common.{ap}
use Rattle.dns_book.specs.declared.ask.Ask.{Ask}
use Rattle.dns_ticket_lock.proofs.turns.client_of.Goals as goal

pub returns : goal.returns
returns c = ap (λ (x : Ask). x.client) c.ask.view_is
