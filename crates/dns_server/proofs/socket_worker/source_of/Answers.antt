use Rattle.std.proofs.Common.{ap}
use Rattle.dns_book.specs.declared.ask.Ask.{Ask}
use Rattle.dns_server.proofs.socket_worker.source_of.Goals as goal

pub returns : goal.returns
returns c = ap (λ (x : Ask). x.source) c.ask.view_is
