use Rattle.std.proofs.Common.{ap}
use Rattle.dns_book.specs.declared.ask.Ask.{Ask}
use Rattle.dns_server_core.proofs.handler.message_in.Goals as goal

pub returns : goal.returns
returns c = ap (λ (x : Ask). record x { bytes = c.args.message.now }) c.stream.view_is
