use Rattle.std.proofs.Common.{rules}
use Rattle.dns_journal.proofs.Pages.{takes_in}
use Rattle.dns_journal.proofs.migrating.taken.Goals as goal

pub returns-clause-next : goal.returns-clause-next
returns-clause-next c = takes_in c.args.page.now c.take.new.self c.args.id c.take.result (search rules) c.take.ensures.first c.take.ensures.held
