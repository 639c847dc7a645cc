use Rattle.std.proofs.Common.{◌∙◌}
use Rattle.dns_journal.proofs.Pages.{led_is}
use Rattle.dns_journal.proofs.batch_page.BatchPage.new.Goals as goal

pub returns-clause-batches : goal.returns-clause-batches
returns-clause-batches c = led_is c.next_of-first.result _ _ c.next_of-first.ensures.next c.next_of-first.ensures.end ∙ c.into_iter-rest.ensures.rest
