use Rattle.std.proofs.Common.{◌∙◌}
use Rattle.dns_journal.proofs.Pages.{led_is}
use Rattle.dns_journal.proofs.page.Page.new.Goals as goal

pub returns-clause-rows : goal.returns-clause-rows
returns-clause-rows c = led_is c.next_of-first.result _ _ c.next_of-first.ensures.next c.next_of-first.ensures.end ∙ c.into_iter-rest.ensures.rest
