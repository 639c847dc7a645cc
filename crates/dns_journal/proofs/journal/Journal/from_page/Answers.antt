use Rattle.std.proofs.Common.{rules}
use Rattle.sqlite.specs.Held.{state}
use Rattle.dns_journal.proofs.Pages.{goes_on}
use Rattle.dns_journal.proofs.journal.Journal.from_page.Goals as goal

pub invariant_of-self : goal.invariant_of-self
invariant_of-self g c = record { ready = c.self.invariant.ready; page = λ clean. c.take.ensures.held _ (c.self.invariant.page clean); batches = c.self.invariant.batches; fits = c.self.invariant.fits }

pub returns-clause-stored : goal.returns-clause-stored
returns-clause-stored g c = goes_on c.self.inside.page c.args.id (state g.S.Store c.self.inside.conn) c.take.result (search rules) c.self.invariant.page c.take.ensures.first
