use Rattle.std.proofs.Common.{w64}
use Rattle.std.proofs.lemmas.Int.{to_z-of_z}
use Rattle.sqlite.specs.Held.{state}
use Rattle.dns_journal.proofs.BatchPages.{stored_if}
use Rattle.dns_journal.proofs.journal.Journal.from_batches.Goals as goal

pub invariant_of-self : goal.invariant_of-self
invariant_of-self g c = record { ready = c.self.invariant.ready; page = c.self.invariant.page; batches = λ clean. c.take.ensures.held _ (c.self.invariant.batches clean); fits = c.self.invariant.fits }

pub returns-clause-stored : goal.returns-clause-stored
returns-clause-stored g c = stored_if c.self.inside.batches c.args.first (state g.S.Store c.self.inside.conn) c.take.result c.self.invariant.batches (rw (to_z-of_z w64 c.args.first c.ranges.first) at c.take.ensures.found)
