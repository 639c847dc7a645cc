use Rattle.std.proofs.Common.{w64}
use Rattle.std.proofs.lemmas.Int.{to_z-of_z}
use Rattle.sqlite.specs.Held.{state}
use Rattle.dns_journal.proofs.BatchPages.{opens_batches, begins_with}
use Rattle.dns_journal.proofs.journal.Journal.first_batch_of.Goals as goal

pub invariant_of-self : goal.invariant_of-self
invariant_of-self g c =
    let s = state g.S.Store c.self.inside.conn in
    let next = rw (to_z-of_z w64 c.args.first c.ranges.first) at c.new.ensures.next in
    let read = rw (← c.self.view_is) at c.requires in
    record {
      ready = c.self.invariant.ready;
      page = c.self.invariant.page;
      batches = λ clean. c.take.ensures.held _ (opens_batches c.new.result c.args.first (s.now.trees 2) c.args.batches.items c.new.ensures.batches next (read clean));
      fits = c.self.invariant.fits;
    }

pub returns-clause-stored : goal.returns-clause-stored
returns-clause-stored g c =
    let next = rw (to_z-of_z w64 c.args.first c.ranges.first) at c.new.ensures.next in
    let found = rw (to_z-of_z w64 c.args.first c.ranges.first) at c.take.ensures.found in
    let none = rw (to_z-of_z w64 c.args.first c.ranges.first) at c.take.ensures.none in
    begins_with c.new.result c.args.first (state g.S.Store c.self.inside.conn) c.args.batches.items c.take.result c.new.ensures.batches next (rw (← c.self.view_is) at c.requires) found none
