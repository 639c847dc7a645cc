use Rattle.std.proofs.Common.{◌≡◌, true, sym, subst, arith, rules, w64, to_z, of_z}
use Rattle.std.proofs.lemmas.Int.{to_z-of_z}
use Rattle.sqlite.specs.Held.{state}
use Rattle.sqlite.specs.Effect.{Database}
use Rattle.dns_sqlite.specs.Reads.{AreBatchesIn}
use Rattle.dns_journal.specs.Told.{IsReady}
use Rattle.dns_journal.proofs.BatchReading.{stored_batch_told, stored_first_told}
use Rattle.dns_journal.proofs.Asking.{was_read_at, was_read_stays, reads_batch, counts_by}
use Rattle.dns_journal.proofs.Iterating.{was_read_then}
use Rattle.dns_journal.proofs.journal.Journal.read_batches.Goals as goal

pub first_batch_of-requires : goal.first_batch_of-requires
first_batch_of-requires g c clean =
    let old = state g.S.Store c.self.inside.conn in
    let done = c.in-Ok.ensures in
    let is : c.self.inside.ready ≡ true = rw (← c.self.view_is) at c.requires in
    let ready : IsReady true c.self.inside.version old = subst (λ b. IsReady b c.self.inside.version old) is c.self.invariant.ready in
    let same = (done.same clean (done.opened clean)).0.now_is in
    let it = done.found clean (ready.2 (omega (arith, done.asked.falls, clean)) (done.opened clean)) in
    subst (λ (d : Database). AreBatchesIn (to_z w64 (of_z w64 c.args.first)) (d.trees 2) c.in-Ok.batches.items) (sym same) it

pub returns-in-Ok-clause-stays : goal.returns-in-Ok-clause-stays
returns-in-Ok-clause-stays g c =
    let is : c.self.inside.ready ≡ true = rw (← c.self.view_is) at c.requires in
    let asked = was_read_at g.S.Store c.self.inside.conn c.select_batches_from.new.conn c.self.inside.version c.self.inside.ready c.self.inside.faults c.self.inside.faults is c.self.invariant.ready c.in-Ok.ensures.asked in
    rw (← c.self.view_is, c.first_batch_of.ensures.kept) asked

pub returns-in-Ok-clause-read : goal.returns-in-Ok-clause-read
returns-in-Ok-clause-read g c =
    let stored = rw (to_z-of_z w64 c.args.first c.ranges.first) at c.first_batch_of.ensures.stored in
    reads_batch g.S.Store c.args.self.now c.first_batch_of.new.self c.args.first _ (stored_batch_told g.S.Store c.first_batch_of.new.self c.args.first c.first_batch_of.result stored)
    (λ least. stored_first_told g.S.Store c.first_batch_of.new.self c.first_batch_of.result (rw least at stored)) (returns-in-Ok-clause-stays g c) (record { later = search rules; counts = search rules })

pub returns-in-Err-clause-stays : goal.returns-in-Err-clause-stays
returns-in-Err-clause-stays g c =
    let is : c.self.inside.ready ≡ true = rw (← c.self.view_is) at c.requires in
    let asked = was_read_at g.S.Store c.self.inside.conn c.select_batches_from.new.conn c.self.inside.version c.self.inside.ready c.self.inside.faults c.self.inside.faults is c.self.invariant.ready c.in-Err.ensures.asked in
    rw (← c.self.view_is) (was_read_then g.S.Store _ _ c.keep_fault.new.self asked (was_read_stays g.S.Store _ c.keep_fault.new.self c.keep_fault.ensures.kept))

pub returns-in-Err-clause-read : goal.returns-in-Err-clause-read
returns-in-Err-clause-read g c =
    reads_batch g.S.Store c.args.self.now c.keep_fault.new.self c.args.first _ tt (λ _. tt) (returns-in-Err-clause-stays g c) (rw (← c.self.view_is) (counts_by _ _ c.keep_fault.result c.keep_fault.ensures.later c.keep_fault.ensures.cause c.keep_fault.ensures.uncounted))
