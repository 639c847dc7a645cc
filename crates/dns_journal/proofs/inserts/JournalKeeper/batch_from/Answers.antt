use Rattle.std.proofs.Common.{◌≡◌, ◌∙◌, true, w64, Some, Ok, sym, ap, subst, rules}
use Rattle.std.proofs.lemmas.Int.{to_z-of_z}
use Rattle.sqlite.specs.Held.{state}
use Rattle.dns_journal.specs.Told.{View}
use Rattle.dns_journal.specs.BatchPages.{IsBatchStoredIn}
use Rattle.dns_journal.specs.Selects.{WasRead}
use Rattle.dns_journal.proofs.BatchReading.{stored_batch_told, stored_first_told}
use Rattle.dns_journal.proofs.Iterating.{was_read_none}
use Rattle.dns_journal.proofs.Asking.{reads_batch}
use Rattle.dns_journal.proofs.inserts.JournalKeeper.batch_from.Goals as goal

pub read_batches-requires : goal.read_batches-requires
read_batches-requires g c =
    let is : c.self.inside.ready ≡ true = search rules in
    let before : c.args.self.now.is_ready ≡ true = rw (← c.self.view_is) is in
    ap (λ (j : View g.row.S.Denot). j.is_ready) c.from_batches.ensures.kept ∙ before

pub returns-in-None-clause-read : goal.returns-in-None-clause-read
returns-in-None-clause-read g c = rw (to_z-of_z w64 c.args.first c.ranges.first, c.from_batches.ensures.kept) at c.read_batches.ensures.read

pub returns-in-Some-clause-read : goal.returns-in-Some-clause-read
returns-in-Some-clause-read g c =
    let stored : IsBatchStoredIn c.args.first (state g.S.Store c.from_batches.new.self.conn) (Some c.in-Some.batch) = rw (to_z-of_z w64 c.args.first c.ranges.first) at c.in-Some.ensures.stored in
    let read : WasRead g.S.Store c.args.self.now c.from_batches.new.self = subst (WasRead g.S.Store c.args.self.now) (sym c.from_batches.ensures.kept) (was_read_none g.S.Store c.args.self.now) in
    let calm : c.from_batches.new.self.faults ≡ c.args.self.now.faults = ap (λ (j : View g.row.S.Denot). j.faults) c.from_batches.ensures.kept in
    reads_batch g.S.Store c.args.self.now c.from_batches.new.self c.args.first (Ok (Some c.in-Some.batch)) (stored_batch_told g.S.Store c.from_batches.new.self c.args.first (Some c.in-Some.batch) stored)
    (λ least. stored_first_told g.S.Store c.from_batches.new.self (Some c.in-Some.batch) (rw least at stored)) read (record { later = search (rules, calm); counts = calm })
