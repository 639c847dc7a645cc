-- What a reading call does to a journal, and what it finds.
use Rattle.std.specs.Prelude.{◌≡◌, ◌≤◌, ℤ, List, Option, Result, IfOk, IfErr, IfSome, IsErrOf, FitsSigned, false}
use Rattle.std.specs.Int.{w64}
use Rattle.sqlite_trees.specs.View.{doubt}
use Rattle.sqlite.specs.Store.{Ghosts}
use Rattle.sqlite.specs.Held.{state}
use Rattle.dns_io.specs.Told.{Keeps}
use Rattle.dns_wire.specs.declared.record.Record.{Record}
use Rattle.dns_journal.specs.declared.error.PersistenceError.{PersistenceError}
use Rattle.dns_journal.specs.declared.error.PersistenceError.TheVariants.{Recovery, Sqlite}
use Rattle.dns_journal.specs.declared.error.RecoveryKind.TheVariants.{NoRecord}
use Rattle.dns_journal.specs.Told.{View, told_rows, IsUnready, Refuses}
use Rattle.dns_keeper.specs.Keeping.{KeepsBatches}
use Rattle.dns_journal.specs.Keepers.{journal_keeper}
use Rattle.dns_journal.specs.Crash.{LeavesTrees}
use Rattle.dns_journal.specs.Counting.{HasCause}
use Rattle.dns_journal.specs.Records.{IsRecordFrom, IsNoRecordFrom, IsRecordFault, AreRecordsOf, TellsNoRecord}
use Rattle.dns_journal.specs.Stored.{KeepsDatabase, ShowsRecord, ShowsNoRecord, ShowsRecords, HasStoredNoRecord}

-- a journal was only read: its rows, its batches and its database are as they were, and a crash leaves what it left before
pub record WasRead {S : Type 0} (g : Ghosts S) (old new : View S) : Type 0 where
  pub kept : Keeps (told_rows g old) (told_rows g new)
  pub batches : KeepsBatches ((journal_keeper g).told old) ((journal_keeper g).told new)
  pub untouched : KeepsDatabase (state g old.conn) (state g new.conn)
  pub left : LeavesTrees (state g new.conn) (state g old.conn).may_leave
  pub falls : doubt (state g old.conn).is_clean ≤ doubt (state g new.conn).is_clean
  pub mode : (state g old.conn).in_transaction ≡ false → (state g new.conn).in_transaction ≡ false
  pub version : new.version ≡ old.version
  pub ready : new.is_ready ≡ old.is_ready

-- the id and the record of the row with the least id from this one on, or that there is none
pub record Selects {S : Type 0} (g : Ghosts S) (old new : View S) (id : ℤ)
    (result : Result (Option (ℤ × Record)) PersistenceError) : Type 0 where
  -- of the rows that the journal tells
  pub found : IfOk result (IsRecordFrom (told_rows g new) id)
  pub fits : IfOk result (λ found. IfSome found (λ f. FitsSigned w64 f.0))
  pub recovery : IsErrOf result (Recovery NoRecord) → IsNoRecordFrom (told_rows g new) id
  -- of its database, whether or not each of its rows reads
  pub shown : IfOk result (ShowsRecord id (state g old.conn) (state g new.conn))
  pub spoiled : IsErrOf result (Recovery NoRecord) → ShowsNoRecord id (state g old.conn) (state g new.conn)
  pub read : WasRead g old new
  pub named : IfErr result IsRecordFault
  pub other : IsUnready old → Refuses old new Sqlite result
  pub cause : HasCause old.faults new.faults result

-- the records of all rows, by ascending id
pub record SelectsAll {S : Type 0} (g : Ghosts S) (old new : View S) (result : Result (List Record) PersistenceError) : Type 0 where
  -- of the rows that the journal tells
  pub records : IfOk result (AreRecordsOf (told_rows g new))
  pub recovery : IsErrOf result (Recovery NoRecord) → TellsNoRecord (told_rows g new)
  -- of its database, whether or not each of its rows reads
  pub shown : IfOk result (ShowsRecords (state g old.conn) (state g new.conn))
  pub spoiled : IsErrOf result (Recovery NoRecord) → HasStoredNoRecord (state g old.conn) (state g new.conn)
  pub read : WasRead g old new
  pub named : IfErr result IsRecordFault
  pub other : IsUnready old → Refuses old new Sqlite result
  pub cause : HasCause old.faults new.faults result
