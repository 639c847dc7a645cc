-- What an insert does to a journal.
use Rattle.std.specs.Prelude.{◌≡◌, ◌⊎◌, ◌<◌, ◌≤◌, ℕ, List, [], length, Result, IfErr, OnOk, OnErr, IsErrOf, true, false}
use Rattle.sqlite_trees.specs.View.{doubt}
use Rattle.sqlite.specs.Store.{Ghosts}
use Rattle.sqlite.specs.Held.{state}
use Rattle.dns_io.specs.Told.{Keeps}
use Rattle.dns_wire.specs.declared.record.Record.{Record}
use Rattle.dns_wire.specs.WireFormat.{AreShort}
use Rattle.dns_keeper.specs.Keeping.{GrowsByBatch, GrowsByRun, KeepsBatches}
use Rattle.dns_keeper.specs.Crash.{IsGrownFrom}
use Rattle.dns_journal.specs.declared.error.PersistenceError.{PersistenceError}
use Rattle.dns_journal.specs.declared.error.PersistenceError.TheVariants.{Sqlite}
use Rattle.dns_journal.specs.Told.{View, told_rows, IsUnready, Refuses}
use Rattle.dns_journal.specs.Keepers.{journal_keeper}
use Rattle.dns_journal.specs.Crash.{MayLeave, Leaves, LeavesTrees, LeavesItsOwn}
use Rattle.dns_journal.specs.Counting.{HasCause}
use Rattle.dns_journal.specs.Records.{RefusesBatch}
use Rattle.dns_journal.specs.Stored.{KeepsDatabase, PutsBatch, LeavesBatch, LeavesShown}

-- a row for each of these records comes to a journal, in order, of one client, one serial and one moment, and where there are any one
-- batch: all of them, or none
pub record Puts {S E : Type 0} (g : Ghosts S) (old new : View S) (client serial moment : ℕ) (records : List Record)
    (result : Result (Unit {0}) E) : Type 0 where
  -- to the rows and the batches that the journal tells
  pub ok : OnOk result (GrowsByBatch (told_rows g old) (told_rows g new) client serial moment records)
  pub run : OnOk result (GrowsByRun ((journal_keeper g).told old) ((journal_keeper g).told new) records)
  pub err : OnErr result (Keeps (told_rows g old) (told_rows g new))
  pub batches : OnErr result (KeepsBatches ((journal_keeper g).told old) ((journal_keeper g).told new))
  -- to its database, whether or not each of its rows reads
  pub grown : 0 < length records → OnOk result (PutsBatch client serial moment records (state g old.conn) (state g new.conn))
  pub untouched : OnErr result (KeepsDatabase (state g old.conn) (state g new.conn))
  pub committed : 0 < length records → OnOk result (LeavesShown (state g new.conn))
  -- a crash leaves them with the whole batch; after a refusal these, or what it might leave before
  pub alone : 0 < length records → OnOk result (LeavesItsOwn g new)
  pub left : Leaves (state g new.conn) (λ kept. MayLeave (state g old.conn) kept
      ⊎ IsGrownFrom ((journal_keeper g).told old) client serial moment records kept)
  pub crash : LeavesBatch client serial moment records (state g old.conn) (state g new.conn)
  -- no records are no call of the connection
  pub empty : records ≡ [] → old.is_ready ≡ true → new ≡ old
  pub same : records ≡ [] → LeavesTrees (state g new.conn) (state g old.conn).may_leave
  pub falls : doubt (state g old.conn).is_clean ≤ doubt (state g new.conn).is_clean
  pub mode : (state g old.conn).in_transaction ≡ false → (state g new.conn).in_transaction ≡ false
  pub version : new.version ≡ old.version
  pub ready : new.is_ready ≡ old.is_ready

-- an insert of these records, with why it is refused
pub record Inserts {S : Type 0} (g : Ghosts S) (old new : View S) (client serial moment : ℕ) (records : List Record)
    (result : Result (Unit {0}) PersistenceError) : Type 0 where
  pub put : Puts g old new client serial moment records result
  pub short : OnOk result (AreShort records)
  pub named : IfErr result (RefusesBatch records)
  pub written : old.is_ready ≡ true → IsErrOf result Sqlite → AreShort records
  pub other : IsUnready old → Refuses old new Sqlite result
  pub cause : HasCause old.faults new.faults result
