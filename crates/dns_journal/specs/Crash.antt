-- What a crash may leave of a journal.
use Rattle.std.specs.Prelude.{◌≡◌, ◌⊎◌, ℤ, true, List, IsTrue}
use Rattle.sqlite.specs.Tree.{Trees}
use Rattle.sqlite.specs.State.{State, HasCleanDisk}
use Rattle.sqlite.specs.Store.{Ghosts}
use Rattle.sqlite.specs.Held.{state}
use Rattle.dns_sqlite.specs.declared.schema.Start.{Start}
use Rattle.dns_sqlite.specs.Shapes.{IsStart}
use Rattle.dns_sqlite.specs.Migration.{BecomesCurrent}
use Rattle.dns_keeper.specs.declared.row.Row.{Row}
use Rattle.dns_keeper.specs.declared.batch_row.BatchRow.{BatchRow}
use Rattle.dns_keeper.specs.Batches.{runs_of}
use Rattle.dns_keeper.specs.Keeping.{Kept}
use Rattle.dns_keeper.specs.Crash.{AreTold}
use Rattle.dns_journal.specs.Told.{View, AreRowsBelow}
pub use Rattle.dns_journal.specs.Left.{IsJournal, LeftAs, MayLeave, MayLeaveClean}
use Rattle.dns_journal.specs.Keepers.{journal_keeper}

-- the rows and the batches of a table of rows that has no batches yet: the batches are the runs of the rows
abbrev pub with_runs : List Row → Kept
with_runs rows = record { rows = rows; batches = runs_of rows }

-- whatever rows and batches a crash now may leave, this holds of them
abbrev pub Leaves : State → (Kept → Type 0) → Type 0
Leaves s P = HasCleanDisk s → (kept : Kept) → MayLeave s kept → P kept

-- whatever database a crash now may leave, this holds of it
abbrev pub LeavesTrees : State → (Trees → Type 0) → Type 0
LeavesTrees s P = HasCleanDisk s → (db : Trees) → s.may_leave db → P db

-- ---- the current version made of an earlier one

-- a database of the current version with the rows that there were, and with the runs of them as its batches, where they read
abbrev pub LeftRaised : State → Trees → Type 0
LeftRaised old db = (rows : List Row) → AreRowsBelow old rows → LeftAs (with_runs rows) db

-- a crash now may leave what it might leave before, or that
abbrev pub LeavesRaised : {S : Type 0} → Ghosts S → View S → View S → Type 0
LeavesRaised g old new = LeavesTrees (state g new.conn) (λ db. (state g old.conn).may_leave db ⊎ LeftRaised (state g old.conn) db)

-- the tables of this version became those of the current one, with these batches, which are the runs of the rows, where these read
pub record WasRaised (version : ℤ) (old new : State) : Type 0 where
  pub start : Start
  pub batches : List BatchRow
  pub from : IsStart start version old.now.schema
  pub becomes : BecomesCurrent start batches old new
  pub runs : (rows : List Row) → AreRowsBelow old rows → batches ≡ runs_of rows

-- where the disk is clean, the database was raised so, and is committed
abbrev pub IsRaisedIn : {S : Type 0} → Ghosts S → View S → View S → Type 0
IsRaisedIn g old new = HasCleanDisk (state g new.conn) → WasRaised old.version (state g old.conn) (state g new.conn)

-- where the disk is clean, the journal tells the rows that there were, where they read, and the runs of them as its batches
abbrev pub TellsRaised : {S : Type 0} → Ghosts S → View S → View S → Type 0
TellsRaised g old new =
    HasCleanDisk (state g new.conn) → (rows : List Row) → AreRowsBelow (state g old.conn) rows
    → AreTold ((journal_keeper g).told new) (with_runs rows)

-- ---- between calls

-- the calls of a journal go to its connection, and this is open
abbrev pub IsServing : {S : Type 0} → Ghosts S → View S → Type 0
IsServing g j = (j.is_ready ≡ true) × IsTrue (state g j.conn).is_open

-- a crash now may leave the rows and the batches that the journal tells, and no others
abbrev pub LeavesItsOwn : {S : Type 0} → Ghosts S → View S → Type 0
LeavesItsOwn g j = Leaves (state g j.conn) (AreTold ((journal_keeper g).told j))
