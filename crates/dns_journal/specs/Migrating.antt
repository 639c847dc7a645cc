-- How the tables of an earlier version become those of the current one, over a connection.
use Rattle.std.specs.Prelude.{◌≡◌, ◌⊎◌, ◌≤◌, ℤ, false, List, [], Option, Some, IsTrue, Result, OnOk, OnErr}
use Rattle.sqlite_trees.specs.View.{doubt}
use Rattle.sqlite.specs.declared.error.Error.{Error}
use Rattle.sqlite.specs.Order.{Row as Shown}
use Rattle.sqlite.specs.Tree.{Trees}
use Rattle.sqlite.specs.Effect.{Database, IsDatabase}
use Rattle.sqlite.specs.State.{State, HasCleanDisk}
use Rattle.sqlite.specs.Store.{Ghosts}
use Rattle.sqlite.specs.Held.{Held, state}
use Rattle.dns_sqlite.specs.declared.schema.Start.{Start}
use Rattle.dns_sqlite.specs.declared.schema.Start.TheVariants.{NoTable, VersionAlone, Rows}
use Rattle.dns_sqlite.specs.Statements.{HasRecords}
use Rattle.dns_sqlite.specs.Versions.{KeepsDatabase}
use Rattle.dns_sqlite.specs.Migration.{IsBefore, IsRaised, BecomesCurrent}
use Rattle.dns_keeper.specs.declared.row.Row.{Row}
use Rattle.dns_keeper.specs.declared.batch_row.BatchRow.{BatchRow}
use Rattle.dns_keeper.specs.Batches.{runs_of}
use Rattle.dns_journal.specs.Told.{told}
use Rattle.dns_journal.specs.Stored.{IsStoredFrom}
use Rattle.dns_journal.specs.Crash.{LeavesTrees}
use Rattle.dns_journal.specs.Pages.{Holds}
use Rattle.dns_journal.specs.declared.page.Page.{Page}

-- ---- the rows, read one by one

-- the row with the least id from this one on, and the page from which the next one follows
abbrev pub IsNextIn : ℤ → List Shown → Page → Option Row → Type 0
IsNextIn id table page found = IsStoredFrom id table found × Holds page table

-- the next row comes from the page, and the connection was not asked; or it was asked, and was open
abbrev pub TakesNext : {S : Type 0} → Ghosts S → ℤ → Held S → Page → Held S → Page → Option Row → Type 0
TakesNext g id old was new page found =
    HasCleanDisk (state g new) → ((table : List Shown) → Holds was table → IsNextIn id table page found)
    ⊎ (IsTrue (state g old).is_open × (HasRecords (state g old).now → IsNextIn id ((state g old).now.trees 1) page found))

-- these are the runs of the rows of a table, where each of them reads and their ids ascend
abbrev pub AreRunsOfTable : List Shown → List BatchRow → Type 0
AreRunsOfTable table batches = (rows : List Row) → told table ≡ Some rows → batches ≡ runs_of rows

-- so they are of the table of a connection
abbrev pub AreRunsIn : {S : Type 0} → Ghosts S → Held S → Held S → List BatchRow → Type 0
AreRunsIn g old new batches = HasCleanDisk (state g new) → HasRecords (state g old).now → AreRunsOfTable ((state g old).now.trees 1) batches

-- ---- the tables

-- the batches that come with the current version: the runs of the rows, where there is a table of them, and else none
abbrev pub AreBatchesFor : Start → Database → List BatchRow → Type 0
AreBatchesFor NoTable d batches = batches ≡ []
AreBatchesFor VersionAlone d batches = batches ≡ []
AreBatchesFor Rows d batches = AreRunsOfTable (d.trees 1) batches

-- the current version is there with them
pub record BecomesWith (start : Start) (old new : State) : Type 0 where
  pub batches : List BatchRow
  pub runs : AreBatchesFor start old.now batches
  pub becomes : BecomesCurrent start batches old new

-- what a crash may leave of it
pub record MayBecomeWith (start : Start) (old : State) (db : Trees) : Type 0 where
  pub batches : List BatchRow
  pub runs : AreBatchesFor start old.now batches
  pub d : Database
  pub made : IsRaised start batches old.now d
  pub sound : IsDatabase d
  pub is : db ≡ d.trees

-- the current version is made, whole or not at all
pub record Raises {S : Type 0} (g : Ghosts S) (start : Start) (old new : Held S) (result : Result (Unit {0}) Error) : Type 0 where
  pub alone : (state g new).in_transaction ≡ false
  pub falls : doubt (state g old).is_clean ≤ doubt (state g new).is_clean
  pub opened : HasCleanDisk (state g new) → OnOk result (IsTrue (state g old).is_open)
  pub made : HasCleanDisk (state g new) → IsBefore start (state g old).now → OnOk result (BecomesWith start (state g old) (state g new))
  pub kept : OnErr result (KeepsDatabase (state g old) (state g new))
  pub crash : HasCleanDisk (state g new) → OnOk result ((db : Trees) → (state g new).may_leave db → db ≡ (state g new).now.trees)
  pub left : LeavesTrees (state g new) (λ db. (state g old).may_leave db
      ⊎ (IsTrue (state g old).is_open × (IsBefore start (state g old).now → MayBecomeWith start (state g old) db)))
