-- What statements do inside a transaction, and what a transaction does that is begun for them.
use Rattle.std.specs.Prelude.{◌≡◌, ◌⊎◌, ◌≤◌, true, false, IsTrue, Result, OnOk, OnErr}
use Rattle.sqlite_trees.specs.View.{doubt}
use Rattle.sqlite.specs.declared.error.Error.{Error}
use Rattle.sqlite.specs.Schema.{Schema}
use Rattle.sqlite.specs.Tree.{Trees}
use Rattle.sqlite.specs.Effect.{Database}
use Rattle.sqlite.specs.State.{State, HasCleanDisk, Survives, KeepsCommit}
use Rattle.sqlite.specs.Store.{Ghosts}
use Rattle.sqlite.specs.Held.{Held, state}
use Rattle.dns_sqlite.specs.Tables.{row_schema, batch_schema}

-- a database has this schema
abbrev pub HasSchema : Schema → Database → Type 0
HasSchema schema d = d.schema ≡ schema

-- a database has the tables of a journal of the current version, and nothing else
abbrev pub HasTables : Database → Type 0
HasTables = HasSchema batch_schema

-- it has the table of the rows, and no other than those of a journal
abbrev pub HasRecords : Database → Type 0
HasRecords d = HasSchema row_schema d ⊎ HasTables d

-- statements inside a transaction, on a clean disk: where they are done, they lead from such a database to such a state, and are still
-- inside; the last commit stays as it is, and a crash leaves what it left before
pub record Statements {S T : Type 0} (g : Ghosts S) (From : Database → Type 0) (Makes : State → State → Type 0)
    (old new : Held S) (result : Result T Error) : Type 0 where
  pub made : HasCleanDisk (state g new) → IsTrue (state g old).in_transaction
      → From (state g old).now → OnOk result (Makes (state g old) (state g new))
  pub inside : HasCleanDisk (state g new) → IsTrue (state g old).in_transaction → OnOk result ((state g new).in_transaction ≡ true)
  pub kept : HasCleanDisk (state g new) → IsTrue (state g old).in_transaction → KeepsCommit (state g old) (state g new)
  pub survives : Survives (state g old) (state g new) (λ _. ⊥)

-- inside a transaction, on a clean disk, the connection is open where they are done
abbrev pub IsOpenAfter : {S T : Type 0} → Ghosts S → Held S → Held S → Result T Error → Type 0
IsOpenAfter g old new result = HasCleanDisk (state g new) → IsTrue (state g old).in_transaction → OnOk result (IsTrue (state g new).is_open)

-- one statement or more, so the connection is open where they are done
pub record Statement {S T : Type 0} (g : Ghosts S) (From : Database → Type 0) (Makes : State → State → Type 0) (old new : Held S)
    (result : Result T Error) : Type 0 where
  pub done : Statements g From Makes old new result
  pub opened : IsOpenAfter g old new result

-- a transaction that is begun and ended, on a clean disk: where it is done, it leads from such a database to such a state, which a crash
-- leaves too; where it is refused, the database is as it was, and a crash leaves it so, or one that the commit may leave
pub record Transacts {S T : Type 0} (g : Ghosts S) (From : Database → Type 0) (Makes : State → State → Type 0)
    (MayCommit : State → Trees → Type 0) (old new : Held S) (result : Result T Error) : Type 0 where
  pub alone : (state g new).in_transaction ≡ false
  pub falls : doubt (state g old).is_clean ≤ doubt (state g new).is_clean
  pub opened : HasCleanDisk (state g new) → OnOk result (IsTrue (state g old).is_open)
  pub made : HasCleanDisk (state g new) → From (state g old).now → OnOk result (Makes (state g old) (state g new))
  pub kept : HasCleanDisk (state g new) → IsTrue (state g new).is_open → OnErr result
      (IsTrue (state g old).is_open × ((state g new).now ≡ (state g old).now) × ((state g new).committed ≡ (state g old).committed))
  pub crash : HasCleanDisk (state g new) → OnOk result ((db : Trees) → (state g new).may_leave db → db ≡ (state g new).now.trees)
  pub survives : Survives (state g old) (state g new) (MayCommit (state g old))
