-- What a query leaves, and what the rows that it shows read as.
use Rattle.std.specs.Prelude.{◌≡◌, ◌⊎◌, ◌≤◌, ℕ, ℤ, suc, false, List, [], ◌∷◌, ◌++◌, map, if◌then◌else◌, IsTrue}
use Rattle.std.specs.Int.Signed.{le_z}
use Rattle.sqlite_trees.specs.View.{doubt}
use Rattle.sqlite.specs.declared.types.Value.TheVariants.{Int, Text, Blob}
use Rattle.sqlite.specs.Order.{Row as Shown, column}
use Rattle.sqlite.specs.Tree.{Trees}
use Rattle.sqlite.specs.Given.{HasGiven}
use Rattle.sqlite.specs.Store.{Ghosts}
use Rattle.sqlite.specs.Held.{Held, state}
use Rattle.sqlite.specs.State.{State, HasCleanDisk, IsUnchanged, IsRolledBack}
use Rattle.dns_keeper.specs.declared.row.Row.{Row}
use Rattle.dns_keeper.specs.declared.batch_row.BatchRow.{BatchRow}
use Rattle.dns_keeper.specs.Batches.{AreByFirst}
use Rattle.dns_sqlite.specs.Tables.{HasRows, from_text, stored_batch}
use Rattle.dns_sqlite.specs.Statements.{HasTables, HasRecords}
use Rattle.dns_sqlite.specs.Versions.{KeepsDatabase}

pub record ReadsAs (shown : Shown) (row : Row) : Type 0 where
  pub id : column shown 0 ≡ Int row.id
  pub client : column shown 1 ≡ Int row.client
  pub serial : column shown 2 ≡ Int row.serial
  pub stamp : column shown 3 ≡ Text row.stamp
  pub bytes : column shown 4 ≡ Blob row.bytes

-- each of the rows that a query shows reads as one of these, in order
abbrev pub AreRead : List Shown → List Row → Type 0
AreRead [] [] = Unit {0}
AreRead [] (row ∷ rows) = ⊥
AreRead (first ∷ shown) [] = ⊥
AreRead (first ∷ shown) (row ∷ rows) = ReadsAs first row × AreRead shown rows

-- these are rows of the table from this id on, by ascending id, none of which is passed over; where there is one, it is among them
abbrev pub HasPage : ℤ → List Shown → List Row → Type 0
HasPage id table rows = (count : ℕ) × (shown : List Shown) × HasRows (suc count) id table shown × AreRead shown rows

-- a database is as it was, or what a transaction did to it was undone
abbrev pub IsKept : State → State → Type 0
IsKept old new = IsUnchanged old new ⊎ IsRolledBack old new

-- ---- of a connection, where its disk is clean

-- it was open, and is as it was
abbrev pub StaysAs : {S : Type 0} → Ghosts S → Held S → Held S → Type 0
StaysAs g old new = HasCleanDisk (state g new) → IsTrue (state g old).is_open → IsUnchanged (state g old) (state g new)

-- it was open, and is as it was, or what a transaction did was undone
abbrev pub StaysOrIsUndone : {S : Type 0} → Ghosts S → Held S → Held S → Type 0
StaysOrIsUndone g old new = HasCleanDisk (state g new) → IsTrue (state g old).is_open → IsKept (state g old) (state g new)

-- it was only asked: in no transaction it stays in none, and its database is as it was; and a crash leaves what it left before
pub record WasAsked {S : Type 0} (g : Ghosts S) (old new : Held S) : Type 0 where
  pub alone : (state g old).in_transaction ≡ false → (state g new).in_transaction ≡ false
  pub falls : doubt (state g old).is_clean ≤ doubt (state g new).is_clean
  pub kept : (state g old).in_transaction ≡ false → KeepsDatabase (state g old) (state g new)
  pub left : HasCleanDisk (state g new) → (db : Trees) → (state g new).may_leave db → (state g old).may_leave db

-- these are a page of the rows that the query goes on to show, if it stands at its start
abbrev pub FindsPage : {S : Type 0} → Ghosts S → Held S → Held S → List Row → Type 0
FindsPage g old new rows =
    HasCleanDisk (state g new) → IsTrue (state g old).is_open → HasRecords (state g old).now → (id : ℤ)
    → HasGiven g from_text (Int id ∷ []) old [] → HasPage id ((state g old).now.trees 1) rows

-- these are a page of the rows from this id on, and the connection is as it was
abbrev pub ShowsPage : {S : Type 0} → Ghosts S → ℤ → Held S → Held S → List Row → Type 0
ShowsPage g id old new rows =
    HasCleanDisk (state g new) → HasRecords (state g old).now
    → HasPage id ((state g old).now.trees 1) rows × IsUnchanged (state g old) (state g new)

-- the batches from the first one on whose first is not below this id
abbrev pub batches_from : ℤ → List BatchRow → List BatchRow
batches_from id [] = []
batches_from id (b ∷ batches) = if le_z id b.first then b ∷ batches else batches_from id batches

-- some batches, others behind them, and those that both are; where there are none there are no others
abbrev pub AreFrontOf : List BatchRow → List BatchRow → Type 0
AreFrontOf [] all = all ≡ []
AreFrontOf (b ∷ front) all = (rest : List BatchRow) × (all ≡ b ∷ front ++ rest)

-- these are batches from this id on, none of which is passed over, where the table has batches by ascending first; where there is one, it is
-- among them
abbrev pub AreBatchesIn : ℤ → List Shown → List BatchRow → Type 0
AreBatchesIn id table found =
    (batches : List BatchRow) → AreByFirst batches → table ≡ map stored_batch batches → AreFrontOf found (batches_from id batches)

-- so it is of the table of batches
abbrev pub ShowsBatches : {S : Type 0} → Ghosts S → ℤ → Held S → Held S → List BatchRow → Type 0
ShowsBatches g id old new found =
    HasCleanDisk (state g new) → HasTables (state g old).now → AreBatchesIn id ((state g old).now.trees 2) found
