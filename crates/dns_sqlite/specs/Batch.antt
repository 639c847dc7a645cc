-- What a batch of records adds to the tables of rows and of batches.
use Rattle.std.specs.Prelude.{◌≡◌, ◌≢◌, ◌+ℤ◌, ℕ, ℤ, pos, true, false, List, [], ◌∷◌, length, IsTrue, IfOk, Result}
use Rattle.sqlite.specs.Order.{Row}
use Rattle.sqlite.specs.Tree.{Trees, put_row}
use Rattle.sqlite.specs.Edit.{next_rowid, is_taken}
use Rattle.sqlite.specs.Effect.{Database, IsDatabase}
use Rattle.sqlite.specs.State.{State, HasCleanDisk, KeepsCommit}
use Rattle.sqlite.specs.declared.error.Error.{Error}
use Rattle.sqlite.specs.Store.{Ghosts}
use Rattle.sqlite.specs.Held.{Held, state}
use Rattle.dns_keeper.specs.declared.batch_row.BatchRow.{BatchRow}
use Rattle.dns_sqlite.specs.Tables.{batch_schema, stored}
use Rattle.dns_sqlite.specs.Statements.{HasTables, Transacts}
use Rattle.dns_sqlite.specs.Migration.{AreBatchesPut}

-- the batch of so many rows that come next: it begins with the id after that of the last row, 1 where there is none
abbrev pub next_batch : List Row → List (List ℕ) → BatchRow
next_batch rows records = record { first = next_rowid rows; count = pos (length records) }

module _ (client serial : ℕ) (stamp : List ℕ) where
  -- the row that comes next, with the id after that of the last row, 1 where there is none
  abbrev pub next_row : List Row → List ℕ → Row
  next_row rows bytes = stored (next_rowid rows) (pos client) (pos serial) stamp bytes

  -- each record is put under an id that was free
  abbrev pub ArePut : List (List ℕ) → List Row → List Row → Type 0
  ArePut [] was is = is ≡ was
  ArePut (b ∷ bs) was is = (is_taken was (next_row was b) ≡ false) × ArePut bs (put_row (next_row was b) was) is

  -- the rows of a batch, from an id on
  abbrev pub batch : ℤ → List (List ℕ) → List Row
  batch id [] = []
  batch id (b ∷ bs) = stored id (pos client) (pos serial) stamp b ∷ batch (id +ℤ pos 1) bs

  -- the table of rows alone has changed, by the rows of a batch
  pub record HasMoreRows (records : List (List ℕ)) (was is : Database) : Type 0 where
    pub schema : is.schema ≡ batch_schema
    pub rows : ArePut records (was.trees 1) (is.trees 1)
    pub others : (t : ℕ) → t ≢ 1 → is.trees t ≡ was.trees t
    pub sound : IsDatabase was → IsDatabase is

  -- the rows of a batch have come, and the batch itself, under a first id that was free; the version has not changed
  pub record IsGrown (records : List (List ℕ)) (was is : Database) : Type 0 where
    pub schema : is.schema ≡ batch_schema
    pub rows : ArePut records (was.trees 1) (is.trees 1)
    pub batch : AreBatchesPut (next_batch (was.trees 1) records ∷ []) (was.trees 2) (is.trees 2)
    pub others : (t : ℕ) → t ≢ 1 → t ≢ 2 → is.trees t ≡ was.trees t
    pub sound : IsDatabase is

  -- what a crash may leave of it, where the connection was open
  abbrev pub MayGrow : List (List ℕ) → State → Trees → Type 0
  MayGrow records old db = IsTrue old.is_open × (HasTables old.now → (is : Database) × IsGrown records old.now is × (db ≡ is.trees))

  -- one row was put, inside a transaction, and the connection has its id
  pub record PutsOne (bytes : List ℕ) (old new : State) : Type 0 where
    pub schema : new.now.schema ≡ batch_schema
    pub rows : new.now.trees 1 ≡ put_row (next_row (old.now.trees 1) bytes) (old.now.trees 1)
    pub free : is_taken (old.now.trees 1) (next_row (old.now.trees 1) bytes) ≡ false
    pub others : (t : ℕ) → t ≢ 1 → new.now.trees t ≡ old.now.trees t
    pub sound : IsDatabase new.now
    pub mode : new.in_transaction ≡ true
    pub last : new.last_rowid ≡ next_rowid (old.now.trees 1)

  -- the rows of a batch were put, inside a transaction
  pub record PutsAll (records : List (List ℕ)) (old new : State) : Type 0 where
    pub grown : HasMoreRows records old.now new.now
    pub commit : KeepsCommit old new
    pub mode : new.in_transaction ≡ true

  -- and the batch too
  pub record PutsWhole (records : List (List ℕ)) (old new : State) : Type 0 where
    pub grown : IsGrown records old.now new.now
    pub mode : new.in_transaction ≡ true

  -- the batch is there, and it is committed
  pub record Grows (records : List (List ℕ)) (old new : State) : Type 0 where
    pub grown : IsGrown records old.now new.now
    pub was_open : IsTrue old.is_open
    pub is_open : IsTrue new.is_open
    pub committed : new.committed ≡ new.now

-- inside a transaction, on a clean disk: the id is that of the first row that was put
abbrev pub NamesFirst : {S : Type 0} → Ghosts S → Held S → Held S → Result ℤ Error → Type 0
NamesFirst g old new result =
    HasCleanDisk (state g new) → IsTrue (state g old).in_transaction → HasTables (state g old).now
    → IfOk result (λ id. id ≡ next_rowid ((state g old).now.trees 1))

-- a batch of records is added in a transaction, whole or not at all
abbrev pub AddsBatch : {S T : Type 0} → Ghosts S → ℕ → ℕ → List ℕ → List (List ℕ) → Held S → Held S → Result T Error → Type 0
AddsBatch g client serial stamp records = Transacts g HasTables (Grows client serial stamp records) (MayGrow client serial stamp records)
