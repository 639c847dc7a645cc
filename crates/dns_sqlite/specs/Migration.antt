-- The batches that are put into their table, and the steps to the current version from any that is before it.
use Rattle.std.specs.Prelude.{◌≡◌, ◌≢◌, ℕ, ℤ, true, false, List, [], ◌∷◌, IsTrue, Result}
use Rattle.sqlite.specs.Order.{Row}
use Rattle.sqlite.specs.Tree.{Trees, put_row}
use Rattle.sqlite.specs.Edit.{is_taken}
use Rattle.sqlite.specs.Effect.{Database, IsDatabase}
use Rattle.sqlite.specs.State.{State}
use Rattle.sqlite.specs.declared.error.Error.{Error}
use Rattle.sqlite.specs.Store.{Ghosts}
use Rattle.sqlite.specs.Held.{Held}
use Rattle.dns_keeper.specs.declared.batch_row.BatchRow.{BatchRow}
use Rattle.dns_sqlite.specs.declared.schema.Start.{Start}
use Rattle.dns_sqlite.specs.declared.schema.Start.TheVariants.{NoTable, VersionAlone, Rows}
use Rattle.dns_sqlite.specs.Tables.{empty_schema, batch_schema, stored_batch}
use Rattle.dns_sqlite.specs.Statements.{Transacts}
use Rattle.dns_sqlite.specs.Versions.{version_rows, current_version, IsVersion, IsVersionAlone, IsVersionRows}

-- ---- batches that are put

-- each batch is put under a first id that was free
abbrev pub AreBatchesPut : List BatchRow → List Row → List Row → Type 0
AreBatchesPut [] was is = is ≡ was
AreBatchesPut (b ∷ bs) was is = (is_taken was (stored_batch b) ≡ false) × AreBatchesPut bs (put_row (stored_batch b) was) is

-- the table of batches alone has changed, by one batch, inside a transaction
pub record PutsBatch (b : BatchRow) (old new : State) : Type 0 where
  pub schema : new.now.schema ≡ batch_schema
  pub put : new.now.trees 2 ≡ put_row (stored_batch b) (old.now.trees 2)
  pub free : is_taken (old.now.trees 2) (stored_batch b) ≡ false
  pub others : (t : ℕ) → t ≢ 2 → new.now.trees t ≡ old.now.trees t
  pub sound : IsDatabase new.now
  pub mode : new.in_transaction ≡ true

-- by these batches
pub record PutsBatches (batches : List BatchRow) (old new : State) : Type 0 where
  pub schema : new.now.schema ≡ batch_schema
  pub put : AreBatchesPut batches (old.now.trees 2) (new.now.trees 2)
  pub others : (t : ℕ) → t ≢ 2 → new.now.trees t ≡ old.now.trees t
  pub sound : IsDatabase old.now → IsDatabase new.now
  pub mode : new.in_transaction ≡ true

-- ---- the last step

-- the three tables with this version, these rows, and these batches put into the last
pub record HasBatches (n : ℤ) (stored : List Row) (batches : List BatchRow) (d : Database) : Type 0 where
  pub schema : d.schema ≡ batch_schema
  pub version : IsVersion n (d.trees 0)
  pub rows : d.trees 1 ≡ stored
  pub put : AreBatchesPut batches [] (d.trees 2)

-- the three tables, and the version not yet raised
abbrev pub IsUnraised : Database → Type 0
IsUnraised d = (d.schema ≡ batch_schema) × IsVersion version_rows (d.trees 0)

-- the version is raised, and nothing else has changed, inside a transaction
pub record RaisesVersionRow (old new : State) : Type 0 where
  pub schema : new.now.schema ≡ batch_schema
  pub version : IsVersion current_version (new.now.trees 0)
  pub others : (t : ℕ) → t ≢ 0 → new.now.trees t ≡ old.now.trees t
  pub sound : IsDatabase new.now
  pub mode : new.in_transaction ≡ true

-- the table of batches is there and empty, and the version not yet raised
abbrev pub HasBatchTable : Database → Type 0
HasBatchTable d = HasBatches version_rows (d.trees 1) [] d

-- ---- all steps

-- what the tables of the current version are made from
abbrev pub IsBefore : Start → Database → Type 0
IsBefore NoTable d = d.schema ≡ empty_schema
IsBefore VersionAlone d = IsVersionAlone d
IsBefore Rows d = IsVersionRows d

-- the rows that there were, as they are stored
abbrev pub rows_before : Start → Database → List Row
rows_before NoTable d = []
rows_before VersionAlone d = []
rows_before Rows d = d.trees 1

-- the current version, with the rows as they were and with these batches
abbrev pub IsRaised : Start → List BatchRow → Database → Database → Type 0
IsRaised start batches was is = HasBatches current_version (rows_before start was) batches is

-- it is there, and it is committed
pub record BecomesCurrent (start : Start) (batches : List BatchRow) (old new : State) : Type 0 where
  pub made : IsRaised start batches old.now new.now
  pub sound : IsDatabase new.now
  pub is_open : new.is_open ≡ true
  pub committed : new.committed ≡ new.now

-- what a crash may leave of it, where the connection was open
abbrev pub MayBecomeCurrent : Start → List BatchRow → State → Trees → Type 0
MayBecomeCurrent start batches old db =
    IsTrue old.is_open × (IsBefore start old.now → (d : Database) × IsRaised start batches old.now d × IsDatabase d × (db ≡ d.trees))

-- the current version is made in a transaction, whole or not at all
abbrev pub RaisesVersion : {S T : Type 0} → Ghosts S → Start → List BatchRow → Held S → Held S → Result T Error → Type 0
RaisesVersion g start batches = Transacts g (IsBefore start) (BecomesCurrent start batches) (MayBecomeCurrent start batches)
