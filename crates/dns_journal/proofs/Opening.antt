-- Why no version was told, and what a journal tells whose version was raised.
use Rattle.std.proofs.Common.{◌≡◌, ◌≢◌, ℤ, Bool, true, false, if◌then◌else◌, List, [], Some, inl, inr, refl, sym, ap, subst, ◌∙◌, IsTrue, to_z, of_z, w64}
use Rattle.sqlite_trees.proofs.Doubt.{clean_of}
use Rattle.sqlite.specs.Schema.{Schema}
use Rattle.sqlite.specs.Effect.{Database, IsDatabase}
use Rattle.sqlite.specs.declared.error.Error.{Error}
use Rattle.sqlite.specs.State.{State, HasCleanDisk}
use Rattle.dns_sqlite.specs.declared.version.VersionFault.{VersionFault}
use Rattle.dns_sqlite.specs.declared.version.VersionFault.TheVariants.{NoVersion, Refused}
use Rattle.dns_sqlite.specs.declared.schema.Start.{Start}
use Rattle.dns_sqlite.specs.declared.schema.Start.TheVariants.{NoTable, VersionAlone, Rows}
use Rattle.dns_sqlite.specs.Statements.{HasTables}
use Rattle.dns_sqlite.specs.Tables.{empty_schema, version_schema, row_schema}
use Rattle.dns_sqlite.specs.Versions.{current_version, IsAtVersion, LacksVersion, FitsTables, KeepsDatabase, IsVersion, IsRefusal, no_memory}
use Rattle.dns_sqlite.specs.Migration.{AreBatchesPut, IsBefore, IsRaised, rows_before}
use Rattle.dns_sqlite.proofs.Versions.{in_bits, version_one}
use Rattle.dns_keeper.specs.declared.row.Row.{Row}
use Rattle.dns_keeper.specs.declared.batch_row.BatchRow.{BatchRow}
use Rattle.dns_keeper.specs.Batches.{runs_of}
use Rattle.dns_keeper.specs.Keeping.{Kept}
use Rattle.dns_sqlite.specs.Shapes.{IsStart}
use Rattle.dns_journal.specs.declared.error.PersistenceError.TheVariants.{Sqlite, OutOfMemory}
use Rattle.dns_journal.specs.Told.{told, batches_told, or_none, rows_in, AreRowsBelow, IsReady, FitsConnection, TakesCalls}
use Rattle.dns_journal.specs.Crash.{IsJournal, with_runs}
use Rattle.dns_journal.specs.Migrating.{AreBatchesFor, BecomesWith}
use Rattle.dns_journal.proofs.Order.{told_is}
use Rattle.dns_journal.proofs.BatchOrder.{runs_told}
use Rattle.dns_journal.proofs.Telling.{told_both}
use Rattle.dns_journal.specs.Opening.{HasNoVersion, is_memory, version_refusal}

not_memory : (e : Error) → is_memory e ≡ false → e ≢ no_memory
not_memory e p same = absurd (let it : is_memory e ≡ true = ap is_memory same in cc)

pub no_version : (old new : State) (fault : VersionFault) → (HasCleanDisk new → fault ≡ NoVersion → LacksVersion old.now) → (HasCleanDisk new → IsRefusal fault old new) → HasNoVersion old new (version_refusal fault)
no_version old new NoVersion none refused = λ clean. none clean refl
no_version old new (Refused e) none refused = go (is_memory e) refl
  where
    go : (b : Bool) → is_memory e ≡ b → HasNoVersion old new (if b then OutOfMemory else Sqlite)
    go true p = tt
    go false p = λ clean. (e, not_memory e p, refused clean (not_memory e p))

-- the database that the steps begin from
pub before : (version : ℤ) (d : Database) (start : Start) → IsStart start version d.schema → FitsTables version d → IsBefore start d
before version d NoTable start fits = start
before version d VersionAlone start fits = (start.0, subst (λ n. IsVersion n (d.trees 0)) start.1 (fits (inl start.0)))
before version d Rows start fits = (start.0, subst (λ n. IsVersion n (d.trees 0)) start.1 (fits (inr (inl start.0))))

-- ---- the rows that there are, and the runs of them

-- a schema with other tables is none with a table of rows
fewer : (schema : Schema) → schema ≡ row_schema → ¬ (schema.tables ≡ row_schema.tables) → ⊥
fewer schema same others = others (ap (λ (s : Schema). s.tables) same)

-- the rows that were stored read as the rows that there are
rows_read : (start : Start) (version : ℤ) (s : State) (rows : List Row) → IsStart start version s.now.schema → AreRowsBelow s rows → told (rows_before start s.now) ≡ Some rows
rows_read NoTable version s rows from below = rw (below.none (λ e. fewer empty_schema (sym from ∙ e) (λ same. absurd cc))) refl
rows_read VersionAlone version s rows from below = rw (below.none (λ e. fewer version_schema (sym from.0 ∙ e) (λ same. absurd cc))) refl
rows_read Rows version s rows from below = below.there from.0

none_of : (rows : List Row) → told [] ≡ Some rows → rows ≡ []
none_of rows e = cc

pub runs_for : (start : Start) (version : ℤ) (s : State) (batches : List BatchRow) (rows : List Row) → IsStart start version s.now.schema → AreBatchesFor start s.now batches → AreRowsBelow s rows → batches ≡ runs_of rows
runs_for NoTable version s batches rows from runs below = runs ∙ rw (none_of rows (rows_read NoTable version s rows from below)) refl
runs_for VersionAlone version s batches rows from runs below = runs ∙ rw (none_of rows (rows_read VersionAlone version s rows from below)) refl
runs_for Rows version s batches rows from runs below = runs rows (below.there from.0)

-- the current version, made with the runs of the rows, is a journal with both
pub raised_journal : (start : Start) (version : ℤ) (s : State) (batches : List BatchRow) (d : Database) (rows : List Row) → IsStart start version s.now.schema → AreBatchesFor start s.now batches → AreRowsBelow s rows
    → IsRaised start batches s.now d → IsDatabase d → IsJournal d (with_runs rows)
raised_journal start version s batches d rows from runs below made sound =
    let reads = rows_read start version s rows from below in
    let it = told_is (rows_before start s.now) rows reads in
    let same = runs_for start version s batches rows from runs below in
    record {
      tables = made.schema;
      sound = sound;
      version = made.version;
      rows = rw made.rows reads;
      batches = runs_told (rows_before start s.now) rows (d.trees 2) it.reads it.ascending (subst (λ bs. AreBatchesPut bs [] (d.trees 2)) same made.put);
    }

-- it is told, where the disk is clean and the connection is open
pub tells_journal : (s : State) (kept : Kept) → HasCleanDisk s → IsTrue s.is_open → IsJournal s.now kept → (rows_in s ≡ Some kept.rows) × (or_none (batches_told (s.now.trees 2)) ≡ kept.batches)
tells_journal s kept clean live is = (rw (clean_of s.is_clean clean, live) (told_both s.now kept.rows kept.batches is.rows is.batches), ap or_none is.batches)

-- ---- what a new journal keeps of its connection

pub ready_raised : (start : Start) (old s : State) → s.in_transaction ≡ false → (HasCleanDisk s → BecomesWith start old s) → IsReady true current_version s
ready_raised start old s alone made = (refl, alone, λ clean live. (made clean).becomes.made.schema)

pub fits_raised : (start : Start) (old s : State) → (HasCleanDisk s → BecomesWith start old s) → FitsConnection current_version s
fits_raised start old s made = λ clean live _. (made clean).becomes.made.version

-- ---- what a journal that was not raised keeps of it, where its database is as it was

pub ready_kept : (ready : Bool) (version : ℤ) (old s : State) → s.in_transaction ≡ false → (HasCleanDisk s → HasCleanDisk old) → KeepsDatabase old s → IsReady ready version old → IsReady ready version s
ready_kept false version old s alone early kept it = tt
ready_kept true version old s alone early kept it = (it.0, alone, λ clean live. let k = kept clean live in subst HasTables (sym k.1) (it.2 (early clean) k.0))

pub fits_kept : (version : ℤ) (old s : State) → (HasCleanDisk s → HasCleanDisk old) → KeepsDatabase old s → FitsConnection version old → FitsConnection version s
fits_kept version old s early kept it = λ clean live. let k = kept clean live in subst (FitsTables version) (sym k.1) (it (early clean) k.0)

-- it is ready where its connection takes calls
pub ready_if : (ready : Bool) (version : ℤ) (s : State) → (IsTrue ready → TakesCalls version s) → IsReady ready version s
ready_if false version s takes = tt
ready_if true version s takes = let it = takes refl in (it.current, it.alone, λ _ _. it.tables)

-- a version is the same number in 64 bits
pub version_bits : (n : ℤ) (d : Database) → IsAtVersion n d → to_z w64 (of_z w64 n) ≡ n
version_bits n d (inl it) = rw it.0 refl
version_bits n d (inr it) = in_bits n (version_one it.1 n it.3)
