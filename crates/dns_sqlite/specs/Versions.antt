-- The versions of a journal's schema, what each has, and what a database shows of its own.
use Rattle.std.specs.Prelude.{◌≡◌, ◌≢◌, ◌⊎◌, map, ℕ, ℤ, pos, negsuc, Bool, true, false, List, [], ◌∷◌, IsTrue, Option, Some, None, Ok, is_some, if◌then◌else◌, codes}
use Rattle.std.specs.Int.Signed.{le_z}
use Rattle.sqlite.specs.declared.error.Error.{Error}
use Rattle.sqlite.specs.declared.error.Error.TheVariants.{SqliteFailure}
use Rattle.sqlite.specs.declared.error.ErrorCode.TheVariants.{OutOfMemory}
use Rattle.dns_sqlite.specs.declared.version.VersionFault.{VersionFault}
use Rattle.dns_sqlite.specs.declared.version.VersionFault.TheVariants.{NoVersion, Refused}
use Rattle.sqlite.specs.declared.types.Value.{Value}
use Rattle.sqlite.specs.declared.types.Value.TheVariants.{Int}
use Rattle.sqlite.specs.Order.{Row, column}
use Rattle.sqlite.specs.Schema.{Schema}
use Rattle.std.specs.List.Sorted.{IsPermutation}
use Rattle.sqlite.specs.Effect.{Database, IsDatabase, Reads}
use Rattle.sqlite.specs.Listing.{understood, reads_listing, IsSourceOf}
use Rattle.sqlite.specs.Clock.{timed}
use Rattle.sqlite_resolve.specs.declared.compiled.Compiled.{Compiled}
use Rattle.sqlite_schema.specs.Names.{table_named}
use Rattle.sqlite.specs.Store.{Ghosts}
use Rattle.sqlite.specs.Held.{Held, state}
use Rattle.sqlite.specs.State.{State, HasCleanDisk, FailsToQuery}
use Rattle.dns_sqlite.specs.Tables.{empty_schema, version_schema, row_schema, batch_schema}

-- ---- the versions, one after another, each with the tables that its step leaves

-- no table (`empty_schema`)
abbrev pub version_none : ℤ
version_none = negsuc 0

-- the table of the version alone (`version_schema`)
abbrev pub version_alone : ℤ
version_alone = pos 0

-- and that of the rows (`row_schema`)
abbrev pub version_rows : ℤ
version_rows = pos 1

-- and that of the batches (`batch_schema`)
abbrev pub version_batches : ℤ
version_batches = pos 2

-- the last of them
abbrev pub current_version : ℤ
current_version = version_batches

-- a number that the table of the version may hold
abbrev pub is_version : ℤ → Bool
is_version n = if le_z version_alone n then le_z n current_version else false

-- ---- what a version has

-- the one row of the table of the version
abbrev pub IsVersion : ℤ → List Row → Type 0
IsVersion n rows = (id : ℤ) × (r : Row) × (rows ≡ r ∷ []) × (column r 0 ≡ Int id) × (column r 1 ≡ Int n)

-- the table of the version with no row
abbrev pub IsVersionless : Database → Type 0
IsVersionless d = (d.schema ≡ version_schema) × (d.trees 0 ≡ [])

-- the table of the version alone, which says so
abbrev pub IsVersionAlone : Database → Type 0
IsVersionAlone d = (d.schema ≡ version_schema) × IsVersion version_alone (d.trees 0)

-- the table of the rows too, and the version not yet raised
abbrev pub HasRowTable : Database → Type 0
HasRowTable d = (d.schema ≡ row_schema) × IsVersion version_alone (d.trees 0) × (d.trees 1 ≡ [])

-- the version of a journal with rows and without batches, with no row
abbrev pub HasNoRows : Database → Type 0
HasNoRows d = (d.schema ≡ row_schema) × IsVersion version_rows (d.trees 0) × (d.trees 1 ≡ [])

-- and with any rows
abbrev pub IsVersionRows : Database → Type 0
IsVersionRows d = (d.schema ≡ row_schema) × IsVersion version_rows (d.trees 0)

-- what a step inside the transaction has made
pub record HasMade (IsMade : Database → Type 0) (new : State) : Type 0 where
  pub made : IsMade new.now
  pub sound : IsDatabase new.now
  pub mode : new.in_transaction ≡ true

-- ---- what a database shows of its version

-- the table of the version is there, and no other but those of a journal
abbrev pub HasVersions : Schema → Type 0
HasVersions schema = (schema ≡ version_schema) ⊎ ((schema ≡ row_schema) ⊎ (schema ≡ batch_schema))

-- a table of the version, of whatever columns
abbrev pub has_versions : Schema → Bool
has_versions schema = is_some (table_named schema (codes "tdns_schema"))

-- the query of the version
abbrev pub version_text : List ℕ
version_text = codes "SELECT rowid, version FROM tdns_schema"

-- the rows that this query shows of a database
abbrev pub ShowsVersions : Database → List Row → Type 0
ShowsVersions d rows =
    (c : Compiled) × (understood d.schema version_text ≡ Ok c) × (now : ℕ) × (db : Database)
    × IsSourceOf (reads_listing d.schema version_text) d db × Reads c.command db (timed [] c.formats now) rows

-- the rows of the table of the version, in some order
abbrev pub ShowsAll : List Row → List Row → Type 0
ShowsAll tree rows =
    (ordered : List (Row × Row)) × IsPermutation (map (λ (r : Row). ([], column r 0 ∷ column r 1 ∷ [])) tree) ordered
    × (rows ≡ map (λ (o : Row × Row). o.1) ordered)

-- the connection refused the query of the version with this error
abbrev pub RefusesVersions : State → State → Error → Type 0
RefusesVersions old new e = FailsToQuery version_text [] old new e

abbrev pub no_memory : Error
no_memory = SqliteFailure OutOfMemory

-- a refusal that is not want of memory came from the connection
abbrev pub IsRefusal : VersionFault → State → State → Type 0
IsRefusal NoVersion old new = Unit {0}
IsRefusal (Refused e) old new = e ≢ no_memory → RefusesVersions old new e

-- the connection was open, and the database is as it was
abbrev pub KeepsNow : State → State → Type 0
KeepsNow old new = IsTrue old.is_open × (new.now ≡ old.now)

-- where the disk is clean and the connection is open, it was open before, and the database is as it was
abbrev pub KeepsDatabase : State → State → Type 0
KeepsDatabase old new = HasCleanDisk new → IsTrue new.is_open → KeepsNow old new

-- the number in a column, where it has one
abbrev pub number_of : Value → Option ℤ
number_of (Int n) = Some n
number_of _ = None

-- a number that the table of the version may hold
abbrev pub known : Option ℤ → Option ℤ
known None = None
known (Some n) = if is_version n then Some n else None

-- the version in one row, which has a number for its rowid too
abbrev pub version_of : List Row → Option ℤ
version_of [] = None
version_of (r ∷ []) = if is_some (number_of (column r 0)) then known (number_of (column r 1)) else None
version_of (r ∷ s ∷ more) = None

-- the version of a database: that of no table where there is no table of the version, whatever else there is, and else that in its one row
abbrev pub IsAtVersion : ℤ → Database → Type 0
IsAtVersion n d =
    ((n ≡ version_none) × (has_versions d.schema ≡ false))
    ⊎ ((has_versions d.schema ≡ true) × (rows : List Row) × ShowsVersions d rows × (version_of rows ≡ Some n))

-- the table of the version is there, and has not one row, or its number is none of a journal
pub record LacksVersion (d : Database) : Type 0 where
  pub there : has_versions d.schema ≡ true
  pub shown : (rows : List Row) × ShowsVersions d rows × (version_of rows ≡ None)
  pub apart : HasVersions d.schema → (n : ℤ) → is_version n ≡ true → ¬ IsVersion n (d.trees 0)

-- where the tables are those of a journal, or some of them, it has this version
abbrev pub FitsTables : ℤ → Database → Type 0
FitsTables n d = HasVersions d.schema → IsVersion n (d.trees 0)

-- ---- of a connection, where its disk is clean

-- the query of the version shows these rows; where the tables are those of a journal, they are all that the table of the version has
abbrev pub TellsVersions : {S : Type 0} → Ghosts S → Held S → Held S → List Row → Type 0
TellsVersions g old new rows =
    HasCleanDisk (state g new) → ShowsVersions (state g old).now rows
    × (HasVersions (state g old).now.schema → ShowsAll ((state g old).now.trees 0) rows)

-- it refused the query of the version with this error
abbrev pub RefusedWith : {S : Type 0} → Ghosts S → Held S → Held S → Error → Type 0
RefusedWith g old new e = HasCleanDisk (state g new) → RefusesVersions (state g old) (state g new) e

-- why it told no version
abbrev pub IsRefusedFor : {S : Type 0} → Ghosts S → Held S → Held S → VersionFault → Type 0
IsRefusedFor g old new fault = HasCleanDisk (state g new) → IsRefusal fault (state g old) (state g new)
