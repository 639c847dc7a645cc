-- What comes of asking a connection for the version of a journal.
use Rattle.std.specs.Prelude.{◌≢◌, Bool, true, false, if◌then◌else◌}
use Rattle.sqlite.specs.declared.error.Error.{Error}
use Rattle.sqlite.specs.declared.error.Error.TheVariants.{SqliteFailure}
use Rattle.sqlite.specs.declared.error.ErrorCode.TheVariants as code
use Rattle.dns_sqlite.specs.declared.version.VersionFault.{VersionFault}
use Rattle.dns_sqlite.specs.declared.version.VersionFault.TheVariants.{NoVersion, Refused}
use Rattle.sqlite.specs.State.{State, HasCleanDisk}
use Rattle.sqlite.specs.Store.{Ghosts}
use Rattle.sqlite.specs.Held.{Held, state}
use Rattle.dns_sqlite.specs.Reads.{WasAsked}
use Rattle.dns_sqlite.specs.Versions.{LacksVersion, RefusesVersions, no_memory}
use Rattle.dns_journal.specs.declared.error.PersistenceError.{PersistenceError}
use Rattle.dns_journal.specs.declared.error.PersistenceError.TheVariants.{Recovery, Sqlite, OutOfMemory}
use Rattle.dns_journal.specs.declared.error.RecoveryKind.TheVariants.{SchemaVersion}

-- why no version was told: the connection has none, or it refused the query
abbrev pub HasNoVersion : State → State → PersistenceError → Type 0
HasNoVersion old new (Recovery SchemaVersion) = HasCleanDisk new → LacksVersion old.now
HasNoVersion old new Sqlite = HasCleanDisk new → (e : Error) × (e ≢ no_memory) × RefusesVersions old new e
HasNoVersion old new OutOfMemory = Unit {0}
HasNoVersion old new _ = ⊥

-- why no journal was made of a connection, which is dropped as it was after it was asked
abbrev pub HasNoVersionOf : {S : Type 0} → Ghosts S → Held S → PersistenceError → Type 0
HasNoVersionOf {S} g conn e = (after : Held S) × WasAsked g conn after × HasNoVersion (state g conn) (state g after) e

-- want of memory
abbrev pub is_memory : Error → Bool
is_memory (SqliteFailure code.OutOfMemory) = true
is_memory _ = false

-- how an error of the connection is answered
abbrev pub refusal_of : Error → PersistenceError
refusal_of e = if is_memory e then OutOfMemory else Sqlite

-- how a version that is not told is answered
abbrev pub version_refusal : VersionFault → PersistenceError
version_refusal NoVersion = Recovery SchemaVersion
version_refusal (Refused e) = refusal_of e

-- why a file is not opened: it holds no journal, SQLite refused, or memory was wanting
abbrev pub IsOpenFault : PersistenceError → Type 0
IsOpenFault (Recovery SchemaVersion) = Unit {0}
IsOpenFault Sqlite = Unit {0}
IsOpenFault OutOfMemory = Unit {0}
IsOpenFault _ = ⊥
