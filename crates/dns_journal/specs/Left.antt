-- A database that a crash may leave, by the rows and the batches that it has.
use Rattle.std.specs.Prelude.{◌≡◌, Some}
use Rattle.sqlite.specs.Tree.{Trees}
use Rattle.sqlite.specs.Effect.{Database, IsDatabase}
use Rattle.sqlite.specs.State.{State, HasCleanDisk}
use Rattle.dns_sqlite.specs.Statements.{HasTables}
use Rattle.dns_sqlite.specs.Versions.{current_version, IsVersion}
use Rattle.dns_keeper.specs.Keeping.{Kept}
use Rattle.dns_journal.specs.Told.{told, batches_told}

-- a database of the current version with exactly these rows and exactly these batches
pub record IsJournal (d : Database) (kept : Kept) : Type 0 where
  pub tables : HasTables d
  pub sound : IsDatabase d
  pub version : IsVersion current_version (d.trees 0)
  pub rows : told (d.trees 1) ≡ Some kept.rows
  pub batches : batches_told (d.trees 2) ≡ Some kept.batches

-- what was left opens as such a database
abbrev pub LeftAs : Kept → Trees → Type 0
LeftAs kept db = (d : Database) × IsJournal d kept × (db ≡ d.trees)

-- a crash now may leave these rows and these batches
pub record MayLeave (s : State) (kept : Kept) : Type 0 where
  pub db : Trees
  pub left : s.may_leave db
  pub opens : LeftAs kept db

-- the disk is clean, and a crash now may leave these
abbrev pub MayLeaveClean : State → Kept → Type 0
MayLeaveClean s kept = HasCleanDisk s × MayLeave s kept
