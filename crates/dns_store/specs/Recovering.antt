-- How far the rows of a journal were read back.
use Rattle.std.specs.Prelude.{◌≡◌, ◌≤◌, ℕ, ℤ, ◌++◌, List, length, Option, Result, Ok, Err}
use Rattle.dns_io.specs.Told.{Keeps}
use Rattle.dns_wire.specs.declared.record.Record.{Record}
use Rattle.dns_keeper.specs.declared.row.Row.{Row}
use Rattle.dns_keeper.specs.declared.keeper.KeepFault.{KeepFault}
use Rattle.dns_keeper.specs.declared.keeper.KeepFault.TheVariants as keep
use Rattle.dns_keeper.specs.Keeping.{KeeperOf, KeepsBatches}
use Rattle.dns_keeper.specs.Crash.{LeavesNoOther}
use Rattle.dns_keeper.specs.RunsSoFar.{RunsSoFar, AreRunsOf}
use Rattle.dns_keeper.specs.Rows.{first_of, first_from, AreAscending}
use Rattle.dns_update.specs.Replay.{Refusal}
use Rattle.dns_zone.specs.declared.replaying.ReplayFault.{ReplayFault}
use Rattle.dns_zone.specs.declared.replaying.ReplayFault.TheVariants as fault
use Rattle.dns_zone.specs.Replayed.{Replayed}
use Rattle.dns_zone.specs.Replaying.{HasTaken}
use Rattle.dns_store.specs.declared.opening.OpenKind.{OpenKind}
use Rattle.dns_store.specs.declared.opening.OpenKind.TheVariants.{Recovery, KeeperFault, NoZone, OutOfMemory}
use Rattle.dns_store.specs.Opening.{CountsByKind}

-- why a book is not opened, where rows are refused
abbrev pub kind_of : ReplayFault → OpenKind
kind_of (fault.Refused row kind) = Recovery row kind
kind_of fault.OutOfMemory = OutOfMemory

-- and where a call of the keeper is
abbrev pub keeper_kind : KeepFault → OpenKind
keeper_kind keep.Failed = KeeperFault
keeper_kind keep.OutOfMemory = OutOfMemory

-- a refusal of rows is how they end; want of memory says nothing of them
abbrev pub TellsRefusal : (Result (List Record) Refusal → Type 0) → OpenKind → Type 0
TellsRefusal Ends (Recovery row kind) = Ends (Err (record { row = row; kind = kind }))
TellsRefusal Ends KeeperFault = ⊥
TellsRefusal Ends NoZone = ⊥
TellsRefusal Ends OutOfMemory = Unit {0}

-- what reading rows did to a count of faults, by its answer
abbrev pub CountsReading : {T : Type 0} → ℕ → ℕ → Result T OpenKind → Type 0
CountsReading before now (Ok value) = now ≡ before
CountsReading before now (Err kind) = CountsByKind before now kind

-- rows or batches of a keeper were read: none of them changed, a crash leaves nothing else than before, and the count of faults rose
-- where the keeper failed, and only there
pub record ReadsRows {K T : Type 0} (keeper : KeeperOf K) (old new : K) (result : Result T OpenKind) : Type 0 where
  pub kept : Keeps (keeper.told old).rows (keeper.told new).rows
  pub batches : KeepsBatches (keeper.told old) (keeper.told new)
  pub left : LeavesNoOther (keeper.may_leave old) (keeper.may_leave new)
  pub later : (keeper.told old).faults ≤ (keeper.told new).faults
  pub counts : CountsReading (keeper.told old).faults (keeper.told new).faults result

-- the first of these ascending rows, or none
pub record IsFirst (found : Option Row) (rows : List Row) : Type 0 where
  pub is : found ≡ first_of rows
  pub ascending : AreAscending rows

-- the first of these ascending rows from an id on, or none
pub record IsFirstFrom (id : ℤ) (found : Option Row) (rows : List Row) : Type 0 where
  pub is : found ≡ first_from id rows
  pub ascending : AreAscending rows

-- of these ascending rows so many were taken and their runs counted, from the first on, and the next one is this, or there is none
pub record IsReadUpTo (state : Replayed) (runs : RunsSoFar) (count : ℕ) (next : Option Row) (rows : List Row) : Type 0 where
  pub front : List Row
  pub rest : List Row
  pub parts : rows ≡ front ++ rest
  pub taken : HasTaken state front
  pub counted : AreRunsOf front runs
  pub number : length front ≡ count
  pub follows : next ≡ first_of rest
  pub ascending : AreAscending rows

-- all these rows were taken and their runs counted, and they are so many
pub record AreTaken (state : Replayed) (runs : RunsSoFar) (count : ℕ) (rows : List Row) : Type 0 where
  pub taken : HasTaken state rows
  pub counted : AreRunsOf rows runs
  pub number : length rows ≡ count
