-- How far the batches of a journal were read, and how far they cover its rows.
use Rattle.std.specs.Prelude.{◌≡◌, ◌++◌, ℤ, pos, List, Option, Some, IfSome}
use Rattle.dns_io.specs.Told.{Told}
use Rattle.dns_keeper.specs.declared.row.Row.{Row}
use Rattle.dns_keeper.specs.declared.batch_row.BatchRow.{BatchRow}
use Rattle.dns_keeper.specs.Batches.{first_batch, batch_from, uncovered, AreByFirst, AreNumbered}
use Rattle.dns_keeper.specs.Cutting.{Reached, Reaches}
use Rattle.dns_keeper.specs.RunsSoFar.{RunsSoFar, AreRunsOf}
use Rattle.dns_keeper.specs.Keeping.{KeeperTold}
use Rattle.dns_update.specs.declared.replay_kind.ReplayKind.TheVariants.{BatchOutOfPlace}
use Rattle.dns_store.specs.declared.opening.OpenKind.{OpenKind}
use Rattle.dns_store.specs.declared.opening.OpenKind.TheVariants.{Recovery, KeeperFault, NoZone, OutOfMemory}

-- so are the batches, where the rows are told
abbrev pub HasBatches : KeeperTold → (List BatchRow → Type 0) → Type 0
HasBatches told P = IfSome told.rows (λ rows. P told.batches)

-- the first of these batches, which come by ascending first, or none
pub record IsFirstOf (found : Option BatchRow) (batches : List BatchRow) : Type 0 where
  pub is : found ≡ first_batch batches
  pub by_first : AreByFirst batches

-- the first of them from an id on, or none
pub record IsFirstOn (id : ℤ) (found : Option BatchRow) (batches : List BatchRow) : Type 0 where
  pub is : found ≡ batch_from id batches
  pub by_first : AreByFirst batches

-- rows whose ids are 1 and those that follow have these runs
pub record HaveRuns (runs : RunsSoFar) (rows : List Row) : Type 0 where
  pub counted : AreRunsOf rows runs
  pub numbered : AreNumbered (pos 1) rows

-- of these batches so many cover the rows up to the place that is reached, from the first on, and the next one is this, or there is none
pub record IsCoveredUpTo (reached : Reached) (next : Option BatchRow) (batches : List BatchRow) (rows : List Row) : Type 0 where
  pub front : List BatchRow
  pub rest : List BatchRow
  pub parts : batches ≡ front ++ rest
  pub follows : next ≡ first_batch rest
  pub by_first : AreByFirst batches
  pub left : List Row
  pub reaches : Reaches left reached
  pub same : uncovered (pos 1) rows batches ≡ uncovered reached.place left rest

-- a place is told at which batches cease to cover rows; want of memory says nothing of them
abbrev pub TellsPlace : (ℤ → Type 0) → OpenKind → Type 0
TellsPlace Ends (Recovery place kind) = (kind ≡ BatchOutOfPlace) × Ends place
TellsPlace Ends KeeperFault = ⊥
TellsPlace Ends NoZone = ⊥
TellsPlace Ends OutOfMemory = Unit {0}

-- why it is not known that the batches cover the rows: they do not from a place on; the keeper failed; or memory ran out
abbrev pub IsUncovered : KeeperTold → KeeperTold → OpenKind → Type 0
IsUncovered before after (Recovery place kind) =
    Told (λ old new. (kind ≡ BatchOutOfPlace) × (uncovered (pos 1) old before.batches ≡ Some place)) before.rows after.rows
IsUncovered before after KeeperFault = Unit {0}
IsUncovered before after NoZone = ⊥
IsUncovered before after OutOfMemory = Unit {0}
