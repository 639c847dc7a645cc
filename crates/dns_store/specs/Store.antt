-- What contracts see of a store, and what journalling an update does to it.
use Rattle.std.specs.Prelude.{◌≡◌, ◌⊎◌, ℕ, ◌+◌, ◌<◌, ◌≤◌, List, length, Option, Some, None, Result, Ok, Err}
use Rattle.dns_io.specs.Told.{Keeps, Rose}
use Rattle.dns_wire.specs.declared.record.Record.{Record}
use Rattle.dns_keeper.specs.declared.row.Row.{Row}
use Rattle.dns_keeper.specs.declared.keeper.KeepFault.{KeepFault}
use Rattle.dns_keeper.specs.declared.keeper.KeepFault.TheVariants.{Failed, OutOfMemory}
use Rattle.dns_keeper.specs.Keeping.{KeeperOf, GrowsByBatch, GrowsByRun, KeepsBatches}
use Rattle.dns_zone_map.specs.Zone.{Contents}
use Rattle.dns_update.specs.declared.batch.Batch.{Batch}
use Rattle.dns_update.specs.Change.{serial_after_batch, applied}
use Rattle.dns_update.specs.Replay.{Replays}
use Rattle.dns_store.specs.Covered.{IsCovered}

-- the keeper of the rows, the zone that they stand for, and the number of rows
pub record StoreOf (K : Type 0) : Type 0 where
  pub keeper : K
  pub zone : Contents
  pub row_count : ℕ

-- n is the number of rows, where they are told
abbrev pub HasRows : Option (List Row) → ℕ → Type 0
HasRows None n = Unit {0}
HasRows (Some rows) n = length rows ≡ n

-- the rows stand for this zone, where they are told
abbrev pub StandFor : Option (List Row) → Contents → Type 0
StandFor None zone = Unit {0}
StandFor (Some rows) zone = Replays zone.origin rows (Ok zone.records)

-- what always holds of a store: its rows are so many as it says, its zone is what they stand for, and its batches cover them
pub record IsStored {K : Type 0} (keeper : KeeperOf K) (store : StoreOf K) : Type 0 where
  pub count : HasRows (keeper.told store.keeper).rows store.row_count
  pub zone : StandFor (keeper.told store.keeper).rows store.zone
  pub covered : IsCovered (keeper.told store.keeper)

-- the zone after a batch
abbrev pub zone_with : Contents → List Record → Contents
zone_with zone batch =
    record { origin = zone.origin; records = applied zone.origin zone.records batch (serial_after_batch zone.origin zone.records batch) }

-- a store after a batch, with its keeper
abbrev pub stored_with : {K : Type 0} → StoreOf K → K → List Record → StoreOf K
stored_with before held batch = record { keeper = held; zone = zone_with before.zone batch; row_count = before.row_count + length batch }

-- the batch of an update came into the journal, all with the serial that it leaves and as one of its batches, the zone is what it makes of
-- it, and no fault of the keeper was counted
pub record IsGrown {K : Type 0} (keeper : KeeperOf K) (before : StoreOf K) (client moment : ℕ) (batch : List Record)
    (after : StoreOf K) : Type 0 where
  pub some : 0 < length batch
  pub grown : GrowsByBatch (keeper.told before.keeper).rows (keeper.told after.keeper).rows client
      (serial_after_batch before.zone.origin before.zone.records batch) moment batch
  pub run : GrowsByRun (keeper.told before.keeper) (keeper.told after.keeper) batch
  pub uncounted : (keeper.told after.keeper).faults ≡ (keeper.told before.keeper).faults
  pub is : after ≡ stored_with before after.keeper batch

-- the keeper failed to take the batch of an update, and counted it: nothing else has changed
pub record HasFailed {K : Type 0} (keeper : KeeperOf K) (before : StoreOf K) (batch : List Record) (after : StoreOf K) : Type 0 where
  pub some : 0 < length batch
  pub same : after ≡ record before { keeper = after.keeper }
  pub kept : Keeps (keeper.told before.keeper).rows (keeper.told after.keeper).rows
  pub batches : KeepsBatches (keeper.told before.keeper) (keeper.told after.keeper)
  pub later : (keeper.told before.keeper).faults ≤ (keeper.told after.keeper).faults
  pub rose : Rose (keeper.told before.keeper).faults (keeper.told after.keeper).faults

-- a store that found no memory: nothing has changed but what its keeper does not tell, and no fault of the keeper was counted
pub record IsWithout {K : Type 0} (keeper : KeeperOf K) (before after : StoreOf K) : Type 0 where
  pub same : after ≡ record before { keeper = after.keeper }
  pub kept : Keeps (keeper.told before.keeper).rows (keeper.told after.keeper).rows
  pub batches : KeepsBatches (keeper.told before.keeper) (keeper.told after.keeper)
  pub uncounted : (keeper.told after.keeper).faults ≡ (keeper.told before.keeper).faults

-- what became of the batch of an update: it has no record, and nothing has changed; it came into the journal and the zone; the keeper
-- failed; or memory ran out
abbrev pub Stores : {K : Type 0} → KeeperOf K → StoreOf K → ℕ → ℕ → List Record → Result Batch KeepFault → StoreOf K → Type 0
Stores keeper before client moment batch (Ok done) after =
    ((length batch ≡ 0) × (after ≡ before)) ⊎ IsGrown keeper before client moment batch after
Stores keeper before client moment batch (Err Failed) after = HasFailed keeper before batch after
Stores keeper before client moment batch (Err OutOfMemory) after = IsWithout keeper before after
