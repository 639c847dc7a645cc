-- The batch of an update, and what it makes of the zone and of the rows of its journal (RFC 2136 3.4.2, 3.6).
use Rattle.std.specs.Prelude.{◌≡◌, ◌⊎◌, ℕ, ◌<◌, List, length}
use Rattle.dns_wire.specs.declared.record.Record.{Record}
use Rattle.dns_keeper.specs.Keeping.{KeeperOf, GrowsByBatch, GrowsByRun}
use Rattle.dns_keeper.specs.Crash.{LeavesTold, LeavesWhole}
use Rattle.dns_zone_map.specs.Zone.{Contents}
use Rattle.dns_update.specs.declared.batch.Batch.{Batch}
use Rattle.dns_update.specs.Change.{batch_of, serial_after, applied}
use Rattle.dns_update.specs.Modified.{modified_of}

-- the batch of these update records of a zone
pub record IsBatchOf (zone : Contents) (updates : List Record) (batch : Batch) : Type 0 where
  pub records : batch.records ≡ batch_of zone.origin zone.records updates
  pub serial : batch.serial ≡ serial_after zone.origin zone.records updates
  pub modified : batch.modified ≡ modified_of zone.origin zone.records batch.records

-- the zone after a batch
abbrev pub zone_after : Contents → Batch → Contents
zone_after zone batch = record { origin = zone.origin; records = applied zone.origin zone.records batch.records batch.serial }

-- the records of a batch came to the rows of a keeper
abbrev pub GrowsBy : {K : Type 0} → KeeperOf K → K → K → ℕ → ℕ → Batch → Type 0
GrowsBy keeper old new client moment batch =
    GrowsByBatch (keeper.told old).rows (keeper.told new).rows client batch.serial moment batch.records

-- and where there are any, the batch to its batches
abbrev pub GrowsRun : {K : Type 0} → KeeperOf K → K → K → Batch → Type 0
GrowsRun keeper old new batch = 0 < length batch.records → GrowsByRun (keeper.told old) (keeper.told new) batch.records

-- the records of a batch came into the rows and the zone; or there were none, and the zone is as it was
abbrev pub Journals : {K : Type 0} → KeeperOf K → K → K → ℕ → ℕ → Contents → Batch → Contents → Type 0
Journals keeper old new client moment zone batch now =
    ((length batch.records ≡ 0) × (now ≡ zone))
    ⊎ ((0 < length batch.records) × (now ≡ zone_after zone batch) × GrowsBy keeper old new client moment batch)

-- where a batch with records was journalled a crash leaves just the rows and the batches
abbrev pub LeavesJournalled : {K : Type 0} → KeeperOf K → K → Batch → Type 0
LeavesJournalled keeper new batch = 0 < length batch.records → LeavesTold (keeper.told new) (keeper.may_leave new)

-- a crash may leave what it might leave before or, where these update records have a batch, what was told with the whole batch
abbrev pub LeavesBatchOf : {K : Type 0} → KeeperOf K → K → K → ℕ → ℕ → Contents → List Record → Type 0
LeavesBatchOf keeper old new client moment zone updates =
    LeavesWhole (keeper.told old) client (serial_after zone.origin zone.records updates) moment (batch_of zone.origin zone.records updates)
    (keeper.may_leave old) (keeper.may_leave new)
