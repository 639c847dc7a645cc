-- What becomes of a journal's database, and what is read of it, whether or not each of its rows reads.
use Rattle.std.specs.Prelude.{◌≡◌, ◌-◌, ◌+ℤ◌, ◌^◌, ◌⊎◌, ℕ, ℤ, pos, neg_ℤ, List, [], ◌∷◌, map, Option, Some, None}
use Rattle.sqlite.specs.Order.{Row as Shown}
use Rattle.sqlite.specs.State.{State, HasCleanDisk}
use Rattle.dns_wire.specs.declared.record.Record.{Record}
use Rattle.dns_wire.specs.WireFormat.{record_bytes}
use Rattle.dns_sqlite.specs.Tables.{HasRow}
use Rattle.dns_sqlite.specs.Batch.{Grows, MayGrow}
pub use Rattle.dns_sqlite.specs.Versions.{KeepsDatabase}
use Rattle.dns_keeper.specs.declared.row.Row.{Row}
use Rattle.dns_keeper.specs.Keeping.{IsStampFor}
use Rattle.dns_journal.specs.Reads.{FirstReadsAs}
use Rattle.dns_journal.specs.Crash.{LeavesTrees}
use Rattle.dns_journal.specs.Records.{IsOneRecord, IsRecordOf, IsNoRecord}

-- this holds with the stamp of a batch
abbrev pub HasStamp : ℕ → List Record → (List ℕ → Type 0) → Type 0
HasStamp moment records P = (stamp : List ℕ) × IsStampFor moment records stamp × P stamp

-- where the disk is clean, a row for each record came to the table of rows, and their batch to that of batches, and they are committed
abbrev pub PutsBatch : ℕ → ℕ → ℕ → List Record → State → State → Type 0
PutsBatch client serial moment records old new =
    HasCleanDisk new → HasStamp moment records (λ stamp. Grows client serial stamp (map record_bytes records) old new)

-- a crash may leave what it might leave before, or a row for each record beside the rows that there were, and their batch
abbrev pub LeavesBatch : ℕ → ℕ → ℕ → List Record → State → State → Type 0
LeavesBatch client serial moment records old new =
    LeavesTrees new (λ db. old.may_leave db ⊎ HasStamp moment records
    (λ stamp. MayGrow client serial stamp (map record_bytes records) old db))

-- a crash leaves the database that the connection shows, and no other
abbrev pub LeavesShown : State → Type 0
LeavesShown s = LeavesTrees s (λ db. db ≡ s.now.trees)

-- the row of a table with the least id from this one on reads as this row; or there is none
abbrev pub IsStoredFrom : ℤ → List Shown → Option Row → Type 0
IsStoredFrom id table found = (shown : List Shown) × HasRow id table shown × FirstReadsAs shown found

-- the rows of a table from an id on, each with the least id that follows: these are their records
abbrev pub AreStored : ℤ → List Shown → List Record → Type 0
AreStored id table [] = (id ≡ pos (2 ^ 63 - 1) +ℤ pos 1) ⊎ IsStoredFrom id table None
AreStored id table (r ∷ records) =
    (row : Row) × IsStoredFrom id table (Some row) × IsOneRecord row.bytes r × AreStored (row.id +ℤ pos 1) table records

-- ---- what is read, where the disk is clean; the database stays as it was

abbrev pub ShowsRow : ℤ → State → State → Option Row → Type 0
ShowsRow id old new found = HasCleanDisk new → (new.now ≡ old.now) × IsStoredFrom id (old.now.trees 1) found

abbrev pub ShowsRecord : ℤ → State → State → Option (ℤ × Record) → Type 0
ShowsRecord id old new found =
    HasCleanDisk new → (new.now ≡ old.now) × (row : Option Row) × IsStoredFrom id (old.now.trees 1) row × IsRecordOf row found

-- the row reads, but its bytes are no record
abbrev pub ShowsNoRecord : ℤ → State → State → Type 0
ShowsNoRecord id old new =
    HasCleanDisk new → (new.now ≡ old.now) × (row : Row) × IsStoredFrom id (old.now.trees 1) (Some row) × IsNoRecord row

-- the records of all rows, from the least id on
abbrev pub ShowsRecords : State → State → List Record → Type 0
ShowsRecords old new records = HasCleanDisk new → (new.now ≡ old.now) × AreStored (neg_ℤ (pos (2 ^ 63))) (old.now.trees 1) records

-- a row reads, but its bytes are no record
abbrev pub HasStoredNoRecord : State → State → Type 0
HasStoredNoRecord old new =
    HasCleanDisk new → (id : ℤ) × (new.now ≡ old.now) × (row : Row) × IsStoredFrom id (old.now.trees 1) (Some row) × IsNoRecord row
