-- What contracts see of a keeper in memory, and when its calls fail.
use Rattle.std.specs.Prelude.{◌≡◌, ◌⊎◌, ◌<◌, ℕ, ℤ, pos, ◌+ℤ◌, ◌<ℤ◌, ◌+◌, ◌-◌, ◌^◌, ◌==◌, min, Bool, true, false, if◌then◌else◌, List, length, slice_get, Option, Some, None, Result, Ok, Err}
use Rattle.std.specs.Int.Signed.{le_z}
use Rattle.std.specs.List.{list_any}
use Rattle.dns_wire.specs.declared.record.Record.{Record}
use Rattle.dns_keeper.specs.declared.row.Row.{Row}
use Rattle.dns_keeper.specs.declared.batch_row.BatchRow.{BatchRow}
use Rattle.dns_keeper.specs.declared.keeper.KeepFault.{KeepFault}
use Rattle.dns_keeper.specs.declared.keeper.KeepFault.TheVariants.{Failed, OutOfMemory}
use Rattle.dns_keeper.specs.Keeping.{KeeperOf}
use Rattle.dns_keeper.specs.Rows.{last_id}
use Rattle.dns_keeper.specs.Batches.{begins_at}

-- the calls of one kind that were made, and the numbers of those that fail
pub record Schedule : Type 0 where
  pub made : ℕ
  pub failing : List ℕ

-- its rows, its batches, its count of faults, and its calls by kind
pub record Held : Type 0 where
  pub rows : List Row
  pub batches : List BatchRow
  pub faults : ℕ
  pub appends : Schedule
  pub reads : Schedule

-- what is known of it: it tells its rows and its batches always, and not what a crash may leave
abbrev pub memory_keeper : KeeperOf Held
memory_keeper = record { told = λ k. record { rows = Some k.rows; batches = k.batches; faults = k.faults }; may_leave = λ _ kept. ⊥ }

-- a number one higher, below 2^64
abbrev pub raised : ℕ → ℕ
raised n = min (n + 1) (2 ^ 64 - 1)

-- one more call was made
abbrev pub called : Schedule → Schedule
called s = record { made = raised s.made; failing = s.failing }

-- the next call is one of those that fail
abbrev pub is_next_failing : Schedule → Bool
is_next_failing s = list_any (λ n. n == raised s.made) s.failing

-- the count of faults after a call that answered so
abbrev pub faults_after : {T : Type 0} → Result T KeepFault → ℕ → ℕ
faults_after (Ok value) faults = faults
faults_after (Err Failed) faults = raised faults
faults_after (Err OutOfMemory) faults = faults

-- there are fewer ids above the last than the batch has records
abbrev pub LacksIds : List Row → List Record → Type 0
LacksIds rows records = pos (2 ^ 63 - 1) <ℤ (last_id rows +ℤ pos (length records))

-- there are records, and a batch begins at the id that the first of them would have
abbrev pub MeetsBatch : List Row → List BatchRow → List Record → Type 0
MeetsBatch rows batches records = (0 < length records) × (begins_at (last_id rows +ℤ pos 1) batches ≡ true)

-- records have no place behind rows and batches: ids are lacking, or their batch would begin where another does
abbrev pub HasNoPlace : List Row → List BatchRow → List Record → Type 0
HasNoPlace rows batches records = LacksIds rows records ⊎ MeetsBatch rows batches records

-- ---- one batch more

-- a batch begins below this id, if there is one
abbrev pub begins_below : ℤ → Option BatchRow → Bool
begins_below id None = true
begins_below id (Some b) = if le_z id b.first then false else true

-- the last of the batches does
abbrev pub ends_below : ℤ → List BatchRow → Bool
ends_below id batches = begins_below id (slice_get batches (length batches - 1))
