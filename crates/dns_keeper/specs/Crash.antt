-- What a crash may leave of a keeper: rows with batches, each pair of which may be what is read back afterwards. A keeper that does
-- not tell it lets none be left, and then nothing is said of them.
use Rattle.std.specs.Prelude.{◌≡◌, ◌⊎◌, ◌<◌, ◌+ℤ◌, ℕ, pos, List, length, Some, IsSomeAnd}
use Rattle.dns_wire.specs.declared.record.Record.{Record}
use Rattle.dns_keeper.specs.declared.row.Row.{Row}
use Rattle.dns_keeper.specs.declared.batch_row.BatchRow.{BatchRow}
use Rattle.dns_keeper.specs.Rows.{last_id}
use Rattle.dns_keeper.specs.Batches.{batches_with}
use Rattle.dns_keeper.specs.Keeping.{KeeperTold, Kept, HasBatch}

-- these are the rows and the batches that are told
pub record AreTold (told : KeeperTold) (kept : Kept) : Type 0 where
  pub rows : told.rows ≡ Some kept.rows
  pub batches : told.batches ≡ kept.batches

-- rows and batches are those of before and, where there are records, a whole batch
pub record HasWhole (old : List Row) (before : List BatchRow) (client serial moment : ℕ) (records : List Record) (kept : Kept) : Type 0 where
  pub rows : HasBatch old client serial moment records kept.rows
  pub batches : kept.batches ≡ batches_with (last_id old +ℤ pos 1) records before

-- they are those that are told, and a whole batch
abbrev pub IsGrownFrom : KeeperTold → ℕ → ℕ → ℕ → List Record → Kept → Type 0
IsGrownFrom told client serial moment records kept = IsSomeAnd told.rows (λ old. HasWhole old told.batches client serial moment records kept)

-- nothing may be left but the rows and the batches that are told
abbrev pub LeavesTold : KeeperTold → (Kept → Type 0) → Type 0
LeavesTold told left = (kept : Kept) → left kept → AreTold told kept

-- nothing may be left but what might be left before
abbrev pub LeavesNoOther : (Kept → Type 0) → (Kept → Type 0) → Type 0
LeavesNoOther before now = (kept : Kept) → now kept → before kept

-- nothing may be left but what might be left before or, where there are records, what was told before with the whole batch
abbrev pub LeavesWhole : KeeperTold → ℕ → ℕ → ℕ → List Record → (Kept → Type 0) → (Kept → Type 0) → Type 0
LeavesWhole told client serial moment records before now =
    (kept : Kept) → now kept → before kept ⊎ ((0 < length records) × IsGrownFrom told client serial moment records kept)
