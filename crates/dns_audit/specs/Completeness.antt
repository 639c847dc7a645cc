-- What keeps the program from its work: nothing but a cause that is named above, and want of memory.
use Rattle.std.specs.Prelude.{◌≡◌, ◌≢◌, ◌<◌, ◌≤◌, ◌⊎◌, ℕ, ℤ, pos, List, [], true, false, length, take, Some, None, IsSome, Ok, Err}
use Rattle.dns_io.specs.Told.{Rose}
use Rattle.dns_name.specs.Name.{fold_of}
use Rattle.dns_wire.specs.declared.record.Record.{Record}
use Rattle.dns_keeper.specs.declared.row.Row.{Row}
use Rattle.dns_keeper.specs.declared.batch_row.BatchRow.{BatchRow}
use Rattle.dns_keeper.specs.Batches.{Covers, uncovered}
use Rattle.dns_update.specs.declared.replay_kind.ReplayKind.{ReplayKind}
use Rattle.dns_update.specs.declared.replay_kind.ReplayKind.TheVariants.{BatchOutOfPlace}
use Rattle.dns_update.specs.Replay.{Replays}
use Rattle.dns_store.specs.Covered.{StandOrNone}
use Rattle.dns_printed.specs.Lone.{has_alias_beside_other}
use Rattle.dns_audit.specs.declared.status.AuditStatus.{AuditStatus}
use Rattle.dns_audit.specs.declared.status.AuditStatus.TheVariants as status
use Rattle.dns_audit.specs.declared.commands.Command.TheVariants.{PrintZone, ListBatches, Compact}
use Rattle.dns_audit.specs.Commands.{command_of}
use Rattle.dns_audit.specs.World.{World}

-- the status that is due to the first rows, so many: there are fewer; they are no zone's; they are, and a name owns an alias and a record
-- of another type in it; or none does
pub data ZoneDue (origin : List (List ℕ)) (count : ℕ) (rows : List Row) : AuditStatus → Type 0 where
  short : length rows < count → ZoneDue origin count rows (status.Short (length rows))
  refused : (row : ℤ) (kind : ReplayKind) → count ≤ length rows
      → Replays (fold_of origin) (take count rows) (Err (record { row = row; kind = kind }))
      → ZoneDue origin count rows (status.Recovery row kind)
  alias : (records : List Record) → count ≤ length rows → Replays (fold_of origin) (take count rows) (Ok records)
      → has_alias_beside_other records ≡ true → ZoneDue origin count rows status.AliasBesideOther
  printed : (records : List Record) → count ≤ length rows → Replays (fold_of origin) (take count rows) (Ok records)
      → has_alias_beside_other records ≡ false → ZoneDue origin count rows status.Ok

-- that due to rows and batches: there are rows, and they are no zone's; they are, or there are none, and the batches cease at a place to
-- cover them; or they cover them
pub data ListDue (origin : List (List ℕ)) (rows : List Row) (batches : List BatchRow) : AuditStatus → Type 0 where
  refused : (row : ℤ) (kind : ReplayKind) → rows ≢ [] → Replays (fold_of origin) rows (Err (record { row = row; kind = kind }))
      → ListDue origin rows batches (status.Recovery row kind)
  uncovered_at : (place : ℤ) → StandOrNone origin rows → uncovered (pos 1) rows batches ≡ Some place
      → ListDue origin rows batches (status.Recovery place BatchOutOfPlace)
  listed : StandOrNone origin rows → Covers (pos 1) rows batches → ListDue origin rows batches status.Ok

-- that due to rows where another journal has these: it has some; it has none, and the rows are no zone's; or they are
pub data CompactDue (origin : List (List ℕ)) (rows others : List Row) : AuditStatus → Type 0 where
  full : others ≢ [] → CompactDue origin rows others status.NotEmpty
  refused : (row : ℤ) (kind : ReplayKind) → others ≡ [] → Replays (fold_of origin) rows (Err (record { row = row; kind = kind }))
      → CompactDue origin rows others (status.Recovery row kind)
  compacted : (records : List Record) → others ≡ [] → Replays (fold_of origin) rows (Ok records) → CompactDue origin rows others status.Ok

-- the status that is due, where no object fails and memory does not run out: by the words, and what the journals hold
pub data IsDue (w : World) : AuditStatus → Type 0 where
  by_words : command_of w.words ≡ None → IsDue w status.Usage
  by_zone : {s : AuditStatus} → (origin : List (List ℕ)) (count : ℕ) (rows : List Row) → command_of w.words ≡ Some (PrintZone origin count)
      → w.journal.before.rows ≡ Some rows → ZoneDue origin count rows s → IsDue w s
  by_list : {s : AuditStatus} → (origin : List (List ℕ)) (rows : List Row) → command_of w.words ≡ Some (ListBatches origin)
      → w.journal.before.rows ≡ Some rows → ListDue origin rows w.journal.before.batches s → IsDue w s
  by_compact : {s : AuditStatus} → (origin : List (List ℕ)) (rows others : List Row) → command_of w.words ≡ Some (Compact origin)
      → w.journal.before.rows ≡ Some rows → w.into.before.rows ≡ Some others → CompactDue origin rows others s → IsDue w s

-- no count of faults rose, nor stands at its last value
pub record IsFaultless (w : World) : Type 0 where
  pub journal : Rose w.journal.before.faults w.journal.after.faults → ⊥
  pub into : Rose w.into.before.faults w.into.after.faults → ⊥
  pub output : Rose w.output.before.faults w.output.after.faults → ⊥

-- what the journals hold is told at the end, too: of the other one, where it was to be written
pub record IsTold (w : World) : Type 0 where
  pub journal : IsSome w.journal.after.rows
  pub into : (origin : List (List ℕ)) → command_of w.words ≡ Some (Compact origin) → IsSome w.into.after.rows

-- then the status is the one that is due, or memory ran out
abbrev pub Completes : World → AuditStatus → Type 0
Completes w s = IsFaultless w → IsTold w → IsDue w s ⊎ (s ≡ status.OutOfMemory)
