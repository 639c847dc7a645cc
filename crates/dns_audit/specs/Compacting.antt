-- What compacting a journal does: another one, without rows, gets a snapshot and the records of the zone that its rows stand for.
use Rattle.std.specs.Prelude.{◌≡◌, ◌⊎◌, ℕ, ℤ, List, [], length, Option, Some, IfSome, Ok, Err}
use Rattle.dns_io.specs.Told.{Keeps, Rose}
use Rattle.dns_edges.specs.Edges.{Around}
use Rattle.dns_name.specs.Name.{fold_of}
use Rattle.dns_keeper.specs.declared.row.Row.{Row}
use Rattle.dns_keeper.specs.Keeping.{KeeperOf, KeeperTold, GrowsByBatch, GrowsByRun, KeepsBatches}
use Rattle.dns_keeper.specs.Crash.{LeavesNoOther, LeavesWhole}
use Rattle.dns_zone_map.specs.Zone.{Contents, serial_of}
use Rattle.dns_update.specs.declared.replay_kind.ReplayKind.{ReplayKind}
use Rattle.dns_update.specs.Replay.{Replays, opening_of}
use Rattle.dns_store.specs.Store.{HasRows, StandFor}
use Rattle.dns_store.specs.Covered.{IsCovered}
use Rattle.dns_store.specs.Opening.{HadRows, HadNoRow}
use Rattle.dns_audit.specs.declared.fault.AuditFault.{AuditFault}
use Rattle.dns_audit.specs.declared.fault.AuditFault.TheVariants as fault
use Rattle.dns_audit.specs.declared.commands.Command.TheVariants.{Compact}
use Rattle.dns_audit.specs.Commands.{command_of}
use Rattle.dns_audit.specs.Reading.{CountsByFault}

-- the zone of all rows of a journal, where they are told
pub record IsWholeZone (origin : List (List ℕ)) (rows : Option (List Row)) (zone : Contents) : Type 0 where
  pub named : zone.origin ≡ fold_of origin
  pub replays : IfSome rows (λ l. Replays (fold_of origin) l (Ok zone.records))

-- all rows of a journal are no zone's of this origin: they end at this one, for this reason
abbrev pub IsWholeRefused : List (List ℕ) → Option (List Row) → ℤ → ReplayKind → Type 0
IsWholeRefused origin rows row kind = IfSome rows (λ l. Replays (fold_of origin) l (Err (record { row = row; kind = kind })))

-- what a journal without rows gets of a zone: one append of its opening, with the zone's serial and client 0. Its rows then stand for the
-- zone, whose serial is theirs, and they are so many as were written; and where it had no batch, its batches cover them
pub record GetsZone (before after : KeeperTold) (zone : Contents) (moment written : ℕ) : Type 0 where
  pub empty : HadNoRow before.rows after.rows
  pub grown : GrowsByBatch before.rows after.rows 0 (serial_of zone.records) moment (opening_of zone)
  pub run : GrowsByRun before after (opening_of zone)
  pub stands : StandFor after.rows zone
  pub number : HasRows after.rows written
  pub count : written ≡ length (opening_of zone)
  pub covered : before.batches ≡ [] → IsCovered after
  pub uncounted : after.faults ≡ before.faults

-- a journal was compacted into another one: this got the zone that all rows of the first stand for
pub record Compacts (origin : List (List ℕ)) (moment : ℕ) (journal other : Around KeeperTold) (written : ℕ) : Type 0 where
  pub zone : Contents
  pub is : IsWholeZone origin journal.after.rows zone
  pub gets : GetsZone other.before other.after zone moment written
  pub uncounted : journal.after.faults ≡ journal.before.faults

-- why there is no such zone: the journal failed; all rows are no zone's; or memory ran out
abbrev pub HasNoWholeZone : List (List ℕ) → Option (List Row) → AuditFault → Type 0
HasNoWholeZone origin rows fault.KeeperFault = Unit {0}
HasNoWholeZone origin rows (fault.Short some) = ⊥
HasNoWholeZone origin rows (fault.Recovery row kind) = IsWholeRefused origin rows row kind
HasNoWholeZone origin rows fault.AliasBesideOther = ⊥
HasNoWholeZone origin rows fault.NotEmpty = ⊥
HasNoWholeZone origin rows fault.OutOfMemory = Unit {0}

-- why it was not seen that a journal has no row: it failed; it had one; or memory ran out
abbrev pub SeesRow : Option (List Row) → Option (List Row) → AuditFault → Type 0
SeesRow before after fault.KeeperFault = Unit {0}
SeesRow before after (fault.Short some) = ⊥
SeesRow before after (fault.Recovery row kind) = ⊥
SeesRow before after fault.AliasBesideOther = ⊥
SeesRow before after fault.NotEmpty = HadRows before after
SeesRow before after fault.OutOfMemory = Unit {0}

-- the cause is a fault of a keeper, or want of memory
abbrev pub IsOfKeeper : AuditFault → Type 0
IsOfKeeper fault.KeeperFault = Unit {0}
IsOfKeeper (fault.Short some) = ⊥
IsOfKeeper (fault.Recovery row kind) = ⊥
IsOfKeeper fault.AliasBesideOther = ⊥
IsOfKeeper fault.NotEmpty = ⊥
IsOfKeeper fault.OutOfMemory = Unit {0}

-- a journal without rows did not get a zone: it is as it was
pub record GetsNoZone (before after : KeeperTold) (f : AuditFault) : Type 0 where
  pub cause : IsOfKeeper f
  pub kept : Keeps before.rows after.rows
  pub batches : KeepsBatches before after
  pub counts : CountsByFault before.faults after.faults f

-- why a journal was not compacted, by what both tell: one of them failed; the other one had a row; it had none, and all rows of the first
-- are no zone's; or memory ran out
abbrev pub IsUncompacted : List (List ℕ) → Option (List Row) → Option (List Row) → Option (List Row) → AuditFault → Type 0
IsUncompacted origin rows other other_after fault.KeeperFault = Unit {0}
IsUncompacted origin rows other other_after (fault.Short some) = ⊥
IsUncompacted origin rows other other_after (fault.Recovery row kind) = HadNoRow other other_after × IsWholeRefused origin rows row kind
IsUncompacted origin rows other other_after fault.AliasBesideOther = ⊥
IsUncompacted origin rows other other_after fault.NotEmpty = HadRows other other_after
IsUncompacted origin rows other other_after fault.OutOfMemory = Unit {0}

-- what compacting did to the counts of faults of two journals, by the cause for which it ended: one of them rose where a keeper failed, and
-- none else
abbrev pub CountsBoth : ℕ → ℕ → ℕ → ℕ → AuditFault → Type 0
CountsBoth before now other other_now fault.KeeperFault =
    (Rose before now × (other_now ≡ other)) ⊎ ((now ≡ before) × Rose other other_now)
CountsBoth before now other other_now (fault.Short some) = (now ≡ before) × (other_now ≡ other)
CountsBoth before now other other_now (fault.Recovery row kind) = (now ≡ before) × (other_now ≡ other)
CountsBoth before now other other_now fault.AliasBesideOther = (now ≡ before) × (other_now ≡ other)
CountsBoth before now other other_now fault.NotEmpty = (now ≡ before) × (other_now ≡ other)
CountsBoth before now other other_now fault.OutOfMemory = (now ≡ before) × (other_now ≡ other)

-- a journal was not compacted: the other one is as it was
pub record CompactsNot (origin : List (List ℕ)) (journal other : Around KeeperTold) (f : AuditFault) : Type 0 where
  pub cause : IsUncompacted origin journal.after.rows other.before.rows other.after.rows f
  pub kept : Keeps other.before.rows other.after.rows
  pub batches : KeepsBatches other.before other.after
  pub counts : CountsBoth journal.before.faults journal.after.faults other.before.faults other.after.faults f

-- what a crash may leave of a journal that was to get the zone of all rows of another one: what it might leave before; or, once the append
-- began, that or the whole opening of this zone
pub data LeavesCompacted {L : Type 0} (into : KeeperOf L) (origin : List (List ℕ)) (moment : ℕ) (rows : Option (List Row))
    (before after : L) : Type 0 where
  unwritten : LeavesNoOther (into.may_leave before) (into.may_leave after) → LeavesCompacted into origin moment rows before after
  in_append : (zone : Contents) → IsWholeZone origin rows zone
      → LeavesWhole (into.told before) 0 (serial_of zone.records) moment (opening_of zone) (into.may_leave before) (into.may_leave after)
      → LeavesCompacted into origin moment rows before after

-- what a crash may leave of the other journal, by the words and the clock's last reading: what it might leave before; or, where the words
-- ask to compact, that or what compacting at this moment may leave
pub data LeavesInto {L : Type 0} (into : KeeperOf L) (words : List (List ℕ)) (moment : ℕ) (rows : Option (List Row))
    (before after : L) : Type 0 where
  unused : LeavesNoOther (into.may_leave before) (into.may_leave after) → LeavesInto into words moment rows before after
  by_compact : (origin : List (List ℕ)) → command_of words ≡ Some (Compact origin) → LeavesCompacted into origin moment rows before after
      → LeavesInto into words moment rows before after
