-- What is read of a journal, and why it is not.
use Rattle.std.specs.Prelude.{◌≡◌, ◌<◌, ◌≤◌, ℕ, ℤ, List, length, take, Option, IfSome, Result, Ok, Err}
use Rattle.dns_io.specs.Told.{Keeps, Rose}
use Rattle.dns_name.specs.Name.{fold_of}
use Rattle.dns_keeper.specs.declared.row.Row.{Row}
use Rattle.dns_keeper.specs.Keeping.{KeeperOf, KeepsBatches}
use Rattle.dns_keeper.specs.Crash.{LeavesNoOther}
use Rattle.dns_zone_map.specs.Zone.{Contents}
use Rattle.dns_update.specs.declared.replay_kind.ReplayKind.{ReplayKind}
use Rattle.dns_update.specs.Replay.{Replays}
use Rattle.dns_audit.specs.declared.fault.AuditFault.{AuditFault}
use Rattle.dns_audit.specs.declared.fault.AuditFault.TheVariants as fault

-- what reading a journal did to its count of faults, by the cause for which it ended: it rose where the keeper failed, and only there
abbrev pub CountsByFault : ℕ → ℕ → AuditFault → Type 0
CountsByFault before now fault.KeeperFault = Rose before now
CountsByFault before now (fault.Short rows) = now ≡ before
CountsByFault before now (fault.Recovery row kind) = now ≡ before
CountsByFault before now fault.AliasBesideOther = now ≡ before
CountsByFault before now fault.NotEmpty = now ≡ before
CountsByFault before now fault.OutOfMemory = now ≡ before

-- and by the answer
abbrev pub CountsAudit : {T : Type 0} → ℕ → ℕ → Result T AuditFault → Type 0
CountsAudit before now (Ok value) = now ≡ before
CountsAudit before now (Err f) = CountsByFault before now f

-- a journal was read: no row and no batch changed, a crash leaves nothing else than before, and the count of faults rose where the keeper
-- failed, and only there
pub record ReadsJournal {K T : Type 0} (keeper : KeeperOf K) (old new : K) (result : Result T AuditFault) : Type 0 where
  pub kept : Keeps (keeper.told old).rows (keeper.told new).rows
  pub batches : KeepsBatches (keeper.told old) (keeper.told new)
  pub left : LeavesNoOther (keeper.may_leave old) (keeper.may_leave new)
  pub later : (keeper.told old).faults ≤ (keeper.told new).faults
  pub counts : CountsAudit (keeper.told old).faults (keeper.told new).faults result

-- ---- the zone at a length

-- there are so many rows, and the first ones, so many, stand for this zone, which has this origin in whatever case
pub record IsZoneAt (origin : List (List ℕ)) (count : ℕ) (zone : Contents) (rows : List Row) : Type 0 where
  pub there : count ≤ length rows
  pub named : zone.origin ≡ fold_of origin
  pub replays : Replays (fold_of origin) (take count rows) (Ok zone.records)

-- there are fewer, so many
pub record IsShort (count some : ℕ) (rows : List Row) : Type 0 where
  pub all : some ≡ length rows
  pub fewer : length rows < count

-- there are so many rows, and the first ones, so many, are no zone's of this origin: they end at this one, for this reason
pub record IsRefusedAt (origin : List (List ℕ)) (count : ℕ) (row : ℤ) (kind : ReplayKind) (rows : List Row) : Type 0 where
  pub there : count ≤ length rows
  pub replays : Replays (fold_of origin) (take count rows) (Err (record { row = row; kind = kind }))

-- why there is no zone at a length, by the rows, where they are told: the keeper failed; there are fewer rows; the first ones, so many, are
-- no zone's; or memory ran out
abbrev pub HasNoZoneAt : List (List ℕ) → ℕ → Option (List Row) → AuditFault → Type 0
HasNoZoneAt origin count rows fault.KeeperFault = Unit {0}
HasNoZoneAt origin count rows (fault.Short some) = IfSome rows (IsShort count some)
HasNoZoneAt origin count rows (fault.Recovery row kind) = IfSome rows (IsRefusedAt origin count row kind)
HasNoZoneAt origin count rows fault.AliasBesideOther = ⊥
HasNoZoneAt origin count rows fault.NotEmpty = ⊥
HasNoZoneAt origin count rows fault.OutOfMemory = Unit {0}
