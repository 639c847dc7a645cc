-- What a crash may leave of the rows and batches of a store, where its keeper tells it.
use Rattle.std.specs.Prelude.{◌≡◌, ◌⊎◌, ◌++◌, ℕ, ℤ, pos, List, Option, Some, None, Ok}
use Rattle.std.specs.List.{AllByRecursion}
use Rattle.dns_wire.specs.declared.record.Record.{Record}
use Rattle.dns_keeper.specs.declared.row.Row.{Row}
use Rattle.dns_keeper.specs.Batches.{Covers}
use Rattle.dns_keeper.specs.Keeping.{Kept, KeeperOf}
use Rattle.dns_keeper.specs.Crash.{LeavesTold, LeavesNoOther, LeavesWhole}
use Rattle.dns_zone_map.specs.Zone.{Contents, serial_of}
use Rattle.dns_update.specs.Change.{serial_after_batch}
use Rattle.dns_update.specs.Replay.{opening_of, Replays}
use Rattle.dns_store.specs.Store.{StoreOf}
use Rattle.dns_store.specs.Covered.{GoesOnByOne}

-- what might be left before or, where there are records, the rows and batches with them as a whole batch of this client and moment
abbrev pub LeavesStored : {K : Type 0} → KeeperOf K → StoreOf K → ℕ → ℕ → List Record → K → Type 0
LeavesStored keeper before client moment batch now =
    LeavesWhole (keeper.told before.keeper) client (serial_after_batch before.zone.origin before.zone.records batch) moment batch
    (keeper.may_leave before.keeper) (keeper.may_leave now)

-- just the rows and the batches
abbrev pub LeavesRows : {K : Type 0} → KeeperOf K → K → Type 0
LeavesRows keeper now = LeavesTold (keeper.told now) (keeper.may_leave now)

-- of a journal that was opened: just the rows and the batches, where it was begun; where it was read back, what might be left before
abbrev pub LeavesOpened : {K : Type 0} → KeeperOf K → K → K → Type 0
LeavesOpened keeper before now = LeavesRows keeper now ⊎ LeavesNoOther (keeper.may_leave before) (keeper.may_leave now)

-- of a journal that was not begun with this zone: what might be left before, or what was told with the whole opening
abbrev pub LeavesOpening : {K : Type 0} → KeeperOf K → Contents → ℕ → K → K → Type 0
LeavesOpening keeper zone moment before now =
    LeavesWhole (keeper.told before) 0 (serial_of zone.records) moment (opening_of zone) (keeper.may_leave before) (keeper.may_leave now)

-- of a journal that was not opened, with the zone that was given, if one was
abbrev pub LeavesUnopened : {K : Type 0} → KeeperOf K → Option Contents → ℕ → K → K → Type 0
LeavesUnopened keeper None moment before now = LeavesNoOther (keeper.may_leave before) (keeper.may_leave now)
LeavesUnopened keeper (Some zone) moment before now = LeavesOpening keeper zone moment before now

-- rows and batches that may be left begin with those of the journal and go on past them by nothing or by one batch, the rows of one client
-- and one serial; the rows stand for a zone of this origin, and the batches cover them
pub record GoesOn (origin : List (List ℕ)) (told some : Kept) : Type 0 where
  pub rest : List Row
  pub begins : some.rows ≡ told.rows ++ rest
  pub client : ℤ
  pub serial : ℤ
  pub one : AllByRecursion (λ row. (row.client ≡ client) × (row.serial ≡ serial)) rest
  pub batches : GoesOnByOne told.batches some.batches
  pub records : List Record
  pub replays : Replays origin some.rows (Ok records)
  pub covered : Covers (pos 1) some.rows some.batches

-- so do all that a crash may leave of a keeper whose rows stand for a zone of this origin, where it tells the rows that it has
abbrev pub GoesOnAll : {K : Type 0} → KeeperOf K → List (List ℕ) → K → Type 0
GoesOnAll keeper origin held =
    (told : List Row) (some : Kept) → (keeper.told held).rows ≡ Some told → keeper.may_leave held some
    → GoesOn origin (record { rows = told; batches = (keeper.told held).batches }) some

-- so do all that a crash may leave of a store
abbrev pub LeavesStoreOn : {K : Type 0} → KeeperOf K → StoreOf K → Type 0
LeavesStoreOn keeper store = GoesOnAll keeper store.zone.origin store.keeper
