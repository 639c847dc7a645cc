-- What opening a journal gives, and when it is refused.
use Rattle.std.specs.Prelude.{◌≡◌, ◌≢◌, ◌⊎◌, ◌≤◌, ℕ, ℤ, List, [], length, Option, Some, None, Err}
use Rattle.dns_name.specs.Name.{fold_of}
use Rattle.dns_keeper.specs.declared.row.Row.{Row}
use Rattle.dns_keeper.specs.Keeping.{KeeperTold, KeeperOf, GrowsByBatch, GrowsByRun, KeepsBatches}
use Rattle.dns_io.specs.Told.{Told, Keeps, Rose}
use Rattle.dns_zone_map.specs.Zone.{Contents, serial_of}
use Rattle.dns_update.specs.declared.replay_kind.ReplayKind.{ReplayKind}
use Rattle.dns_update.specs.Replay.{opening_of, Replays}
use Rattle.dns_store.specs.declared.opening.OpenKind.{OpenKind}
use Rattle.dns_store.specs.declared.opening.OpenKind.TheVariants.{Recovery, KeeperFault, NoZone, OutOfMemory}
use Rattle.dns_store.specs.Covered.{HadNothing, AreNone, Stand, StandOrNone, AreUncovered}
use Rattle.dns_store.specs.Store.{StoreOf, IsStored}

-- there was no row, where the rows are told afterwards
abbrev pub HadNoRow : Option (List Row) → Option (List Row) → Type 0
HadNoRow before after = Told (λ old new. old ≡ []) before after

-- there were rows, where they are told afterwards
abbrev pub HadRows : Option (List Row) → Option (List Row) → Type 0
HadRows before after = Told (λ old new. old ≢ []) before after

-- a journal without rows and batches was begun with this zone, whose keeper told this before: one append of its opening, with the SOA's
-- serial and client 0; its rows stand for the zone, and no fault was counted
pub record Begins {K : Type 0} (keeper : KeeperOf K) (before : KeeperTold) (zone : Contents) (moment : ℕ) (store : StoreOf K) : Type 0 where
  pub empty : HadNothing before (keeper.told store.keeper)
  pub grown : GrowsByBatch before.rows (keeper.told store.keeper).rows 0 (serial_of zone.records) moment (opening_of zone)
  pub run : GrowsByRun before (keeper.told store.keeper) (opening_of zone)
  pub uncounted : (keeper.told store.keeper).faults ≡ before.faults
  pub is : store.zone ≡ zone
  pub row_count : store.row_count ≡ length (opening_of zone)
  pub stands : IsStored keeper store

-- a journal was read back, whose keeper told this before: its zone, which has this origin, is what its rows stand for, and no fault was
-- counted
pub record Recovers {K : Type 0} (keeper : KeeperOf K) (before : KeeperTold) (origin : List (List ℕ)) (store : StoreOf K) : Type 0 where
  pub kept : Keeps before.rows (keeper.told store.keeper).rows
  pub batches : KeepsBatches before (keeper.told store.keeper)
  pub uncounted : (keeper.told store.keeper).faults ≡ before.faults
  pub named : store.zone.origin ≡ fold_of origin
  pub stands : IsStored keeper store

-- the rows are no zone's of this origin, where they are told: they end at this row, for this reason
abbrev pub AreRefused : Option (List Row) → Option (List Row) → List (List ℕ) → ℤ → ReplayKind → Type 0
AreRefused before after origin row kind = Told (λ old new. Replays (fold_of origin) old (Err (record {
  row = row;
  kind = kind;
}))) before after

-- what the count of faults of a keeper says of the cause for which its journal was not opened: it rose where the keeper failed, and
-- stood still where it did not
abbrev pub CountsByKind : ℕ → ℕ → OpenKind → Type 0
CountsByKind before now (Recovery row kind) = now ≡ before
CountsByKind before now KeeperFault = Rose before now
CountsByKind before now NoZone = now ≡ before
CountsByKind before now OutOfMemory = now ≡ before

-- the cause is a fault of the keeper, or want of memory
abbrev pub IsKeepers : OpenKind → Type 0
IsKeepers (Recovery row kind) = ⊥
IsKeepers KeeperFault = Unit {0}
IsKeepers NoZone = ⊥
IsKeepers OutOfMemory = Unit {0}

-- a journal was not opened for this cause, by what its keeper told before and after: no row and no batch changed, and the count of faults
-- never falls
pub record IsUnopened (before now : KeeperTold) (kind : OpenKind) : Type 0 where
  pub kept : Keeps before.rows now.rows
  pub batches : KeepsBatches before now
  pub later : before.faults ≤ now.faults
  pub counts : CountsByKind before.faults now.faults kind

-- why rows were not read back: they are no zone's, the keeper failed, or memory ran out
abbrev pub AreUnread : Option (List Row) → Option (List Row) → List (List ℕ) → OpenKind → Type 0
AreUnread before after origin (Recovery row kind) = AreRefused before after origin row kind
AreUnread before after origin KeeperFault = Unit {0}
AreUnread before after origin NoZone = ⊥
AreUnread before after origin OutOfMemory = Unit {0}

-- why a journal was not read back: its rows are no zone's; they are, but its batches do not cover them; the keeper failed; or memory ran
-- out
abbrev pub IsUnread : KeeperTold → KeeperTold → List (List ℕ) → OpenKind → Type 0
IsUnread before after origin (Recovery row kind) =
    AreRefused before.rows after.rows origin row kind ⊎ AreUncovered (Stand origin) before after row kind
IsUnread before after origin KeeperFault = Unit {0}
IsUnread before after origin NoZone = ⊥
IsUnread before after origin OutOfMemory = Unit {0}

-- a journal was not read back
pub record RecoversNot (before now : KeeperTold) (origin : List (List ℕ)) (kind : OpenKind) : Type 0 where
  pub unread : IsUnread before now origin kind
  pub unopened : IsUnopened before now kind

-- a journal was opened: one without rows and batches was begun with the given zone, which has this origin, and one with rows was read back
pub data Opens {K : Type 0} (keeper : KeeperOf K) (before : KeeperTold) (origin : List (List ℕ)) (given : Option Contents)
    (moment : ℕ) (store : StoreOf K)
    : Type 0 where
  begun : (zone : Contents) → given ≡ Some zone → zone.origin ≡ fold_of origin → Begins keeper before zone moment store
      → Opens keeper before origin given moment store
  recovered : HadRows before.rows (keeper.told store.keeper).rows
      → Recovers keeper before origin store → Opens keeper before origin given moment store

-- why a journal was not opened: its rows are no zone's; they are, or there are none, but its batches do not cover them; the keeper failed;
-- it has neither rows nor batches, and no zone was given; or memory ran out
abbrev pub IsUnfound : KeeperTold → KeeperTold → List (List ℕ) → Option Contents → OpenKind → Type 0
IsUnfound before after origin given (Recovery row kind) =
    (HadRows before.rows after.rows × AreRefused before.rows after.rows origin row kind)
    ⊎ AreUncovered (StandOrNone origin) before after row kind
IsUnfound before after origin given KeeperFault = Unit {0}
IsUnfound before after origin given NoZone = HadNothing before after × (given ≡ None)
IsUnfound before after origin given OutOfMemory = Unit {0}

-- a journal was not opened
pub record OpensNot (before now : KeeperTold) (origin : List (List ℕ)) (given : Option Contents) (kind : OpenKind) : Type 0 where
  pub unfound : IsUnfound before now origin given kind
  pub unopened : IsUnopened before now kind

-- the opening of a journal was not appended: the keeper failed, or memory ran out
pub record AppendsNot (before now : KeeperTold) (kind : OpenKind) : Type 0 where
  pub keepers : IsKeepers kind
  pub unopened : IsUnopened before now kind

-- why a journal without rows was not begun, with the zone that was given, if one was: it has batches; the keeper failed; no zone was given;
-- or memory ran out
abbrev pub IsUnbegun : KeeperTold → KeeperTold → Option Contents → OpenKind → Type 0
IsUnbegun before after given (Recovery row kind) = AreUncovered AreNone before after row kind
IsUnbegun before after given KeeperFault = Unit {0}
IsUnbegun before after given NoZone = HadNothing before after × (given ≡ None)
IsUnbegun before after given OutOfMemory = Unit {0}

-- a journal without rows was not begun
pub record BeginsNot (before now : KeeperTold) (given : Option Contents) (kind : OpenKind) : Type 0 where
  pub unbegun : IsUnbegun before now given kind
  pub unopened : IsUnopened before now kind
