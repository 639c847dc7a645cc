-- The rows of a journal that was begun, and how an opening goes on from the look at the first row.
use Rattle.std.proofs.Common.{◌≡◌, ◌≤◌, ℕ, suc, ℤ, pos, ◌+ℤ◌, List, [], ◌∷◌, length, Option, Some, None, inl, inr, refl, sym, ap, ◌∙◌, subst, arith}
use Rattle.std.specs.Prelude.{◌≢◌, Result, Ok, Err, IfOk, IfErr, IfSome, IsSomeAnd}
use Rattle.dns_io.proofs.ToldContents.{Keeps-same}
use Rattle.dns_io.specs.Told.{Keeps, Told}
use Rattle.dns_wire.specs.declared.record.Record.{Record}
use Rattle.dns_keeper.specs.declared.row.Row.{Row}
use Rattle.dns_keeper.specs.declared.keeper.KeepFault.{KeepFault}
use Rattle.dns_keeper.specs.declared.keeper.KeepFault.TheVariants as keep
use Rattle.dns_keeper.specs.declared.batch_row.BatchRow.{BatchRow}
use Rattle.dns_keeper.specs.Rows.{first_of, last_id, rows_of, appended}
use Rattle.dns_keeper.specs.Batches.{batches_with, uncovered}
use Rattle.dns_keeper.specs.Keeping.{KeeperTold, KeeperOf, HasBatch, GrowsByBatch, GrowsByRun, KeepsBatches, IsFirstRow, HasCause}
use Rattle.dns_keeper.specs.Crash.{LeavesNoOther}
use Rattle.dns_name.specs.Name.{fold_of}
use Rattle.dns_zone_map.specs.Zone.{Contents, serial_of}
use Rattle.dns_update.specs.Replay.{opening_of, Replays}
use Rattle.dns_store.specs.declared.opening.OpenKind.{OpenKind}
use Rattle.dns_store.specs.declared.opening.OpenKind.TheVariants.{Recovery, KeeperFault, NoZone, OutOfMemory}
use Rattle.dns_store.specs.Store.{StoreOf, HasRows, StandFor, IsStored}
use Rattle.dns_update.specs.declared.replay_kind.ReplayKind.{ReplayKind}
use Rattle.dns_update.specs.declared.replay_kind.ReplayKind.TheVariants.{BatchOutOfPlace}
use Rattle.dns_store.specs.Covered.{HadNothing, AreNone, Stand, StandOrNone, AreUncovered}
use Rattle.dns_store.specs.Covering.{IsUncovered}
use Rattle.dns_store.specs.Crash.{LeavesOpening, LeavesUnopened}
use Rattle.dns_store.specs.Opening.{HadNoRow, HadRows, Begins, Recovers, IsUnopened, AreUnread, IsUnread, RecoversNot, AppendsNot, BeginsNot, IsUnfound, Opens, OpensNot}
use Rattle.dns_store.specs.Recovering.{keeper_kind, ReadsRows}
use Rattle.dns_store.proofs.ReadRows.{kept_on, counts_since}
use Rattle.dns_store.proofs.ToldBatches.{since_both, batches_on, batches_same, covered_begun, whole_since}
use Rattle.dns_store.specs.Opening.Opens.{begun, recovered}

-- a row for each record
pub length-rows_of : (id : ℤ) (client serial : ℕ) (stamp : List ℕ) (records : List Record) → length (rows_of id client serial stamp records) ≡ length records
length-rows_of id client serial stamp [] = refl
length-rows_of id client serial stamp (r ∷ rs) = ap suc (length-rows_of (id +ℤ pos 1) client serial stamp rs)

-- the rows of a journal that was begun are its first batch
begun_as : (before after : List Row) (client serial : ℕ) (stamp : List ℕ) (records : List Record) → before ≡ [] → after ≡ appended before client serial stamp records → after ≡ appended [] client serial stamp records
begun_as before after client serial stamp records none is = is ∙ ap (λ (rows : List Row). appended rows client serial stamp records) none

pub HasRows-begun : (before after : Option (List Row)) (client serial moment : ℕ) (records : List Record) (n : ℕ) → HadNoRow before before → GrowsByBatch before after client serial moment records → n ≡ length records → HasRows after n
HasRows-begun before None client serial moment records n empty grown e = tt
HasRows-begun None (Some after) client serial moment records n empty grown e = absurd grown
HasRows-begun (Some before) (Some after) client serial moment records n empty grown e =
    ap length (begun_as before after client serial grown.stamp records empty grown.is) ∙ length-rows_of _ client serial grown.stamp records ∙ sym e

pub StandFor-begun : (before after : Option (List Row)) (client serial moment : ℕ) (zone : Contents) (records : List Record) → HadNoRow before before → GrowsByBatch before after client serial moment records
    → ((stamp : List ℕ) → Replays zone.origin (appended [] client serial stamp records) (Ok zone.records)) → StandFor after zone
StandFor-begun before None client serial moment zone records empty grown replay = tt
StandFor-begun None (Some after) client serial moment zone records empty grown replay = absurd grown
StandFor-begun (Some before) (Some after) client serial moment zone records empty grown replay =
    subst (λ (rows : List Row). Replays zone.origin rows (Ok zone.records)) (sym (begun_as before after client serial grown.stamp records empty grown.is)) (replay grown.stamp)

-- a journal with neither rows nor batches has no row
no_row : (rows : Option (List Row)) (batches : List BatchRow) → Told (λ (o : List Row) (s : List Row). (o ≡ []) × (batches ≡ [])) rows rows → HadNoRow rows rows
no_row None batches empty = tt
no_row (Some rows) batches empty = empty.0

pub IsStored-begun : {K : Type 0} (keeper : KeeperOf K) (before : KeeperTold) (store : StoreOf K) (client serial moment : ℕ) (records : List Record) → HadNothing before before
    → GrowsByBatch before.rows (keeper.told store.keeper).rows client serial moment records → GrowsByRun before (keeper.told store.keeper) records → store.row_count ≡ length records
    → serial ≡ serial_of store.zone.records
    → ((one : ℕ) (stamp : List ℕ) → Replays store.zone.origin (appended [] one (serial_of store.zone.records) stamp records) (Ok store.zone.records)) → IsStored keeper store
IsStored-begun keeper before store client serial moment records empty grown run count is replay =
    let none = no_row before.rows before.batches empty in
    record {
      count = HasRows-begun before.rows (keeper.told store.keeper).rows client serial moment records store.row_count none grown count;
      zone = StandFor-begun before.rows (keeper.told store.keeper).rows client serial moment store.zone records none grown
          (λ stamp. subst (λ (n : ℕ). Replays store.zone.origin (appended [] client n stamp records) (Ok store.zone.records)) (sym is) (replay client stamp));
      covered = covered_begun before (keeper.told store.keeper) client serial moment records empty grown run;
    }

empty_before : (before after : Option (List Row)) (batches : List BatchRow) (client serial moment : ℕ) (records : List Record)
    → Told (λ (o : List Row) (s : List Row). (o ≡ []) × (batches ≡ [])) before before → GrowsByBatch before after client serial moment records
    → Told (λ (o : List Row) (s : List Row). (o ≡ []) × (batches ≡ [])) before after
empty_before before None batches client serial moment records empty grown = tt
empty_before None (Some after) batches client serial moment records empty grown = absurd grown
empty_before (Some before) (Some after) batches client serial moment records empty grown = empty

pub begins : {K : Type 0} (keeper : KeeperOf K) (before : KeeperTold) (zone : Contents) (moment serial : ℕ) (records : List Record) (store : StoreOf K) → HadNothing before before
    → GrowsByBatch before.rows (keeper.told store.keeper).rows 0 serial moment records → GrowsByRun before (keeper.told store.keeper) records → (keeper.told store.keeper).faults ≡ before.faults
    → serial ≡ serial_of zone.records → records ≡ opening_of zone → store.zone ≡ zone → store.row_count ≡ length records → IsStored keeper store → Begins keeper before zone moment store
begins keeper before zone moment serial records store empty grown run uncounted numbered is named count stored = record {
  empty = empty_before before.rows (keeper.told store.keeper).rows before.batches 0 serial moment records empty grown;
  grown = subst (λ (l : List Record). GrowsByBatch before.rows (keeper.told store.keeper).rows 0 (serial_of zone.records) moment l) is
      (subst (λ (n : ℕ). GrowsByBatch before.rows (keeper.told store.keeper).rows 0 n moment records) numbered grown);
  run = subst (λ (l : List Record). GrowsByRun before (keeper.told store.keeper) l) is run;
  uncounted = uncounted;
  is = named;
  row_count = count ∙ ap length is;
  stands = stored;
}

-- what holds since content was kept holds since before
pub since : (R : List Row → List Row → Type 0) (before between now : Option (List Row)) → Keeps before between → Told R between now → Told R before now
since R before between None kept told = tt
since R before None (Some rows) kept told = absurd told
since R None (Some middle) (Some rows) kept told = absurd kept
since R (Some old) (Some middle) (Some rows) kept told = subst (λ (l : List Row). R l rows) kept told

-- a look at the first row says whether there are rows
pub none_seen : (now : Option (List Row)) → IsFirstRow now None → HadNoRow now now
none_seen None seen = tt
none_seen (Some []) seen = refl
none_seen (Some (row ∷ rows)) seen = absurd (let none = seen in cc)

pub some_is : (row : Row) (rows : List Row) → Some row ≡ first_of rows → rows ≢ []
some_is row [] seen none = absurd (let some = seen in cc)
some_is row (first ∷ rows) seen none = absurd (let some = none in cc)

pub some_seen : (before between now : Option (List Row)) (row : Row) → Keeps before between → IsFirstRow between (Some row) → Keeps between now → HadRows before now
some_seen before between None row kept seen more = tt
some_seen before None (Some rows) row kept seen more = absurd more
some_seen None (Some middle) (Some rows) row kept seen more = absurd kept
some_seen (Some old) (Some middle) (Some rows) row kept seen more =
    subst (λ (l : List Row). l ≢ []) kept (some_is row middle seen)

-- a journal that was not opened since it was looked at was not opened
unopened_since : (before between now : KeeperTold) (kind : OpenKind) → Keeps before.rows between.rows → KeepsBatches before between → between.faults ≡ before.faults → IsUnopened between now kind
    → IsUnopened before now kind
unopened_since before between now kind kept batches same is =
    let later : between.faults ≤ now.faults = is.later in
    record {
      kept = kept_on before.rows between.rows now.rows kept is.kept;
      batches = batches_on before between now kept batches is.batches;
      later = omega (arith, same, later);
      counts = counts_since before.faults between.faults now.faults kind same is.counts;
    }

-- batches that did not cover rows when these were looked at did not before
pub uncovered_since : (Pass : List Row → Type 0) (before between now : KeeperTold) (place : ℤ) (kind : ReplayKind) → Keeps before.rows between.rows → KeepsBatches before between
    → AreUncovered Pass between now place kind → AreUncovered Pass before now place kind
uncovered_since Pass before between now place kind kept batches is =
    since_both (λ o bs s. Pass o × (kind ≡ BatchOutOfPlace) × (uncovered (pos 1) o bs ≡ Some place)) before.rows between.rows now.rows before.batches between.batches kept batches is

passing : (P Q : List Row → Type 0) (b n : Option (List Row)) (batches : List BatchRow) (place : ℤ) (kind : ReplayKind) → ((l : List Row) → P l → Q l)
    → Told (λ (o : List Row) (s : List Row). P o × (kind ≡ BatchOutOfPlace) × (uncovered (pos 1) o batches ≡ Some place)) b n
    → Told (λ (o : List Row) (s : List Row). Q o × (kind ≡ BatchOutOfPlace) × (uncovered (pos 1) o batches ≡ Some place)) b n
passing P Q b None batches place kind more is = tt
passing P Q None (Some n) batches place kind more is = absurd is
passing P Q (Some b) (Some n) batches place kind more is = (more b is.0, is.1, is.2)

-- of those that were not refused for another cause
pub uncovered_more : (P Q : List Row → Type 0) (before now : KeeperTold) (place : ℤ) (kind : ReplayKind) → ((l : List Row) → P l → Q l) → AreUncovered P before now place kind → AreUncovered Q before now place kind
uncovered_more P Q before now place kind more is = passing P Q before.rows now.rows before.batches place kind more is

-- a journal without rows was begun, since it was looked at
pub begins_since : {K : Type 0} (keeper : KeeperOf K) (before between : KeeperTold) (zone : Contents) (moment : ℕ) (store : StoreOf K) → Keeps before.rows between.rows → KeepsBatches before between
    → between.faults ≡ before.faults → Begins keeper between zone moment store → Begins keeper before zone moment store
begins_since keeper before between zone moment store kept batches same done =
    let now = keeper.told store.keeper in
    record {
      empty = since_both (λ o bs s. (o ≡ []) × (bs ≡ [])) before.rows between.rows now.rows before.batches between.batches kept batches done.empty;
      grown = since (λ old new. HasBatch old 0 (serial_of zone.records) moment (opening_of zone) new) before.rows between.rows now.rows kept done.grown;
      run = since_both (λ o bs s. now.batches ≡ batches_with (last_id o +ℤ pos 1) (opening_of zone) bs) before.rows between.rows now.rows before.batches between.batches kept batches done.run;
      uncounted = done.uncounted ∙ same;
      is = done.is;
      row_count = done.row_count;
      stands = done.stands;
    }

-- a journal without rows, after the look
pub opens_begun : {K : Type 0} (keeper : KeeperOf K) (before between : KeeperTold) (origin : List (List ℕ)) (given : Option Contents) (moment : ℕ) (store : StoreOf K) → Keeps before.rows between.rows
    → KeepsBatches before between → between.faults ≡ before.faults → IfSome given (λ zone. zone.origin ≡ fold_of origin) → IsSomeAnd given (λ zone. Begins keeper between zone moment store)
    → Opens keeper before origin given moment store
opens_begun keeper before between origin None moment store kept batches same named done = absurd done
opens_begun keeper before between origin (Some zone) moment store kept batches same named done =
    begun zone refl named (begins_since keeper before between zone moment store kept batches same done)

pub opens_not_begun : (before between now : KeeperTold) (origin : List (List ℕ)) (given : Option Contents) (kind : OpenKind) → Keeps before.rows between.rows → KeepsBatches before between
    → between.faults ≡ before.faults → BeginsNot between now given kind → OpensNot before now origin given kind
opens_not_begun before between now origin given (Recovery row why) kept batches same is = record {
  unfound = inr (uncovered_since (StandOrNone origin) before between now row why kept batches (uncovered_more AreNone (StandOrNone origin) between now row why (λ l none. inl none) is.unbegun));
  unopened = unopened_since before between now _ kept batches same is.unopened;
}
opens_not_begun before between now origin given KeeperFault kept batches same is = record { unfound = tt; unopened = unopened_since before between now _ kept batches same is.unopened }
opens_not_begun before between now origin given NoZone kept batches same is = record {
  unfound = (since_both (λ o bs s. (o ≡ []) × (bs ≡ [])) before.rows between.rows now.rows before.batches between.batches kept batches is.unbegun.0, is.unbegun.1);
  unopened = unopened_since before between now _ kept batches same is.unopened;
}
opens_not_begun before between now origin given OutOfMemory kept batches same is = record { unfound = tt; unopened = unopened_since before between now _ kept batches same is.unopened }

-- a journal was read back, since it was looked at
pub recovers_since : {K : Type 0} (keeper : KeeperOf K) (before between : KeeperTold) (origin : List (List ℕ)) (store : StoreOf K) → Keeps before.rows between.rows → KeepsBatches before between
    → between.faults ≡ before.faults → Recovers keeper between origin store → Recovers keeper before origin store
recovers_since keeper before between origin store kept batches same done = record {
  kept = kept_on before.rows between.rows (keeper.told store.keeper).rows kept done.kept;
  batches = batches_on before between (keeper.told store.keeper) kept batches done.batches;
  uncounted = done.uncounted ∙ same;
  named = done.named;
  stands = done.stands;
}

-- one with rows
pub opens_recovered : {K : Type 0} (keeper : KeeperOf K) (before between : KeeperTold) (origin : List (List ℕ)) (given : Option Contents) (moment : ℕ) (store : StoreOf K) (row : Row) → Keeps before.rows between.rows
    → KeepsBatches before between → between.faults ≡ before.faults → IsFirstRow between.rows (Some row) → Recovers keeper between origin store → Opens keeper before origin given moment store
opens_recovered keeper before between origin given moment store row kept batches same seen done =
    recovered (some_seen before.rows between.rows (keeper.told store.keeper).rows row kept seen done.kept) (recovers_since keeper before between origin store kept batches same done)

-- why it was not read back is why it was not opened
pub unfound_by : (before between now : KeeperTold) (origin : List (List ℕ)) (given : Option Contents) (id : ℤ) (why : ReplayKind) → Keeps before.rows between.rows → KeepsBatches before between
    → HadRows before.rows now.rows → IsUnread between now origin (Recovery id why) → IsUnfound before now origin given (Recovery id why)
unfound_by before between now origin given id why kept batches some (inl refused) =
    inl (some, since (λ old new. Replays (fold_of origin) old (Err (record { row = id; kind = why }))) before.rows between.rows now.rows kept refused)
unfound_by before between now origin given id why kept batches some (inr is) =
    inr (uncovered_since (StandOrNone origin) before between now id why kept batches (uncovered_more (Stand origin) (StandOrNone origin) between now id why (λ l stand. inr stand) is))

pub opens_not_recovered : (before between now : KeeperTold) (origin : List (List ℕ)) (given : Option Contents) (kind : OpenKind) (row : Row) → Keeps before.rows between.rows → KeepsBatches before between
    → between.faults ≡ before.faults → IsFirstRow between.rows (Some row) → RecoversNot between now origin kind → OpensNot before now origin given kind
opens_not_recovered before between now origin given (Recovery id why) row kept batches same seen is = record {
  unfound = unfound_by before between now origin given id why kept batches (some_seen before.rows between.rows now.rows row kept seen is.unopened.kept) is.unread;
  unopened = unopened_since before between now _ kept batches same is.unopened;
}
opens_not_recovered before between now origin given KeeperFault row kept batches same seen is = record { unfound = tt; unopened = unopened_since before between now _ kept batches same is.unopened }
opens_not_recovered before between now origin given NoZone row kept batches same seen is = absurd is.unread
opens_not_recovered before between now origin given OutOfMemory row kept batches same seen is = record { unfound = tt; unopened = unopened_since before between now _ kept batches same is.unopened }

-- a call of the keeper was refused
unopened_by : (before now : KeeperTold) (f : KeepFault) → Keeps before.rows now.rows → KeepsBatches before now → HasCause {T = Unit {0}} before.faults now.faults (Err f) → IsUnopened before now (keeper_kind f)
unopened_by before now keep.Failed kept batches cause = record { kept = kept; batches = batches; later = cause.later; counts = cause.counts }
unopened_by before now keep.OutOfMemory kept batches cause = record { kept = kept; batches = batches; later = cause.later; counts = cause.counts }

-- the first one
cause_alone : {T : Type 0} (before now : ℕ) (f : KeepFault) → HasCause {T = T} before now (Err f) → HasCause {T = Unit {0}} before now (Err f)
cause_alone before now keep.Failed cause = record { later = cause.later; counts = cause.counts }
cause_alone before now keep.OutOfMemory cause = record { later = cause.later; counts = cause.counts }

pub opens_not_seen : {T : Type 0} (before now : KeeperTold) (origin : List (List ℕ)) (given : Option Contents) (f : KeepFault) (kind : OpenKind) → kind ≡ keeper_kind f → Keeps before.rows now.rows
    → KeepsBatches before now → HasCause {T = T} before.faults now.faults (Err f) → OpensNot before now origin given kind
opens_not_seen before now origin given f kind is kept batches cause =
    subst (OpensNot before now origin given) (sym is) (by f (unopened_by before now f kept batches (cause_alone before.faults now.faults f cause)))
  where
    by : (f : KeepFault) → IsUnopened before now (keeper_kind f) → OpensNot before now origin given (keeper_kind f)
    by keep.Failed is = record { unfound = tt; unopened = is }
    by keep.OutOfMemory is = record { unfound = tt; unopened = is }

-- or the append
pub appends_not : (before now : KeeperTold) (f : KeepFault) (kind : OpenKind) → kind ≡ keeper_kind f → Keeps before.rows now.rows → KeepsBatches before now
    → HasCause {T = Unit {0}} before.faults now.faults (Err f) → AppendsNot before now kind
appends_not before now f kind is kept batches cause =
    subst (AppendsNot before now) (sym is) (by f (unopened_by before now f kept batches cause))
  where
    by : (f : KeepFault) → IsUnopened before now (keeper_kind f) → AppendsNot before now (keeper_kind f)
    by keep.Failed is = record { keepers = tt; unopened = is }
    by keep.OutOfMemory is = record { keepers = tt; unopened = is }

-- or memory ran out before it
pub appends_wanting : (told : KeeperTold) → AppendsNot told told OutOfMemory
appends_wanting told = record { keepers = tt; unopened = record { kept = Keeps-same told.rows; batches = batches_same told; later = omega arith; counts = refl } }

pub stray : (b n : Option (List Row)) (batches : List BatchRow) (place : ℤ) (kind : ReplayKind) → HadNoRow b b
    → Told (λ (o : List Row) (s : List Row). (kind ≡ BatchOutOfPlace) × (uncovered (pos 1) o batches ≡ Some place)) b n
    → Told (λ (o : List Row) (s : List Row). AreNone o × (kind ≡ BatchOutOfPlace) × (uncovered (pos 1) o batches ≡ Some place)) b n
stray b None batches place kind none is = tt
stray None (Some n) batches place kind none is = absurd is
stray (Some b) (Some n) batches place kind none is = (none, is.0, is.1)

-- or a batch was seen, or none could be
pub begins_not_seen : {K : Type 0} (keeper : KeeperOf K) (old now : K) (given : Option Contents) (kind : OpenKind) → HadNoRow (keeper.told old).rows (keeper.told old).rows
    → IsUncovered (keeper.told old) (keeper.told now) kind → ReadsRows {T = Unit {0}} keeper old now (Err kind) → BeginsNot (keeper.told old) (keeper.told now) given kind
begins_not_seen keeper old now given (Recovery row why) none is read = record {
  unbegun = stray (keeper.told old).rows (keeper.told now).rows (keeper.told old).batches row why none is;
  unopened = record { kept = read.kept; batches = read.batches; later = read.later; counts = read.counts };
}
begins_not_seen keeper old now given KeeperFault none is read = record { unbegun = tt; unopened = record { kept = read.kept; batches = read.batches; later = read.later; counts = read.counts } }
begins_not_seen keeper old now given NoZone none is read = absurd is
begins_not_seen keeper old now given OutOfMemory none is read = record { unbegun = tt; unopened = record { kept = read.kept; batches = read.batches; later = read.later; counts = read.counts } }

-- what a crash may leave of a journal that was looked at
pub leaves_looked : {K : Type 0} (keeper : KeeperOf K) (given : Option Contents) (moment : ℕ) (old now : K) → LeavesNoOther (keeper.may_leave old) (keeper.may_leave now) → LeavesUnopened keeper given moment old now
leaves_looked keeper None moment old now left = left
leaves_looked keeper (Some zone) moment old now left = λ some l. inl (left some l)

pub leaves_opening : {K T : Type 0} (keeper : KeeperOf K) (zone : Contents) (moment : ℕ) (old between now : K) (value : T) → ReadsRows keeper old between (Ok value)
    → LeavesOpening keeper zone moment between now → LeavesOpening keeper zone moment old now
leaves_opening keeper zone moment old between now value read left =
    whole_since (keeper.told old) (keeper.told between) 0 (serial_of zone.records) moment (opening_of zone) (keeper.may_leave old) (keeper.may_leave between) (keeper.may_leave now)
    read.kept read.batches read.left left

-- after a look that found nothing there is nothing
nothing_now : (b n : Option (List Row)) (bb nb : List BatchRow) → Told (λ (o : List Row) (s : List Row). (o ≡ []) × (bb ≡ [])) b n → Keeps b n → Told (λ (o : List Row) (s : List Row). nb ≡ bb) b n
    → Told (λ (o : List Row) (s : List Row). (o ≡ []) × (nb ≡ [])) n n
nothing_now b None bb nb none kept same = tt
nothing_now None (Some n) bb nb none kept same = absurd kept
nothing_now (Some b) (Some n) bb nb none kept same = (kept ∙ none.0, same ∙ none.1)

pub nothing_still : (before now : KeeperTold) → HadNothing before now → Keeps before.rows now.rows → KeepsBatches before now → HadNothing now now
nothing_still before now none kept same = nothing_now before.rows now.rows before.batches now.batches none kept same

-- rows were read, of which no zone came, or which no batches cover
pub recovers_not : {K T : Type 0} (keeper : KeeperOf K) (old new : K) (origin : List (List ℕ)) (result : Result T OpenKind) (kind : OpenKind) → result ≡ Err kind
    → IsUnread (keeper.told old) (keeper.told new) origin kind → ReadsRows keeper old new result → RecoversNot (keeper.told old) (keeper.told new) origin kind
recovers_not {T} keeper old new origin result kind is unread reads =
    let so = subst (λ (r : Result T OpenKind). ReadsRows keeper old new r) is reads in
    record { unread = unread; unopened = record { kept = so.kept; batches = so.batches; later = so.later; counts = so.counts } }

-- rows that are unread are not read back
pub unread_rows : (before now : KeeperTold) (origin : List (List ℕ)) (kind : OpenKind) → AreUnread before.rows now.rows origin kind → IsUnread before now origin kind
unread_rows before now origin (Recovery id why) unread = inl unread
unread_rows before now origin KeeperFault unread = tt
unread_rows before now origin NoZone unread = absurd unread
unread_rows before now origin OutOfMemory unread = tt

standing : (b n : Option (List Row)) (batches : List BatchRow) (origin : List (List ℕ)) (zone : Contents) (place : ℤ) (kind : ReplayKind) → StandFor b zone → zone.origin ≡ fold_of origin
    → Told (λ (o : List Row) (s : List Row). (kind ≡ BatchOutOfPlace) × (uncovered (pos 1) o batches ≡ Some place)) b n
    → Told (λ (o : List Row) (s : List Row). Stand origin o × (kind ≡ BatchOutOfPlace) × (uncovered (pos 1) o batches ≡ Some place)) b n
standing b None batches origin zone place kind stand named is = tt
standing None (Some n) batches origin zone place kind stand named is = absurd is
standing (Some b) (Some n) batches origin zone place kind stand named is =
    ((zone.records, subst (λ (o : List (List ℕ)). Replays o b (Ok zone.records)) named stand), is.0, is.1)

-- nor are those that stand for a zone, but are not covered
pub unread_uncovered : (before between now : KeeperTold) (origin : List (List ℕ)) (zone : Contents) (kind : OpenKind) → Keeps before.rows between.rows → KeepsBatches before between → StandFor between.rows zone
    → zone.origin ≡ fold_of origin → IsUncovered between now kind → IsUnread before now origin kind
unread_uncovered before between now origin zone (Recovery id why) kept batches stand named is =
    inr (uncovered_since (Stand origin) before between now id why kept batches (standing between.rows now.rows between.batches origin zone id why stand named is))
unread_uncovered before between now origin zone KeeperFault kept batches stand named is = tt
unread_uncovered before between now origin zone NoZone kept batches stand named is = absurd is
unread_uncovered before between now origin zone OutOfMemory kept batches stand named is = tt

-- what follows from what an answer without a fault gives
pub on_ok : {A E : Type 0} (P Q : A → Type 0) (result : Result A E) → ((value : A) → P value → Q value) → IfOk result P → IfOk result Q
on_ok P Q (Ok value) follows holds = follows value holds
on_ok P Q (Err fault) follows holds = tt

-- and from what one with a fault gives
pub on_err : {A E : Type 0} (P Q : E → Type 0) (result : Result A E) → ((fault : E) → P fault → Q fault) → IfErr result P → IfErr result Q
on_err P Q (Ok value) follows holds = tt
on_err P Q (Err fault) follows holds = follows fault holds
