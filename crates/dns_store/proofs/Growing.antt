-- The rows and the zone of a store after an append.
use Rattle.std.proofs.Common.{◌≡◌, ℕ, ◌+◌, ◌<◌, List, length, length-append, Option, Some, None, Result, Ok, Err, inl, inr, refl, sym, ap, ◌∙◌, subst, arith}
use Rattle.std.specs.Prelude.{IsErrOf}
use Rattle.std.specs.List.{AllByRecursion}
use Rattle.dns_io.specs.Told.{Keeps}
use Rattle.dns_wire.specs.declared.record.Record.{Record}
use Rattle.dns_keeper.specs.declared.row.Row.{Row}
use Rattle.dns_keeper.specs.declared.keeper.KeepFault.{KeepFault}
use Rattle.dns_keeper.specs.declared.keeper.KeepFault.TheVariants as keep
use Rattle.dns_keeper.specs.Rows.{appended}
use Rattle.dns_keeper.specs.Keeping.{KeeperOf, GrowsByBatch, KeepsBatches, HasCause}
use Rattle.dns_zone_map.specs.Zone.{Contents, IsZone}
use Rattle.dns_update.specs.Change.{batch_of, serial_after_batch, applied}
use Rattle.dns_update.specs.declared.batch.Batch.{Batch}
use Rattle.dns_update.specs.Replay.{IsJournalledAsIs, Replays}
use Rattle.dns_zone.specs.Updates.{IsBatchOf, zone_after, GrowsRun, Journals}
use Rattle.dns_store.specs.Store.{StoreOf, HasRows, StandFor, IsStored, zone_with, IsGrown, Stores}
use Rattle.dns_store.proofs.Opened.{length-rows_of}
use Rattle.dns_store.proofs.ToldBatches.{covered_kept, covered_grown, last_told}

pub HasRows-kept : (before after : Option (List Row)) (n : ℕ) → Keeps before after → HasRows before n → HasRows after n
HasRows-kept before None n kept has = tt
HasRows-kept None (Some after) n kept has = absurd kept
HasRows-kept (Some before) (Some after) n kept has = ap length kept ∙ has

pub StandFor-kept : (before after : Option (List Row)) (zone : Contents) → Keeps before after → StandFor before zone → StandFor after zone
StandFor-kept before None zone kept stand = tt
StandFor-kept None (Some after) zone kept stand = absurd kept
StandFor-kept (Some before) (Some after) zone kept stand = subst (λ (rows : List Row). Replays zone.origin rows (Ok zone.records)) (sym kept) stand

-- a store whose keeper kept its rows is stored
pub IsStored-kept : {K : Type 0} (keeper : KeeperOf K) (store : StoreOf K) (held : K) → IsStored keeper store → Keeps (keeper.told store.keeper).rows (keeper.told held).rows
    → KeepsBatches (keeper.told store.keeper) (keeper.told held) → IsStored keeper (record store { keeper = held })
IsStored-kept keeper store held is kept batches = record {
  count = HasRows-kept (keeper.told store.keeper).rows (keeper.told held).rows store.row_count kept is.count;
  zone = StandFor-kept (keeper.told store.keeper).rows (keeper.told held).rows store.zone kept is.zone;
  covered = covered_kept (keeper.told store.keeper) (keeper.told held) kept batches is.covered;
}

HasRows-grown : (before after : Option (List Row)) (client serial moment : ℕ) (batch : List Record) (n : ℕ) → HasRows before n → GrowsByBatch before after client serial moment batch → HasRows after (n + length batch)
HasRows-grown before None client serial moment batch n has grew = tt
HasRows-grown None (Some after) client serial moment batch n has grew = absurd grew
HasRows-grown (Some before) (Some after) client serial moment batch n has grew =
    ap length grew.is ∙ length-append before _ ∙ ap (λ (k : ℕ). length before + k) (length-rows_of _ client serial grew.stamp batch) ∙ ap (λ (k : ℕ). k + length batch) has

-- the law of replay for one more batch
abbrev pub GrownRows : Type 0
GrownRows = (origin : List (List ℕ)) (rows : List Row) (client : ℕ) (stamp : List ℕ) (records batch : List Record)
    → AllByRecursion (IsJournalledAsIs origin) batch → IsZone origin records → Replays origin rows (Ok records)
    → Replays origin (appended rows client (serial_after_batch origin records batch) stamp batch) (Ok (applied origin records batch (serial_after_batch origin records batch)))

StandFor-grown : GrownRows → (before after : Option (List Row)) (client moment : ℕ) (zone : Contents) (batch : List Record) → IsZone zone.origin zone.records → AllByRecursion (IsJournalledAsIs zone.origin) batch
    → StandFor before zone → GrowsByBatch before after client (serial_after_batch zone.origin zone.records batch) moment batch → StandFor after (zone_with zone batch)
StandFor-grown law before None client moment zone batch is listed stand grew = tt
StandFor-grown law None (Some after) client moment zone batch is listed stand grew = absurd grew
StandFor-grown law (Some before) (Some after) client moment zone batch is listed stand grew =
    subst (λ (rows : List Row). Replays zone.origin rows (Ok (zone_with zone batch).records)) (sym grew.is)
    (law zone.origin before client grew.stamp zone.records batch listed is stand)

-- the serial of a batch is the one that its records leave
serial_of_batch : (zone : Contents) (updates : List Record) (batch : Batch) → IsBatchOf zone updates batch → batch.serial ≡ serial_after_batch zone.origin zone.records batch.records
serial_of_batch zone updates batch is = is.serial ∙ ap (serial_after_batch zone.origin zone.records) (sym is.records)

-- a store after an update, with its keeper and its zone
abbrev pub updated : {K : Type 0} → K → Contents → ℕ → StoreOf K
updated held zone row_count = record { keeper = held; zone = zone; row_count = row_count }

-- what is known of an update that was done: its batch, that its records came into the rows and the zone, and that no fault was counted
pub record IsDone {K : Type 0} (keeper : KeeperOf K) (store : StoreOf K) (held : K) (client moment : ℕ) (updates : List Record) (batch : Batch) (zone : Contents) : Type 0 where
  pub is : IsBatchOf store.zone updates batch
  pub done : Journals keeper store.keeper held client moment store.zone batch zone
  pub run : GrowsRun keeper store.keeper held batch
  pub idle : length batch.records ≡ 0 → held ≡ store.keeper
  pub was : IsZone store.zone.origin store.zone.records
  pub listed : AllByRecursion (IsJournalledAsIs store.zone.origin) batch.records
  pub uncounted : (keeper.told held).faults ≡ (keeper.told store.keeper).faults

module _ {K : Type 0} (keeper : KeeperOf K) (store : StoreOf K) (held : K) (client moment : ℕ) (updates : List Record) (batch : Batch) (zone : Contents) (is : IsDone keeper store held client moment updates batch zone) where
  becomes : zone ≡ zone_after store.zone batch → zone ≡ zone_with store.zone batch.records
  becomes after =
      after ∙ ap (λ (n : ℕ). record { origin = store.zone.origin; records = applied store.zone.origin store.zone.records batch.records n }) (serial_of_batch store.zone updates batch is.is)

  -- an update without a batch changed nothing
  idle_same : length batch.records ≡ 0 → zone ≡ store.zone → updated held zone (store.row_count + length batch.records) ≡ store
  idle_same none same =
      let count : store.row_count + length batch.records ≡ store.row_count = omega (arith, none) in
      ap (λ (k : K). updated k zone (store.row_count + length batch.records)) (is.idle none)
      ∙ ap (λ (z : Contents). updated store.keeper z (store.row_count + length batch.records)) same
      ∙ ap (λ (n : ℕ). updated store.keeper store.zone n) count

  grew : GrowsByBatch (keeper.told store.keeper).rows (keeper.told held).rows client batch.serial moment batch.records
      → GrowsByBatch (keeper.told store.keeper).rows (keeper.told held).rows client (serial_after_batch store.zone.origin store.zone.records batch.records) moment batch.records
  grew by = subst (λ (n : ℕ). GrowsByBatch (keeper.told store.keeper).rows (keeper.told held).rows client n moment batch.records) (serial_of_batch store.zone updates batch is.is) by

  grown_by : 0 < length batch.records → zone ≡ zone_after store.zone batch
      → GrowsByBatch (keeper.told store.keeper).rows (keeper.told held).rows client batch.serial moment batch.records
      → IsGrown keeper store client moment batch.records (updated held zone (store.row_count + length batch.records))
  grown_by some after by = record {
    some = some;
    grown = grew by;
    run = is.run some;
    uncounted = is.uncounted;
    is = ap (λ (z : Contents). updated held z (store.row_count + length batch.records)) (becomes after);
  }

  stores_by : Journals keeper store.keeper held client moment store.zone batch zone
      → Stores keeper store client moment (batch_of store.zone.origin store.zone.records updates) (Ok batch) (updated held zone (store.row_count + length batch.records))
  stores_by (inl d) = inl (ap length (sym is.is.records) ∙ d.0, idle_same d.0 d.1)
  stores_by (inr d) =
      inr (subst (λ (l : List Record). IsGrown keeper store client moment l (updated held zone (store.row_count + length batch.records))) is.is.records (grown_by d.0 d.1 d.2))

  -- what became of the update
  pub stores_done : Stores keeper store client moment (batch_of store.zone.origin store.zone.records updates) (Ok batch) (updated held zone (store.row_count + length batch.records))
  stores_done = stores_by is.done

  stored_by : GrownRows → IsStored keeper store → Journals keeper store.keeper held client moment store.zone batch zone → IsStored keeper (updated held zone (store.row_count + length batch.records))
  stored_by law stood (inl d) = subst (IsStored keeper) (sym (idle_same d.0 d.1)) stood
  stored_by law stood (inr d) = record {
    count = HasRows-grown (keeper.told store.keeper).rows (keeper.told held).rows client _ moment batch.records store.row_count stood.count (grew d.2);
    zone = subst (λ (z : Contents). StandFor (keeper.told held).rows z) (sym (becomes d.1))
        (StandFor-grown law (keeper.told store.keeper).rows (keeper.told held).rows client moment store.zone batch.records is.was is.listed stood.zone (grew d.2));
    covered = covered_grown (keeper.told store.keeper) (keeper.told held) client batch.serial moment batch.records d.2 (is.run d.0)
        (last_told (keeper.told store.keeper).rows store.zone stood.zone) stood.covered;
  }

  -- its rows stand for its zone
  pub stored_done : GrownRows → IsStored keeper store → IsStored keeper (updated held zone (store.row_count + length batch.records))
  stored_done law stood = stored_by law stood is.done

  -- what holds of the store where nothing was journalled, and where a batch was, holds of it
  pub either_done : (P : StoreOf K → Type 0) → P store → (0 < length batch.records → P (updated held zone (store.row_count + length batch.records))) → P (updated held zone (store.row_count + length batch.records))
  either_done P same more = by is.done
    where
      by : Journals keeper store.keeper held client moment store.zone batch zone → P (updated held zone (store.row_count + length batch.records))
      by (inl d) = subst P (sym (idle_same d.0 d.1)) same
      by (inr d) = more d.0

-- an update was refused
pub stores_refused : {K : Type 0} (keeper : KeeperOf K) (store : StoreOf K) (held : K) (zone : Contents) (client moment : ℕ) (batch : List Record) (result : Result Batch KeepFault) (fault : KeepFault)
    → result ≡ Err fault → zone ≡ store.zone → (IsErrOf result keep.Failed → 0 < length batch) → Keeps (keeper.told store.keeper).rows (keeper.told held).rows
    → KeepsBatches (keeper.told store.keeper) (keeper.told held) → HasCause (keeper.told store.keeper).faults (keeper.told held).faults result → Stores keeper store client moment batch (Err fault) (updated held zone store.row_count)
stores_refused {K} keeper store held zone client moment batch result fault was same some kept batches cause =
    subst (λ (z : Contents). Stores keeper store client moment batch (Err fault) (updated held z store.row_count)) (sym same)
    (refused fault was (subst (HasCause (keeper.told store.keeper).faults (keeper.told held).faults) was cause))
  where
    refused : (fault : KeepFault) → result ≡ Err fault → HasCause {T = Batch} (keeper.told store.keeper).faults (keeper.told held).faults (Err fault)
        → Stores keeper store client moment batch (Err fault) (record store { keeper = held })
    refused keep.Failed was is = record { some = some was; same = refl; kept = kept; batches = batches; later = is.later; rose = is.counts }
    refused keep.OutOfMemory was is = record { same = refl; kept = kept; batches = batches; uncounted = is.counts }
