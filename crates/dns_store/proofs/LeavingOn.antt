-- What a crash may leave of the rows of a store goes on past its rows by one batch at most.
use Rattle.std.proofs.Common.{◌≡◌, ◌<◌, ℕ, ℤ, pos, ◌+ℤ◌, List, [], ◌∷◌, length, Option, Some, None, Result, Ok, Err, inl, inr, refl, sym, ap, ◌∙◌, subst, arith}
use Rattle.std.specs.Prelude.{IsSomeAnd, IfOk, IfSome}
use Rattle.std.specs.List.{AllByRecursion}
use Rattle.std.proofs.lemmas.List.{append-nil}
use Rattle.dns_io.specs.Told.{Keeps, Told}
use Rattle.dns_wire.specs.declared.record.Record.{Record}
use Rattle.dns_keeper.specs.declared.row.Row.{Row}
use Rattle.dns_keeper.specs.declared.batch_row.BatchRow.{BatchRow}
use Rattle.dns_keeper.specs.Rows.{last_id, rows_of, appended}
use Rattle.dns_keeper.specs.Batches.{Covers, batches_with}
use Rattle.dns_keeper.specs.Keeping.{KeeperTold, Kept, KeeperOf, KeepsBatches, HasBatch}
use Rattle.dns_keeper.proofs.CoversGrow.{covers_appended, batches_behind}
use Rattle.dns_keeper.specs.Crash.{HasWhole, LeavesTold}
use Rattle.dns_zone_map.specs.Zone.{Contents, IsZone}
use Rattle.dns_update.specs.Change.{serial_after_batch, applied}
use Rattle.dns_update.specs.Replay.{IsJournalledAsIs, Replays}
use Rattle.dns_update.proofs.Replayed.{last_replayed}
use Rattle.dns_store.specs.Covered.{GoesOnByOne}
use Rattle.dns_store.specs.Store.{StoreOf, StandFor, IsStored}
use Rattle.dns_store.specs.Opening.{Begins}
use Rattle.dns_store.specs.Crash.{LeavesStored, LeavesRows, GoesOn, LeavesStoreOn}
use Rattle.dns_store.proofs.Growing.{GrownRows}

some_same : {T : Type 0} {a b : T} → Some a ≡ Some b → a ≡ b
some_same e = cc

-- rows that are told after a call which kept them were told before it
kept_told : (before after : Option (List Row)) (told : List Row) → Keeps before after → after ≡ Some told → before ≡ Some told
kept_told before None told kept e = absurd cc
kept_told None (Some now) told kept e = absurd kept
kept_told (Some old) (Some now) told kept e = ap Some (sym kept) ∙ e

-- told rows stand for the zone
told_stands : (rows : Option (List Row)) (told : List Row) (zone : Contents) → rows ≡ Some told → StandFor rows zone → Replays zone.origin told (Ok zone.records)
told_stands rows told zone e stand = subst (λ (o : Option (List Row)). StandFor o zone) e stand

-- and the batches that are told after it were those before it
kept_batches : (before after : Option (List Row)) (b n : List BatchRow) (told : List Row) → Told (λ (o : List Row) (s : List Row). n ≡ b) before after → after ≡ Some told → n ≡ b
kept_batches before None b n told kept e = absurd cc
kept_batches None (Some now) b n told kept e = absurd kept
kept_batches (Some old) (Some now) b n told kept e = kept

-- they cover the told rows
told_covered : (rows : Option (List Row)) (batches : List BatchRow) (told : List Row) → rows ≡ Some told → IfSome rows (λ l. Covers (pos 1) l batches) → Covers (pos 1) told batches
told_covered rows batches told e c = subst (λ (o : Option (List Row)). IfSome o (λ l. Covers (pos 1) l batches)) e c

-- the told rows and batches themselves
goes_on_same : (told : List Row) (batches : List BatchRow) (some : Kept) (zone : Contents) → some.rows ≡ told → some.batches ≡ batches → Replays zone.origin told (Ok zone.records) → Covers (pos 1) told batches
    → GoesOn zone.origin (record { rows = told; batches = batches }) some
goes_on_same told batches some zone same alike replays covered = record {
  rest = [];
  begins = same ∙ sym (append-nil told);
  client = pos 0;
  serial = pos 0;
  one = tt;
  batches = inl alike;
  records = zone.records;
  replays = subst (λ (l : List Row). Replays zone.origin l (Ok zone.records)) (sym same) replays;
  covered = subst (λ (l : List Row). Covers (pos 1) l some.batches) (sym same) (subst (λ (bs : List BatchRow). Covers (pos 1) told bs) (sym alike) covered);
}

-- batches with that of records are one more at most
by_one : (told : List Row) (batches some : List BatchRow) (records : List Record) → 0 < length records → last_id told ≡ pos (length told) → Covers (pos 1) told batches
    → some ≡ batches_with (last_id told +ℤ pos 1) records batches → GoesOnByOne batches some
by_one told batches some [] more last covered is = absurd (omega (arith, more))
by_one told batches some (r ∷ rs) more last covered is = inr (record { first = last_id told +ℤ pos 1; count = pos (length (r ∷ rs)) }, is ∙ batches_behind told batches r rs last covered)

-- the rows of a batch are of one client and one serial
of_one : (id : ℤ) (client serial : ℕ) (stamp : List ℕ) (records : List Record) → AllByRecursion (λ (row : Row). (row.client ≡ pos client) × (row.serial ≡ pos serial)) (rows_of id client serial stamp records)
of_one id client serial stamp [] = tt
of_one id client serial stamp (r ∷ rs) = ((refl, refl), of_one (id +ℤ pos 1) client serial stamp rs)

-- just the rows and the batches may be left
pub on_told : {K : Type 0} (keeper : KeeperOf K) (store : StoreOf K) → IsStored keeper store → LeavesRows keeper store.keeper → LeavesStoreOn keeper store
on_told keeper store stood alone told some e l =
    let tells = keeper.told store.keeper in
    goes_on_same told tells.batches some store.zone (some_same (sym (alone some l).rows ∙ e)) (sym (alone some l).batches) (told_stands tells.rows told store.zone e stood.zone)
    (told_covered tells.rows tells.batches told e stood.covered)

-- what might be left before, or rows and batches with a whole batch
pub on_whole : {K : Type 0} (keeper : KeeperOf K) (before after : StoreOf K) (client moment : ℕ) (batch : List Record) → GrownRows → IsStored keeper before
    → IsZone before.zone.origin before.zone.records → AllByRecursion (IsJournalledAsIs before.zone.origin) batch → after.zone ≡ before.zone → Keeps (keeper.told before.keeper).rows (keeper.told after.keeper).rows
    → KeepsBatches (keeper.told before.keeper) (keeper.told after.keeper) → LeavesStored keeper before client moment batch after.keeper → LeavesStoreOn keeper before → LeavesStoreOn keeper after
on_whole keeper before after client moment batch law stood zone listed same kept batches by on told some e l =
    let old = keeper.told before.keeper in
    let new = keeper.told after.keeper in
    let was : old.rows ≡ Some told = kept_told old.rows new.rows told kept e in
    let alike : new.batches ≡ old.batches = kept_batches old.rows new.rows old.batches new.batches told batches e in
    let stands = told_stands old.rows told before.zone was stood.zone in
    let covered : Covers (pos 1) told old.batches = told_covered old.rows old.batches told was stood.covered in
    let last = last_replayed before.zone.origin told before.zone.records stands in
    let goes : GoesOn before.zone.origin (record { rows = told; batches = old.batches }) some = elim (by some l) [
      | inl earlier ↦ on told some was earlier
      | inr grown ↦
          let serial = serial_after_batch before.zone.origin before.zone.records batch in
          let whole : HasWhole told old.batches client serial moment batch some = subst (λ (o : Option (List Row)). IsSomeAnd o (λ rows. HasWhole rows old.batches client serial moment batch some)) was grown.1 in
          let has : HasBatch told client serial moment batch some.rows = whole.rows in
          record {
            rest = rows_of (last_id told +ℤ pos 1) client serial has.stamp batch;
            begins = has.is;
            client = pos client;
            serial = pos serial;
            one = of_one (last_id told +ℤ pos 1) client serial has.stamp batch;
            batches = by_one told old.batches some.batches batch grown.0 last covered whole.batches;
            records = applied before.zone.origin before.zone.records batch serial;
            replays = subst (λ (l : List Row). Replays before.zone.origin l (Ok (applied before.zone.origin before.zone.records batch serial))) (sym has.is)
                (law before.zone.origin told client has.stamp before.zone.records batch listed zone stands);
            covered = subst (λ (l : List Row). Covers (pos 1) l some.batches) (sym has.is)
                (subst (λ (bs : List BatchRow). Covers (pos 1) (appended told client serial has.stamp batch) bs) (sym whole.batches)
                (covers_appended told old.batches client serial has.stamp batch last covered));
          }
    ] in
    subst (λ (z : Contents). GoesOn z.origin (record { rows = told; batches = new.batches }) some) (sym same)
    (subst (λ (bs : List BatchRow). GoesOn before.zone.origin (record { rows = told; batches = bs }) some) (sym alike) goes)

-- a journal was begun
stands_begun : {K : Type 0} (keeper : KeeperOf K) (before : KeeperTold) (given : Option Contents) (moment : ℕ) (store : StoreOf K)
    → IsSomeAnd given (λ zone. Begins keeper before zone moment store) → IsStored keeper store
stands_begun keeper before None moment store done = absurd done
stands_begun keeper before (Some zone) moment store done = done.stands

pub on_begun : {K : Type 0} (keeper : KeeperOf K) (before : KeeperTold) (given : Option Contents) (moment : ℕ) (store : StoreOf K)
    → IsSomeAnd given (λ zone. Begins keeper before zone moment store) → LeavesRows keeper store.keeper → LeavesStoreOn keeper store
on_begun keeper before given moment store done alone = on_told keeper store (stands_begun keeper before given moment store done) alone

-- a journal was read back of which just the rows and the batches might be left
pub on_recovered : {K : Type 0} (keeper : KeeperOf K) (first : KeeperTold) (store : StoreOf K) → IsStored keeper store → Keeps first.rows (keeper.told store.keeper).rows
    → KeepsBatches first (keeper.told store.keeper) → LeavesTold first (keeper.may_leave store.keeper) → LeavesStoreOn keeper store
on_recovered keeper first store stood kept batches alone told some e l =
    let tells = keeper.told store.keeper in
    let alike : tells.batches ≡ first.batches = kept_batches first.rows tells.rows first.batches tells.batches told batches e in
    goes_on_same told tells.batches some store.zone (some_same (sym (alone some l).rows ∙ kept_told first.rows tells.rows told kept e)) (sym (alone some l).batches ∙ sym alike)
    (told_stands tells.rows told store.zone e stood.zone) (told_covered tells.rows tells.batches told e stood.covered)

pub both_ok : {T E : Type 0} (result : Result T E) (P Q R : T → Type 0) → ((t : T) → P t → Q t → R t) → IfOk result P → IfOk result Q → IfOk result R
both_ok (Ok t) P Q R step p q = step t p q
both_ok (Err e) P Q R step p q = tt
