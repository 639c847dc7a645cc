-- The batches that a keeper tells, over calls that keep its rows or add to them.
use Rattle.std.proofs.Common.{◌≡◌, ◌+ℤ◌, ℕ, pos, List, [], length, Option, Some, None, inl, inr, refl, sym, subst}
use Rattle.std.specs.Prelude.{IfSome, IsSomeAnd}
use Rattle.dns_io.specs.Told.{Keeps, Told}
use Rattle.dns_wire.specs.declared.record.Record.{Record}
use Rattle.dns_keeper.specs.declared.row.Row.{Row}
use Rattle.dns_keeper.specs.declared.batch_row.BatchRow.{BatchRow}
use Rattle.dns_keeper.specs.Rows.{last_id, appended}
use Rattle.dns_keeper.specs.Batches.{Covers, batches_with}
use Rattle.dns_keeper.specs.Keeping.{KeeperTold, Kept, GrowsByBatch, GrowsByRun, KeepsBatches}
use Rattle.dns_keeper.specs.Crash.{HasWhole, LeavesNoOther, LeavesWhole}
use Rattle.dns_keeper.proofs.CoversGrow.{covers_appended}
use Rattle.dns_zone_map.specs.Zone.{Contents}
use Rattle.dns_update.proofs.Replayed.{last_replayed}
use Rattle.dns_store.specs.Covered.{IsCovered, HadNothing}
use Rattle.dns_store.specs.Store.{StandFor}

-- what holds since rows and batches were kept holds since before
pub since_both : (R : List Row → List BatchRow → List Row → Type 0) (b m n : Option (List Row)) (bb mb : List BatchRow) → Keeps b m → Told (λ o s. mb ≡ bb) b m
    → Told (λ o s. R o mb s) m n → Told (λ o s. R o bb s) b n
since_both R b m None bb mb kept same told = tt
since_both R b None (Some n) bb mb kept same told = absurd told
since_both R None (Some m) (Some n) bb mb kept same told = absurd kept
since_both R (Some b) (Some m) (Some n) bb mb kept same told = subst (λ (l : List Row). R l bb n) kept (subst (λ (bs : List BatchRow). R m bs n) same told)

-- batches that a call keeps, after one that kept them
pub batches_on : (start before now : KeeperTold) → Keeps start.rows before.rows → KeepsBatches start before → KeepsBatches before now → KeepsBatches start now
batches_on start before now kept same more =
    since_both (λ o bs s. now.batches ≡ bs) start.rows before.rows now.rows start.batches before.batches kept same more

same_batches : (rows : Option (List Row)) (batches : List BatchRow) → Told (λ (o : List Row) (s : List Row). batches ≡ batches) rows rows
same_batches None batches = tt
same_batches (Some rows) batches = refl

pub batches_same : (told : KeeperTold) → KeepsBatches told told
batches_same told = same_batches told.rows told.batches

-- ---- covering

covered_by : (b n : Option (List Row)) (bb nb : List BatchRow) → Keeps b n → Told (λ (o : List Row) (s : List Row). nb ≡ bb) b n → IfSome b (λ rows. Covers (pos 1) rows bb) → IfSome n (λ rows. Covers (pos 1) rows nb)
covered_by b None bb nb kept same c = tt
covered_by None (Some n) bb nb kept same c = absurd kept
covered_by (Some b) (Some n) bb nb kept same c = subst (λ (l : List Row). Covers (pos 1) l nb) (sym kept) (subst (λ (bs : List BatchRow). Covers (pos 1) b bs) (sym same) c)

pub covered_kept : (before now : KeeperTold) → Keeps before.rows now.rows → KeepsBatches before now → IsCovered before → IsCovered now
covered_kept before now kept same c = covered_by before.rows now.rows before.batches now.batches kept same c

covered_more : (b n : Option (List Row)) (bb nb : List BatchRow) (client serial moment : ℕ) (records : List Record) → GrowsByBatch b n client serial moment records
    → Told (λ (o : List Row) (s : List Row). nb ≡ batches_with (last_id o +ℤ pos 1) records bb) b n → IfSome b (λ rows. last_id rows ≡ pos (length rows))
    → IfSome b (λ rows. Covers (pos 1) rows bb) → IfSome n (λ rows. Covers (pos 1) rows nb)
covered_more b None bb nb client serial moment records grew run last c = tt
covered_more None (Some n) bb nb client serial moment records grew run last c = absurd grew
covered_more (Some b) (Some n) bb nb client serial moment records grew run last c =
    subst (λ (l : List Row). Covers (pos 1) l nb) (sym grew.is)
    (subst (λ (bs : List BatchRow). Covers (pos 1) (appended b client serial grew.stamp records) bs) (sym run)
    (covers_appended b bb client serial grew.stamp records last c))

-- batches that cover rows cover them after an append
pub covered_grown : (before now : KeeperTold) (client serial moment : ℕ) (records : List Record) → GrowsByBatch before.rows now.rows client serial moment records
    → GrowsByRun before now records → IfSome before.rows (λ rows. last_id rows ≡ pos (length rows)) → IsCovered before → IsCovered now
covered_grown before now client serial moment records grew run last c =
    covered_more before.rows now.rows before.batches now.batches client serial moment records grew run last c

-- the last id of rows that stand for a zone is their number
pub last_told : (rows : Option (List Row)) (zone : Contents) → StandFor rows zone → IfSome rows (λ l. last_id l ≡ pos (length l))
last_told None zone stand = tt
last_told (Some rows) zone stand = last_replayed zone.origin rows zone.records stand

-- so are those of none, which no batches cover
last_none : (rows : Option (List Row)) (batches : List BatchRow) → Told (λ (o : List Row) (s : List Row). (o ≡ []) × (batches ≡ [])) rows rows → IfSome rows (λ l. last_id l ≡ pos (length l))
last_none None batches empty = tt
last_none (Some rows) batches empty = rw empty.0 refl

pub covered_none : (rows : Option (List Row)) (batches : List BatchRow) → Told (λ (o : List Row) (s : List Row). (o ≡ []) × (batches ≡ [])) rows rows → IfSome rows (λ l. Covers (pos 1) l batches)
covered_none None batches empty = tt
covered_none (Some rows) batches empty = rw (empty.0, empty.1) refl

pub covered_begun : (before now : KeeperTold) (client serial moment : ℕ) (records : List Record) → HadNothing before before
    → GrowsByBatch before.rows now.rows client serial moment records → GrowsByRun before now records → IsCovered now
covered_begun before now client serial moment records empty grew run =
    covered_grown before now client serial moment records grew run (last_none before.rows before.batches empty) (covered_none before.rows before.batches empty)

-- ---- what a crash may leave, since a look that changed nothing

grown_by : (b m : Option (List Row)) (bb mb : List BatchRow) (client serial moment : ℕ) (records : List Record) (kept : Kept) → Keeps b m → Told (λ (o : List Row) (s : List Row). mb ≡ bb) b m
    → IsSomeAnd m (λ old. HasWhole old mb client serial moment records kept) → IsSomeAnd b (λ old. HasWhole old bb client serial moment records kept)
grown_by b None bb mb client serial moment records kept keeps same grown = absurd grown
grown_by None (Some m) bb mb client serial moment records kept keeps same grown = absurd keeps
grown_by (Some b) (Some m) bb mb client serial moment records kept keeps same grown =
    subst (λ (l : List Row). HasWhole l bb client serial moment records kept) keeps (subst (λ (bs : List BatchRow). HasWhole m bs client serial moment records kept) same grown)

pub whole_since : (before between : KeeperTold) (client serial moment : ℕ) (records : List Record) (was then now : Kept → Type 0) → Keeps before.rows between.rows → KeepsBatches before between
    → LeavesNoOther was then → LeavesWhole between client serial moment records then now → LeavesWhole before client serial moment records was now
whole_since before between client serial moment records was then now keeps same none by kept left = elim (by kept left) [
  | inl earlier ↦ inl (none kept earlier)
  | inr grown ↦ inr (grown.0, grown_by before.rows between.rows before.batches between.batches client serial moment records kept keeps same grown.1)
]
