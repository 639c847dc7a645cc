-- What a batch that is put does to what is told.
use Rattle.std.proofs.Common.{◌≡◌, ◌≢◌, ◌&&◌, ◌+ℤ◌, ◌≤◌, ◌<◌, ◌⊎◌, ℕ, ℤ, pos, Bool, List, [], ◌∷◌, ◌++◌, length, map, IsSomeAnd, true, false, Option, Some, None, IsTrue, inl, inr, refl, sym, ap, subst, ◌∙◌, arith, if◌then◌else◌}
use Rattle.std.proofs.lemmas.Bool.{and_parts, cases_Bool}
use Rattle.sqlite.specs.Order.{Row as Stored}
use Rattle.sqlite.specs.Tree.{Trees}
use Rattle.sqlite.specs.Edit.{next_rowid}
use Rattle.sqlite.specs.Effect.{Database}
use Rattle.sqlite.specs.State.{State, HasCleanDisk}
use Rattle.sqlite_trees.specs.View.{doubt}
use Rattle.sqlite_trees.proofs.Doubt.{clean_of, no_doubt}
use Rattle.dns_io.specs.Told.{Keeps}
use Rattle.dns_wire.specs.declared.record.Record.{Record}
use Rattle.dns_wire.specs.WireFormat.{record_bytes}
use Rattle.dns_sqlite.specs.Statements.{HasTables}
use Rattle.dns_sqlite.specs.Versions.{IsVersion, FitsTables, KeepsDatabase}
use Rattle.dns_sqlite.specs.Versions.{current_version}
use Rattle.dns_sqlite.specs.Batch.{next_batch, ArePut, batch, IsGrown, MayGrow, Grows}
use Rattle.dns_sqlite.proofs.Rows.{put_appends, keyed_before}
use Rattle.dns_keeper.specs.declared.row.Row.{Row}
use Rattle.dns_keeper.specs.Stamp.{IsStampOf}
use Rattle.dns_keeper.specs.declared.batch_row.BatchRow.{BatchRow}
use Rattle.dns_keeper.specs.Rows.{appended, last_id, rows_of as batch_of}
use Rattle.dns_keeper.specs.Batches.{put_batch, batches_with}
use Rattle.dns_keeper.specs.Keeping.{Kept, IsStampFor, GrowsByBatch}
use Rattle.dns_keeper.specs.Crash.{HasWhole}
use Rattle.dns_io.specs.Told.{Told}
use Rattle.dns_journal.specs.Told.{is_signed, joined, rows_of, told, batches_told, where_batches, rows_told, or_none, rows_in, IsReady, FitsConnection}
use Rattle.dns_journal.specs.Crash.{MayLeave}
use Rattle.dns_journal.specs.Stored.{LeavesBatch}
use Rattle.dns_journal.proofs.Order.{split, told_is, is_told, next_is}
use Rattle.dns_journal.proofs.BatchOrder.{batches_before}

-- a batch reads as its rows, if it reads
batch_reads : (id : ℤ) (client serial : ℕ) (stamp : List ℕ) (records : List Record) (rows : List Row) → rows_of (batch client serial stamp id (map record_bytes records)) ≡ Some rows
    → rows ≡ batch_of id client serial stamp records
batch_reads id client serial stamp [] rows e = cc
batch_reads id client serial stamp (r ∷ rs) rows e =
    elim (cases_Bool (is_signed id)) [
      | inl within ↦ go (λ rest. batch_reads (id +ℤ pos 1) client serial stamp rs rest) (rows_of (batch client serial stamp (id +ℤ pos 1) (map record_bytes rs))) refl (rw within at e)
      | inr outside ↦ absurd (let it : None ≡ Some rows = rw outside at e in cc)
    ]
  where
    go : ((rest : List Row) → rows_of (batch client serial stamp (id +ℤ pos 1) (map record_bytes rs)) ≡ Some rest → rest ≡ batch_of (id +ℤ pos 1) client serial stamp rs)
        → (o : Option (List Row)) → rows_of (batch client serial stamp (id +ℤ pos 1) (map record_bytes rs)) ≡ o
        → joined (Some (record { id = id; client = pos client; serial = pos serial; stamp = stamp; bytes = record_bytes r })) o ≡ Some rows → rows ≡ batch_of id client serial stamp (r ∷ rs)
    go again None q e = absurd (cc)
    go again (Some rest) q e =
        let same = again rest q in
        let is : record { id = id; client = pos client; serial = pos serial; stamp = stamp; bytes = record_bytes r } ∷ rest ≡ rows = cc in
        sym is ∙ ap (λ xs. record { id = id; client = pos client; serial = pos serial; stamp = stamp; bytes = record_bytes r } ∷ xs) same

-- rows in front of rows, where all of them read
pub record Front (was more : List Stored) (rows : List Row) : Type 0 where
  pub front : List Row
  pub back : List Row
  pub reads : rows_of was ≡ Some front
  pub rest : rows_of more ≡ Some back
  pub is : rows ≡ front ++ back

front_of : (was more : List Stored) (rows : List Row) → rows_of (was ++ more) ≡ Some rows → Front was more rows
front_of [] more rows e = record { front = []; back = rows; reads = refl; rest = e; is = refl }
front_of (s ∷ ss) more rows e =
    let it = split s (ss ++ more) rows e in
    let rest = front_of ss more it.rest it.more in
    record { front = it.first ∷ rest.front; back = rest.back; reads = rw (it.reads, rest.reads) refl; rest = rest.rest; is = it.is ∙ ap (λ xs. it.first ∷ xs) rest.is }

pub record WasTold (was : List Stored) (after : List Row) (client serial : ℕ) (stamp : List ℕ) (records : List Record) : Type 0 where
  pub before : List Row
  pub is : told was ≡ Some before
  pub grown : after ≡ appended before client serial stamp records
  pub next : next_rowid was ≡ last_id before +ℤ pos 1

-- What is told after a batch was told before it.
pub told_before : (client serial : ℕ) (stamp : List ℕ) (records : List Record) (was is : List Stored) (after : List Row) → ArePut client serial stamp (map record_bytes records) was is → told is ≡ Some after
    → WasTold was after client serial stamp records
told_before client serial stamp records was is after put e =
    let encoded = map record_bytes records in
    let now = told_is is after e in
    let keyed = keyed_before client serial stamp encoded was is put now.keyed in
    let rows = (put_appends client serial stamp encoded was is keyed put).0 in
    let front = front_of was (batch client serial stamp (next_rowid was) encoded) after (ap rows_of (sym rows) ∙ now.reads) in
    let back = batch_reads (next_rowid was) client serial stamp records front.back front.rest in
    record {
      before = front.front;
      is = is_told was front.front keyed front.reads;
      grown = front.is ∙ ap (λ xs. front.front ++ xs) back ∙ ap (λ id. front.front ++ batch_of id client serial stamp records) (next_is was front.front front.reads);
      next = next_is was front.front front.reads;
    }

-- ---- rows are told where batches are

pub record BothTold (d : Database) (rows : List Row) : Type 0 where
  pub rows_are : told (d.trees 1) ≡ Some rows
  pub batches : List BatchRow
  pub batches_are : batches_told (d.trees 2) ≡ Some batches

pub both_told : (d : Database) (rows : List Row) → rows_told d ≡ Some rows → BothTold d rows
both_told d rows = go (batches_told (d.trees 2)) refl
  where
    go : (o : Option (List BatchRow)) → batches_told (d.trees 2) ≡ o → where_batches o (told (d.trees 1)) ≡ Some rows → BothTold d rows
    go None q e = absurd (cc)
    go (Some batches) q e = record { rows_are = e; batches = batches; batches_are = q }

pub told_both : (d : Database) (rows : List Row) (batches : List BatchRow) → told (d.trees 1) ≡ Some rows → batches_told (d.trees 2) ≡ Some batches → rows_told d ≡ Some rows
told_both d rows batches one two = rw (two, one) refl

-- a batch that came to the tables, and was not told before it
pub record WereBothTold (was : Database) (after : List Row) (batches : List BatchRow) (client serial : ℕ) (stamp : List ℕ) (records : List Record) : Type 0 where
  pub before : List Row
  pub first : List BatchRow
  pub is : rows_told was ≡ Some before
  pub batches_are : batches_told (was.trees 2) ≡ Some first
  pub grown : after ≡ appended before client serial stamp records
  pub put : batches ≡ batches_with (last_id before +ℤ pos 1) records first

batch_with : (id : ℤ) (records : List Record) (first : List BatchRow) → 0 < length records → put_batch (record { first = id; count = pos (length (map record_bytes records)) }) first ≡ batches_with id records first
batch_with id [] first some = absurd (omega (arith, some))
batch_with id (r ∷ rs) first some = rw (length_map rs) refl
  where
    length_map : (rs : List Record) → length (map record_bytes rs) ≡ length rs
    length_map [] = refl
    length_map (r ∷ rs) = omega (arith, length_map rs)

pub both_before : (client serial : ℕ) (stamp : List ℕ) (records : List Record) (was is : Database) (after : List Row) (batches : List BatchRow) → 0 < length records → IsGrown client serial stamp (map record_bytes records) was is
    → told (is.trees 1) ≡ Some after → batches_told (is.trees 2) ≡ Some batches → WereBothTold was after batches client serial stamp records
both_before client serial stamp records was is after batches some grown rows all =
    let t = told_before client serial stamp records (was.trees 1) (is.trees 1) after grown.rows rows in
    let b = batches_before (next_batch (was.trees 1) (map record_bytes records)) (was.trees 2) (is.trees 2) batches grown.batch all in
    record {
      before = t.before;
      first = b.before;
      is = told_both was t.before b.before t.is b.is;
      batches_are = b.is;
      grown = t.grown;
      put = b.put ∙ ap (λ id. put_batch (record { first = id; count = pos (length (map record_bytes records)) }) b.before) t.next ∙ batch_with (last_id t.before +ℤ pos 1) records b.before some;
    }

-- ---- the stamp of a batch

-- the text of a moment is the stamp of each of its batches
pub stamp_for : (moment : ℕ) (records : List Record) (stamp : List ℕ) → IsStampOf moment stamp → IsStampFor moment records stamp
stamp_for moment [] stamp is = tt
stamp_for moment (r ∷ rs) stamp is = is

-- ---- of a connection

-- what shows now showed before
module _ (old new : State) (falls : doubt old.is_clean ≤ doubt new.is_clean) where
  earlier : HasCleanDisk new → IsTrue old.is_clean
  earlier clean = clean_of old.is_clean (omega (arith, falls, clean))

  pub grows_told : (client serial moment : ℕ) (stamp : List ℕ) (records : List Record) → 0 < length records → IsStampFor moment records stamp
      → (HasCleanDisk new → IsTrue new.is_open → Grows client serial stamp (map record_bytes records) old new) → GrowsByBatch (rows_in old) (rows_in new) client serial moment records
  grows_told client serial moment stamp records some stamped h = elim (cases_Bool (new.is_clean && new.is_open)) [
    | inl shows ↦
        let both = and_parts new.is_clean new.is_open shows in
        let clean : HasCleanDisk new = no_doubt new.is_clean both.0 in
        let g = h clean both.1 in
        rw shows (go g (earlier clean) (rows_told new.now) refl)
    | inr hidden ↦ rw hidden tt
  ]
    where
      go : Grows client serial stamp (map record_bytes records) old new → IsTrue old.is_clean → (o : Option (List Row)) → rows_told new.now ≡ o → GrowsByBatch (rows_in old) o client serial moment records
      go g clean None e = tt
      go g clean (Some after) e =
          let now = both_told new.now after e in
          let t = both_before client serial stamp records old.now new.now after now.batches some g.grown now.rows_are now.batches_are in
          rw (clean, g.was_open, t.is) (record { stamp = stamp; stamped = stamped; is = t.grown })

  -- and the batches are those of before with the new one
  pub grows_run : (client serial : ℕ) (stamp : List ℕ) (records : List Record) → 0 < length records → (HasCleanDisk new → IsTrue new.is_open → Grows client serial stamp (map record_bytes records) old new)
      → Told (λ before after. or_none (batches_told (new.now.trees 2)) ≡ batches_with (last_id before +ℤ pos 1) records (or_none (batches_told (old.now.trees 2)))) (rows_in old) (rows_in new)
  grows_run client serial stamp records some h = elim (cases_Bool (new.is_clean && new.is_open)) [
    | inl shows ↦
        let both = and_parts new.is_clean new.is_open shows in
        let clean : HasCleanDisk new = no_doubt new.is_clean both.0 in
        let g = h clean both.1 in
        rw shows (go g (earlier clean) (rows_told new.now) refl)
    | inr hidden ↦ rw hidden tt
  ]
    where
      go : Grows client serial stamp (map record_bytes records) old new → IsTrue old.is_clean → (o : Option (List Row)) → rows_told new.now ≡ o
          → Told (λ before after. or_none (batches_told (new.now.trees 2)) ≡ batches_with (last_id before +ℤ pos 1) records (or_none (batches_told (old.now.trees 2)))) (rows_in old) o
      go g clean None e = tt
      go g clean (Some after) e =
          let now = both_told new.now after e in
          let t = both_before client serial stamp records old.now new.now after now.batches some g.grown now.rows_are now.batches_are in
          rw (clean, g.was_open, t.is, now.batches_are, t.batches_are) t.put

  pub keeps_told : (HasCleanDisk new → IsTrue new.is_open → IsTrue old.is_open × (new.now ≡ old.now)) → Keeps (rows_in old) (rows_in new)
  keeps_told h = elim (cases_Bool (new.is_clean && new.is_open)) [
    | inl shows ↦
        let both = and_parts new.is_clean new.is_open shows in
        let clean : HasCleanDisk new = no_doubt new.is_clean both.0 in
        let k = h clean both.1 in
        rw shows (go k (earlier clean) (rows_told new.now) refl)
    | inr hidden ↦ rw hidden tt
  ]
    where
      go : IsTrue old.is_open × (new.now ≡ old.now) → IsTrue old.is_clean → (o : Option (List Row)) → rows_told new.now ≡ o → Keeps (rows_in old) o
      go k clean None e = tt
      go k clean (Some after) e = rw (clean, k.0, sym (ap rows_told k.1) ∙ e) refl

  -- and so do the batches
  pub keeps_run : (HasCleanDisk new → IsTrue new.is_open → IsTrue old.is_open × (new.now ≡ old.now)) → Told (λ before after. or_none (batches_told (new.now.trees 2)) ≡ or_none (batches_told (old.now.trees 2))) (rows_in old) (rows_in new)
  keeps_run h = elim (cases_Bool (new.is_clean && new.is_open)) [
    | inl shows ↦
        let both = and_parts new.is_clean new.is_open shows in
        let clean : HasCleanDisk new = no_doubt new.is_clean both.0 in
        let k = h clean both.1 in
        rw shows (go k (earlier clean) (rows_told new.now) refl)
    | inr hidden ↦ rw hidden tt
  ]
    where
      go : IsTrue old.is_open × (new.now ≡ old.now) → IsTrue old.is_clean → (o : Option (List Row)) → rows_told new.now ≡ o
          → Told (λ before after. or_none (batches_told (new.now.trees 2)) ≡ or_none (batches_told (old.now.trees 2))) (rows_in old) o
      go k clean None e = tt
      go k clean (Some after) e = rw (clean, k.0, sym (ap rows_told k.1) ∙ e) (ap (λ (d : Database). or_none (batches_told (d.trees 2))) k.1)

  -- What a crash may leave with the stamp of a batch, as it is said of the batch.
  pub leaves_batch : (client serial moment : ℕ) (stamp : List ℕ) (records : List Record) → IsStampFor moment records stamp
      → (HasCleanDisk new → (db : Trees) → new.may_leave db → old.may_leave db ⊎ MayGrow client serial stamp (map record_bytes records) old db) → LeavesBatch client serial moment records old new
  leaves_batch client serial moment stamp records stamped crash = λ clean db left. elim (crash clean db left) [
    | inl before ↦ inl before
    | inr grown ↦ inr (stamp, stamped, grown)
  ]

  -- After a call what might be left before, or the rows and the batches with the whole batch.
  pub left_of : (client serial moment : ℕ) (records : List Record) → 0 < length records → (HasCleanDisk old → IsTrue old.is_open → HasTables old.now)
      → LeavesBatch client serial moment records old new → HasCleanDisk new → (kept : Kept) → MayLeave new kept
      → MayLeave old kept ⊎ IsSomeAnd (rows_in old) (λ rows. HasWhole rows (or_none (batches_told (old.now.trees 2))) client serial moment records kept)
  left_of client serial moment records some has leaves clean kept m =
      let was : HasCleanDisk old = omega (arith, falls, clean) in
      elim (leaves clean m.db m.left) [
        | inl before ↦ inl (record { db = m.db; left = before; opens = m.opens })
        | inr grown ↦
            let may = grown.2 in
            let it = may.1 (has was may.0) in
            let same : it.0.trees ≡ m.opens.0.trees = sym it.2 ∙ m.opens.2 in
            let rows : told (it.0.trees 1) ≡ Some kept.rows = ap (λ (t : Trees). told (t 1)) same ∙ m.opens.1.rows in
            let batches : batches_told (it.0.trees 2) ≡ Some kept.batches = ap (λ (t : Trees). batches_told (t 2)) same ∙ m.opens.1.batches in
            let t = both_before client serial grown.0 records old.now it.0 kept.rows kept.batches some it.1 rows batches in
            inr (rw (clean_of old.is_clean was, may.0, t.is, t.batches_are) (record { rows = record { stamp = grown.0; stamped = grown.1; is = t.grown }; batches = t.put }))
      ]

-- ---- what a journal keeps of its connection

-- a batch leaves it ready
pub ready_grown : (version : ℤ) (old new : State) → IsReady true version old → new.in_transaction ≡ false → (HasCleanDisk new → IsTrue new.is_open → HasTables new.now) → IsReady true version new
ready_grown version old new ready alone has = (ready.0, alone, has)

-- and leaves its version as it is
pub fits_grown : (version : ℤ) (client serial : ℕ) (stamp : List ℕ) (encoded : List (List ℕ)) (was is : Database) → HasTables was → FitsTables version was → IsGrown client serial stamp encoded was is → FitsTables version is
fits_grown version client serial stamp encoded was is has fits grown = λ _. subst (IsVersion version) (sym (grown.others 0 (λ e. absurd (cc)) (λ e. absurd (cc)))) (fits (inr (inr has)))

-- so does what leaves the database as it was
pub ready_kept : (ready : Bool) (version : ℤ) (old new : State) → IsReady ready version old → (old.in_transaction ≡ false → new.in_transaction ≡ false) → doubt old.is_clean ≤ doubt new.is_clean → KeepsDatabase old new → IsReady ready version new
ready_kept false version old new ready alone falls kept = tt
ready_kept true version old new ready alone falls kept = (
  ready.0,
  alone ready.1,
  λ clean live. let it = kept clean live in subst HasTables (sym it.1) (ready.2 (omega (arith, falls, clean)) it.0),
)

pub fits_kept : (version : ℤ) (old new : State) → FitsConnection version old → doubt old.is_clean ≤ doubt new.is_clean → KeepsDatabase old new → FitsConnection version new
fits_kept version old new fits falls kept = λ clean live. let it = kept clean live in subst (FitsTables version) (sym it.1) (fits (omega (arith, falls, clean)) it.0)

-- a journal that is not at the current version is not ready
pub unready : (ready : Bool) (version : ℤ) (old new : State) → version ≢ current_version → IsReady ready version old → IsReady ready version new
unready false version old new other ready = tt
unready true version old new other ready = absurd (other ready.0)

-- where a crash leaves what the connection shows, it leaves the rows and the batches that are told
pub left_told : (s : State) → HasCleanDisk s → IsTrue s.is_open → ((db : Trees) → s.may_leave db → db ≡ s.now.trees) → (kept : Kept) → MayLeave s kept → (rows_in s ≡ Some kept.rows) × (or_none (batches_told (s.now.trees 2)) ≡ kept.batches)
left_told s clean live shown kept m =
    let same : s.now.trees ≡ m.opens.0.trees = sym (shown m.db m.left) ∙ m.opens.2 in
    let rows : told (s.now.trees 1) ≡ Some kept.rows = ap (λ (t : Trees). told (t 1)) same ∙ m.opens.1.rows in
    let batches : batches_told (s.now.trees 2) ≡ Some kept.batches = ap (λ (t : Trees). batches_told (t 2)) same ∙ m.opens.1.batches in
    (rw (clean_of s.is_clean clean, live) (told_both s.now kept.rows kept.batches rows batches), ap or_none batches)

-- ---- what is told is of calls that go to a connection, a clean disk and an open connection

pub record Tells (is_ready : Bool) (s : State) (rows : List Row) : Type 0 where
  pub ready : is_ready ≡ true
  pub clean : IsTrue s.is_clean
  pub live : IsTrue s.is_open
  pub told : told (s.now.trees 1) ≡ Some rows
  pub batches : List BatchRow
  pub batches_are : batches_told (s.now.trees 2) ≡ Some batches

pub tells : (ready : Bool) (s : State) (rows : List Row) → (if ready then rows_in s else None) ≡ Some rows → Tells ready s rows
tells false s rows e = absurd (cc)
tells true s rows e = elim (cases_Bool (s.is_clean && s.is_open)) [
  | inl shows ↦
      let both = and_parts s.is_clean s.is_open shows in
      let it = both_told s.now rows (rw shows at e) in
      record { ready = refl; clean = both.0; live = both.1; told = it.rows_are; batches = it.batches; batches_are = it.batches_are }
  | inr hidden ↦ absurd (let it : None ≡ Some rows = rw hidden at e in cc)
]

-- the batches that are told are those of the table
pub batches_as : (stored : List Stored) (batches others : List BatchRow) → batches_told stored ≡ Some batches → or_none (batches_told stored) ≡ others → batches_told stored ≡ Some others
batches_as stored batches others e same = e ∙ ap (λ bs. Some bs) (sym (ap or_none e) ∙ same)
