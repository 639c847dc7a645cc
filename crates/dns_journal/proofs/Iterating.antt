-- How far the records of a journal are read.
use Rattle.std.proofs.Common.{◌≡◌, ◌+ℤ◌, ◌-◌, ◌^◌, ◌++◌, ◌≤◌, ℤ, pos, neg_ℤ, List, [], ◌∷◌, true, false, Option, Some, None, Result, Ok, Err, inl, inr, refl, sym, ap, subst, ◌∙◌, arith, append_assoc, append-nil, if◌then◌else◌}
use Rattle.std.specs.Int.Signed.{le_z}
use Rattle.std.proofs.lemmas.Int.{ints}
use Rattle.std.proofs.lemmas.Bool.{cases_Bool, and_parts}
use Rattle.sqlite.specs.Order.{Row as Stored}
use Rattle.sqlite.specs.Store.{Ghosts}
use Rattle.sqlite.specs.Held.{state}
use Rattle.dns_io.specs.Told.{Keeps}
use Rattle.dns_wire.specs.declared.record.Record.{Record}
use Rattle.dns_keeper.specs.declared.row.Row.{Row}
use Rattle.dns_keeper.specs.Rows.{first_from, is_below_first, is_ascending}
use Rattle.dns_keeper.specs.Keeping.{TellsAscending}
use Rattle.dns_keeper.proofs.KeptBatches.{keeps_batches_same, keeps_batches_then}
use Rattle.dns_sqlite.specs.Versions.{current_version}
use Rattle.dns_journal.specs.Keepers.{journal_keeper}
use Rattle.dns_io.specs.Told.{one_more}
use Rattle.dns_journal.specs.declared.error.PersistenceError.{PersistenceError}
use Rattle.dns_journal.specs.declared.error.PersistenceError.TheVariants.{Recovery, Sqlite, OutOfMemory}
use Rattle.dns_journal.specs.declared.error.RecoveryKind.TheVariants.{NoRecord}
use Rattle.dns_journal.specs.Counting.{CountsAs}
use Rattle.dns_journal.specs.Selects.{WasRead, Selects, SelectsAll}
use Rattle.dns_journal.specs.Told.{View, rows_of, told_rows, IsUnready}
use Rattle.sqlite.specs.State.{State, HasCleanDisk}
use Rattle.sqlite_trees.specs.View.{doubt}
use Rattle.dns_journal.specs.Stored.{KeepsDatabase, IsStoredFrom, AreStored, ShowsRecord, ShowsNoRecord, ShowsRecords, HasStoredNoRecord}
use Rattle.sqlite.specs.Effect.{Database}
use Rattle.dns_journal.specs.Records.{IsNoRecord, IsRecordOf, IsRecordFrom, IsNoRecordFrom, AreRecords, AreRecordsOf, HasNoRecord, TellsNoRecord}
use Rattle.dns_journal.proofs.Order.{split, told_is}
use Rattle.dns_journal.proofs.Telling.{tells}
use Rattle.dns_journal.proofs.Reading.{row_shown, told_ascends}

-- the rows from the first one on whose id is not below this one
abbrev pub rows_from : ℤ → List Row → List Row
rows_from id [] = []
rows_from id (r ∷ rs) = if le_z id r.id then r ∷ rs else rows_from id rs

-- the records of the told rows below this id were read
abbrev pub IsReadTo : Option (List Row) → ℤ → List Record → Type 0
IsReadTo None from records = Unit {0}
IsReadTo (Some rows) from records = (more : List Record) → AreRecords (rows_from from rows) more → AreRecords rows (records ++ more)

at_least : (id : ℤ) (rows : List Row) (row : Row) → first_from id rows ≡ Some row → le_z id row.id ≡ true
at_least id [] row e = absurd (cc)
at_least id (r ∷ rs) row e = elim (cases_Bool (le_z id r.id)) [
  | inl at ↦ let both : Some r ≡ Some row = rw at at e in let same : r ≡ row = cc in subst (λ (x : Row). le_z id x.id ≡ true) same at
  | inr below ↦ at_least id rs row (rw below at e)
]

after_first : (r : Row) (rs : List Row) → is_below_first r.id rs ≡ true → rows_from (r.id +ℤ pos 1) rs ≡ rs
after_first r [] e = refl
after_first r (t ∷ rs) e =
    let step : le_z t.id r.id ≡ false = grind arith in
    let next : le_z (r.id +ℤ pos 1) t.id ≡ true = grind (arith, ints) in
    rw next refl

pub from_next : (id : ℤ) (rows : List Row) (row : Row) → is_ascending rows ≡ true → first_from id rows ≡ Some row → rows_from id rows ≡ row ∷ rows_from (row.id +ℤ pos 1) rows
from_next id [] row up e = absurd (cc)
from_next id (r ∷ rs) row up e =
    let next : is_below_first r.id rs ≡ true = grind arith in
    let tail : is_ascending rs ≡ true = grind arith in
    elim (cases_Bool (le_z id r.id)) [
      | inl at ↦
          let both : Some r ≡ Some row = rw at at e in
          let same : r ≡ row = cc in
          let past : le_z (r.id +ℤ pos 1) r.id ≡ false = grind (arith, ints) in
          subst (λ (x : Row). rows_from id (r ∷ rs) ≡ x ∷ rows_from (x.id +ℤ pos 1) (r ∷ rs)) same (rw (at, past, after_first r rs next) refl)
      | inr below ↦
          let rest : first_from id rs ≡ Some row = rw below at e in
          let least = at_least id rs row rest in
          let past : le_z (row.id +ℤ pos 1) r.id ≡ false = grind (arith, ints) in
          rw (below, past) (from_next id rs row tail rest)
    ]

pub none_left : (id : ℤ) (rows : List Row) → first_from id rows ≡ None → rows_from id rows ≡ []
none_left id [] e = refl
none_left id (r ∷ rs) e = elim (cases_Bool (le_z id r.id)) [
  | inl at ↦ absurd (let it : Some r ≡ None = rw at at e in cc)
  | inr below ↦ rw below (none_left id rs (rw below at e))
]

-- one more row was read
pub read_more : (before now : Option (List Row)) (from id : ℤ) (records : List Record) (r : Record) → TellsAscending now → Keeps before now → IsRecordFrom now from (Some (id, r)) → IsReadTo before from records
    → IsReadTo now (id +ℤ pos 1) (records ++ r ∷ [])
read_more before None from id records r up kept one read = tt
read_more None (Some rows) from id records r up kept one read = absurd kept
read_more (Some was) (Some rows) from id records r up kept one read = go (first_from from rows) refl one
  where
    go : (o : Option Row) → first_from from rows ≡ o → IsRecordOf o (Some (id, r)) → IsReadTo (Some rows) (id +ℤ pos 1) (records ++ r ∷ [])
    go None e is = absurd is
    go (Some row) e is = λ more rest.
        let here = from_next from rows row up e in
        let tail : AreRecords (rows_from (row.id +ℤ pos 1) rows) more = subst (λ n. AreRecords (rows_from (n +ℤ pos 1) rows) more) is.0 rest in
        let all : AreRecords (rows_from from rows) (r ∷ more) = subst (λ rs. AreRecords rs (r ∷ more)) (sym here) (is.1, tail) in
        let so : AreRecords rows (records ++ r ∷ more) = subst (λ rs. AreRecords rs (records ++ r ∷ more)) (sym kept) (read (r ∷ more) (subst (λ rs. AreRecords (rows_from from rs) (r ∷ more)) kept all)) in
        subst (AreRecords rows) (sym (append_assoc records (r ∷ []) more)) so

-- no row is left
pub read_end : (before now : Option (List Row)) (from : ℤ) (records : List Record) → Keeps before now → IsRecordFrom now from None → IsReadTo before from records → AreRecordsOf now records
read_end before None from records kept none read = tt
read_end None (Some rows) from records kept none read = absurd kept
read_end (Some was) (Some rows) from records kept none read = go (first_from from rows) refl none
  where
    go : (o : Option Row) → first_from from rows ≡ o → IsRecordOf o None → AreRecords rows records
    go (Some row) e is = absurd is
    go None e is =
        let empty : rows_from from was ≡ [] = subst (λ rs. rows_from from rs ≡ []) kept (none_left from rows e) in
        let all : AreRecords was (records ++ []) = read [] (subst (λ rs. AreRecords rs []) (sym empty) tt) in
        subst (λ rs. AreRecords rs records) (sym kept) (subst (AreRecords was) (append-nil records) all)

pub all_from : (stored : List Stored) (rows : List Row) → rows_of stored ≡ Some rows → rows_from (neg_ℤ (pos (2 ^ 63))) rows ≡ rows
all_from [] rows e = let none : rows ≡ [] = cc in rw none refl
all_from (s ∷ ss) rows e =
    let it = split s ss rows e in
    let within = and_parts (le_z (neg_ℤ (pos (2 ^ 63))) it.first.id) _ (row_shown s it.first it.reads).1 in
    rw (it.is, within.0) refl

pub none_from : (stored : List Stored) (rows : List Row) → rows_of stored ≡ Some rows → rows_from (pos (2 ^ 63 - 1) +ℤ pos 1) rows ≡ []
none_from [] rows e = let none : rows ≡ [] = cc in rw none refl
none_from (s ∷ ss) rows e =
    let it = split s ss rows e in
    let within = and_parts (le_z (neg_ℤ (pos (2 ^ 63))) it.first.id) (le_z it.first.id (pos (2 ^ 63 - 1))) (row_shown s it.first it.reads).1 in
    let below : le_z (pos (2 ^ 63 - 1) +ℤ pos 1) it.first.id ≡ false = let least = within.1 in grind (arith, ints) in
    rw (it.is, below) (none_from ss it.rest it.more)

-- at the start no row was read, and after the greatest id all were
module _ {S : Type 0} (g : Ghosts S) (j : View S) where
  pub read_none : IsReadTo (told_rows g j) (neg_ℤ (pos (2 ^ 63))) []
  read_none = go (told_rows g j) refl
    where
      go : (o : Option (List Row)) → told_rows g j ≡ o → IsReadTo o (neg_ℤ (pos (2 ^ 63))) []
      go None e = tt
      go (Some rows) e = λ more all.
          let it = tells j.is_ready (state g j.conn) rows e in
          subst (λ rs. AreRecords rs more) (all_from ((state g j.conn).now.trees 1) rows (told_is ((state g j.conn).now.trees 1) rows it.told).reads) all

  pub read_all : (records : List Record) → IsReadTo (told_rows g j) (pos (2 ^ 63 - 1) +ℤ pos 1) records → AreRecordsOf (told_rows g j) records
  read_all records = go (told_rows g j) refl
    where
      go : (o : Option (List Row)) → told_rows g j ≡ o → IsReadTo o (pos (2 ^ 63 - 1) +ℤ pos 1) records → AreRecordsOf o records
      go None e read = tt
      go (Some rows) e read =
          let it = tells j.is_ready (state g j.conn) rows e in
          let all : AreRecords rows (records ++ []) = read [] (subst (λ rs. AreRecords rs []) (sym (none_from ((state g j.conn).now.trees 1) rows (told_is ((state g j.conn).now.trees 1) rows it.told).reads)) tt) in
          subst (AreRecords rows) (append-nil records) all

has_none : (id : ℤ) (rows : List Row) (row : Row) → first_from id rows ≡ Some row → IsNoRecord row → HasNoRecord rows
has_none id [] row e none = absurd (cc)
has_none id (r ∷ rs) row e none = elim (cases_Bool (le_z id r.id)) [
  | inl at ↦ let both : Some r ≡ Some row = rw at at e in let same : r ≡ row = cc in inl (subst IsNoRecord (sym same) none)
  | inr below ↦ inr (has_none id rs row (rw below at e) none)
]

pub tells_no_record : (o : Option (List Row)) (id : ℤ) → IsNoRecordFrom o id → TellsNoRecord o
tells_no_record None id h = tt
tells_no_record (Some rows) id h = has_none id rows h.0 h.1 h.2

pub keeps_then : (a b c : Option (List Row)) → Keeps a b → Keeps b c → Keeps a c
keeps_then a b None h k = tt
keeps_then a None (Some rows) h k = absurd k
keeps_then None (Some was) (Some rows) h k = absurd h
keeps_then (Some first) (Some was) (Some rows) h k = k ∙ h

pub keeps_same : (o : Option (List Row)) → Keeps o o
keeps_same None = tt
keeps_same (Some rows) = refl

-- ---- of the rows of the table, whether or not all of them read

-- the records of the rows below this id were read, and the database is as it was
abbrev pub IsShownTo : State → State → ℤ → List Record → Type 0
IsShownTo first now from records = HasCleanDisk now → (now.now ≡ first.now) × ((more : List Record) → AreStored from (first.now.trees 1) more → AreStored (neg_ℤ (pos (2 ^ 63))) (first.now.trees 1) (records ++ more))

keeps_database_then : (first mid now : State) → doubt mid.is_clean ≤ doubt now.is_clean → KeepsDatabase first mid → KeepsDatabase mid now → KeepsDatabase first now
keeps_database_then first mid now falls was is = λ clean live.
    let early : HasCleanDisk mid = omega (arith, falls, clean) in
    let late = is clean live in
    let before = was early late.0 in
    (before.0, late.1 ∙ before.1)

-- a row that has this id and this record
row_of_record : (from : ℤ) (table : List Stored) (id : ℤ) (r : Record) (more : List Record) (row : Option Row) → IsStoredFrom from table row → IsRecordOf row (Some (id, r)) → AreStored (id +ℤ pos 1) table more → AreStored from table (r ∷ more)
row_of_record from table id r more None at is rest = absurd is
row_of_record from table id r more (Some row) at is rest = (row, at, is.1, subst (λ n. AreStored (n +ℤ pos 1) table more) is.0 rest)

-- one more row was read
shown_more : (first mid now : State) (from id : ℤ) (records : List Record) (r : Record) → doubt mid.is_clean ≤ doubt now.is_clean → IsShownTo first mid from records → ShowsRecord from mid now (Some (id, r))
    → IsShownTo first now (id +ℤ pos 1) (records ++ r ∷ [])
shown_more first mid now from id records r falls was is = λ clean.
    let early : HasCleanDisk mid = omega (arith, falls, clean) in
    let before = was early in
    let it = is clean in
    let table : mid.now.trees 1 ≡ first.now.trees 1 = ap (λ (d : Database). d.trees 1) before.0 in
    let at = subst (λ t. IsStoredFrom from t it.1) table it.2 in
    (it.0 ∙ before.0, λ more all. subst (AreStored (neg_ℤ (pos (2 ^ 63))) (first.now.trees 1)) (sym (append_assoc records (r ∷ []) more)) (before.1 (r ∷ more) (row_of_record from (first.now.trees 1) id r more it.1 at it.3 all)))

-- no row is left
shown_end : (first mid now : State) (from : ℤ) (records : List Record) → doubt mid.is_clean ≤ doubt now.is_clean → IsShownTo first mid from records → ShowsRecord from mid now None → ShowsRecords first now records
shown_end first mid now from records falls was is = λ clean.
    let early : HasCleanDisk mid = omega (arith, falls, clean) in
    let before = was early in
    let it = is clean in
    let table : mid.now.trees 1 ≡ first.now.trees 1 = ap (λ (d : Database). d.trees 1) before.0 in
    let at = subst (λ t. IsStoredFrom from t None) table (none_of it.1 it.2 it.3) in
    (it.0 ∙ before.0, subst (AreStored (neg_ℤ (pos (2 ^ 63))) (first.now.trees 1)) (append-nil records) (before.1 [] (inr at)))
  where
    none_of : (row : Option Row) → IsStoredFrom from (mid.now.trees 1) row → IsRecordOf row None → IsStoredFrom from (mid.now.trees 1) None
    none_of None at is = at
    none_of (Some row) at is = absurd is

-- no id is left
pub shown_all : (first now : State) (from : ℤ) (records : List Record) → from ≡ pos (2 ^ 63 - 1) +ℤ pos 1 → IsShownTo first now from records → ShowsRecords first now records
shown_all first now from records last was = λ clean.
    let it = was clean in
    (it.0, subst (AreStored (neg_ℤ (pos (2 ^ 63))) (first.now.trees 1)) (append-nil records) (it.1 [] (inl last)))

-- the row that was asked for reads, but is no record
stored_no_record : (first mid now : State) (from : ℤ) (records : List Record) → doubt mid.is_clean ≤ doubt now.is_clean → IsShownTo first mid from records → ShowsNoRecord from mid now → HasStoredNoRecord first now
stored_no_record first mid now from records falls was is = λ clean.
    let early : HasCleanDisk mid = omega (arith, falls, clean) in
    let before = was early in
    let it = is clean in
    let table : mid.now.trees 1 ≡ first.now.trees 1 = ap (λ (d : Database). d.trees 1) before.0 in
    (from, it.0 ∙ before.0, it.1, subst (λ t. IsStoredFrom from t (Some it.1)) table it.2, it.3)

-- what a loop keeps that read the rows below this id
pub record Read {S : Type 0} (g : Ghosts S) (first now : View S) (from : ℤ) (records : List Record) : Type 0 where
  pub was : WasRead g first now
  pub counted : now.faults ≡ first.faults
  pub read : IsReadTo (told_rows g now) from records
  pub shown : IsShownTo (state g first.conn) (state g now.conn) from records

-- a journal that was not touched was only read
pub was_read_none : {S : Type 0} (g : Ghosts S) (j : View S) → WasRead g j j
was_read_none g j = record {
  kept = keeps_same (told_rows g j);
  batches = keeps_batches_same ((journal_keeper g).told j);
  untouched = λ clean live. (live, refl);
  left = λ clean db may. may;
  falls = omega arith;
  mode = λ alone. alone;
  version = refl;
  ready = refl;
}

-- what was read twice was only read
pub was_read_then : {S : Type 0} (g : Ghosts S) (first mid now : View S) → WasRead g first mid → WasRead g mid now → WasRead g first now
was_read_then g first mid now was is = record {
  kept = keeps_then (told_rows g first) (told_rows g mid) (told_rows g now) was.kept is.kept;
  batches = keeps_batches_then ((journal_keeper g).told first) ((journal_keeper g).told mid) ((journal_keeper g).told now) was.batches is.batches;
  untouched = keeps_database_then (state g first.conn) (state g mid.conn) (state g now.conn) is.falls was.untouched is.untouched;
  left = λ clean db may. let early : HasCleanDisk (state g mid.conn) = omega (arith, is.falls, clean) in was.left early db (is.left clean db may);
  falls = let a = was.falls in omega (arith, a, is.falls);
  mode = λ alone. is.mode (was.mode alone);
  version = is.version ∙ was.version;
  ready = is.ready ∙ was.ready;
}

pub begins : {S : Type 0} (g : Ghosts S) (j : View S) → Read g j j (neg_ℤ (pos (2 ^ 63))) []
begins g j = record {
  was = was_read_none g j;
  counted = refl;
  read = read_none g j;
  shown = λ clean. (refl, λ more all. all);
}

-- a row more
pub goes_on : {S : Type 0} (g : Ghosts S) (first mid now : View S) (from id : ℤ) (records : List Record) (r : Record) → Read g first mid from records → Selects g mid now from (Ok (Some (id, r)))
    → Read g first now (id +ℤ pos 1) (records ++ r ∷ [])
goes_on g first mid now from id records r was one = record {
  was = was_read_then g first mid now was.was one.read;
  counted = one.cause.counts ∙ was.counted;
  read = read_more (told_rows g mid) (told_rows g now) from id records r (told_ascends g now) one.read.kept one.found was.read;
  shown = shown_more (state g first.conn) (state g mid.conn) (state g now.conn) from id records r one.read.falls was.shown one.shown;
}

-- ---- how a loop ends

-- a version that is the current one, and calls that go to the connection
pub not_unready : {S : Type 0} {X : Type 0} (j : View S) → j.version ≡ current_version → j.is_ready ≡ true → IsUnready j → X
not_unready j current ready (inl other) = absurd (other current)
not_unready j current ready (inr none) = absurd (let it : true ≡ false = sym ready ∙ none in cc)

-- the calls of the journal do not go to the connection
pub all_unready : {S : Type 0} (g : Ghosts S) (old new : View S) → old.is_ready ≡ false → new ≡ record old { faults = one_more old.faults } → old.faults ≤ new.faults → SelectsAll g old new (Err Sqlite)
all_unready g old new unready counted later = subst (λ j. SelectsAll g old j (Err Sqlite)) (sym counted) (record {
  records = tt;
  recovery = λ is. absurd (cc);
  shown = tt;
  spoiled = λ is. absurd (cc);
  read = record { kept = keeps_same (told_rows g old); batches = keeps_batches_same ((journal_keeper g).told old); untouched = λ clean live. (live, refl); left = λ clean db may. may; falls = omega arith; mode = λ alone. alone; version = refl; ready = refl };
  named = tt;
  other = λ _. record { named = refl; counted = refl };
  cause = record { later = subst (λ j. old.faults ≤ j.faults) counted later; counts = omega arith };
})

module _ {S : Type 0} (g : Ghosts S) (first mid now : View S) (from : ℤ) (records : List Record) (was : Read g first mid from records) (current : first.version ≡ current_version) (ready : first.is_ready ≡ true) where
  -- all were read
  all_read : (was_read : WasRead g first now) → now.faults ≡ first.faults → AreRecordsOf (told_rows g now) records → ShowsRecords (state g first.conn) (state g now.conn) records → SelectsAll g first now (Ok records)
  all_read was_read calm told shown = record {
    records = told;
    recovery = λ is. absurd (cc);
    shown = shown;
    spoiled = λ is. absurd (cc);
    read = was_read;
    named = tt;
    other = not_unready first current ready;
    cause = record { later = omega (arith, calm); counts = calm };
  }

  -- no row is left
  pub ends : Selects g mid now from (Ok None) → SelectsAll g first now (Ok records)
  ends last =
      all_read (was_read_then g first mid now was.was last.read) (last.cause.counts ∙ was.counted) (read_end (told_rows g mid) (told_rows g now) from records last.read.kept last.found was.read)
      (shown_end (state g first.conn) (state g mid.conn) (state g now.conn) from records last.read.falls was.shown last.shown)

  -- no id is left
  pub ends_full : from ≡ pos (2 ^ 63 - 1) +ℤ pos 1 → SelectsAll g first mid (Ok records)
  ends_full full = record {
    records = read_all g mid records (subst (λ n. IsReadTo (told_rows g mid) n records) full was.read);
    recovery = λ is. absurd (cc);
    shown = shown_all (state g first.conn) (state g mid.conn) from records full was.shown;
    spoiled = λ is. absurd (cc);
    read = was.was;
    named = tt;
    other = not_unready first current ready;
    cause = record { later = let calm = was.counted in omega (arith, calm); counts = was.counted };
  }

  -- a row was refused
  pub breaks : (e : PersistenceError) → Selects g mid now from (Err e) → SelectsAll g first now (Err e)
  breaks e last = record {
    records = tt;
    recovery = λ is. tells_no_record (told_rows g now) from (last.recovery (ap (λ x. Err x) (same is)));
    shown = tt;
    spoiled = λ is. stored_no_record (state g first.conn) (state g mid.conn) (state g now.conn) from records last.read.falls was.shown (last.spoiled (ap (λ x. Err x) (same is)));
    read = was_read_then g first mid now was.was last.read;
    named = last.named;
    other = not_unready first current ready;
    cause = record { later = let calm = was.counted in let rises = last.cause.later in omega (arith, calm, rises); counts = subst (λ n. CountsAs n now.faults e) was.counted last.cause.counts };
  }
    where
      same : ◌≡◌ {A = Result (List Record) PersistenceError} (Err e) (Err (Recovery NoRecord)) → e ≡ Recovery NoRecord
      same is = cc

  -- memory was wanting
  pub wants : SelectsAll g first mid (Err OutOfMemory)
  wants = record {
    records = tt;
    recovery = λ is. absurd (cc);
    shown = tt;
    spoiled = λ is. absurd (cc);
    read = was.was;
    named = tt;
    other = not_unready first current ready;
    cause = record { later = let calm = was.counted in omega (arith, calm); counts = was.counted };
  }
