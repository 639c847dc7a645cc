-- What the query of one row finds of the rows that are told.
use Rattle.std.proofs.Common.{◌≡◌, ◌&&◌, ℤ, pos, neg_ℤ, ◌^◌, List, [], ◌∷◌, map, filter, take, true, Option, Some, None, inl, inr, refl, sym, ap, subst, ◌∙◌}
use Rattle.std.specs.Int.Signed.{le_z}
use Rattle.std.proofs.lemmas.Bool.{and_parts, cases_Bool}
use Rattle.sqlite.specs.declared.types.Value.TheVariants.{Null, Int, Text, Blob}
use Rattle.sqlite.specs.Order.{Row as Stored}
use Rattle.sqlite.specs.Store.{Ghosts}
use Rattle.sqlite.specs.Held.{state}
use Rattle.sqlite.specs.State.{State}
use Rattle.sqlite_trees.proofs.Doubt.{no_doubt}
use Rattle.dns_sqlite.specs.Tables.{seen, not_below, HasRow}
use Rattle.dns_sqlite.proofs.Finds.{first_is, not_below_is}
use Rattle.dns_keeper.specs.declared.row.Row.{Row}
use Rattle.dns_keeper.specs.declared.batch_row.BatchRow.{BatchRow}
use Rattle.dns_keeper.specs.Rows.{first_of, first_from, is_ascending}
use Rattle.dns_keeper.specs.Keeping.{TellsAscending, IsRowFrom, IsFirstRow}
use Rattle.dns_sqlite.specs.Reads.{ReadsAs}
use Rattle.dns_journal.specs.Reads.{FirstReadsAs}
use Rattle.dns_journal.specs.Stored.{IsStoredFrom}
use Rattle.dns_journal.specs.Pages.{IsStoredIn}
use Rattle.dns_journal.specs.Told.{View, is_signed, row_of, rows_of, if_ascending, told, batches_told, where_batches, rows_told, rows_in, told_rows}
use Rattle.dns_sqlite.proofs.Pages.{ge_is}
use Rattle.dns_journal.proofs.Order.{row_id, split, told_is}
use Rattle.dns_journal.proofs.Telling.{both_told}

-- a row as the query shows it
abbrev pub shown_row : Row → Stored
shown_row r = Int r.id ∷ Int r.client ∷ Int r.serial ∷ Text r.stamp ∷ Blob r.bytes ∷ []

-- the query found this row, or none
abbrev IsFound : Option Row → List Stored → Type 0
IsFound None found = found ≡ []
IsFound (Some r) found = found ≡ shown_row r ∷ []

pub row_shown : (s : Stored) (r : Row) → row_of s ≡ Some r → ((seen s).1 ≡ shown_row r) × (is_signed r.id ≡ true)
row_shown (Int id ∷ Null ∷ Int client ∷ Int serial ∷ Text stamp ∷ Blob bytes ∷ []) r e = elim (cases_Bool (is_signed id)) [
  | inl within ↦
      let it : Some (record { id = id; client = client; serial = serial; stamp = stamp; bytes = bytes }) ≡ Some r = rw within at e in
      (ap (λ (o : Option Row). shown_or o) it, let same : id ≡ r.id = ap (λ (o : Option Row). id_or id o) it in rw (← same) within)
  | inr outside ↦ absurd (let it : None ≡ Some r = rw outside at e in cc)
]
  where
    shown_or : Option Row → Stored
    shown_or None = []
    shown_or (Some r) = shown_row r

    id_or : ℤ → Option Row → ℤ
    id_or id None = id
    id_or id (Some r) = r.id
row_shown _ r e = absurd (cc)

rows_found : (id : ℤ) (stored : List Stored) (rows : List Row) → rows_of stored ≡ Some rows → IsFound (first_from id rows) (map (λ r. (seen r).1) (take 1 (filter (not_below id) stored)))
rows_found id [] rows e = let none : rows ≡ [] = cc in rw none refl
rows_found id (s ∷ ss) rows e =
    let it = split s ss rows e in
    let test : not_below id s ≡ le_z id it.first.id = not_below_is id it.first.id s (row_id s it.first it.reads) ∙ ge_is it.first.id id in
    elim (cases_Bool (le_z id it.first.id)) [
      | inl at ↦ rw (it.is, test, at) (ap (λ x. x ∷ []) (row_shown s it.first it.reads).0)
      | inr below ↦ rw (it.is, test, below) (rows_found id ss it.rest it.more)
    ]

-- The query finds the first told row whose id is not below.
found_told : (id : ℤ) (stored found : List Stored) (rows : List Row) → told stored ≡ Some rows → HasRow id stored found → IsFound (first_from id rows) found
found_told id stored found rows e h =
    let t = told_is stored rows e in
    rw (first_is id stored found t.keyed h) (rows_found id stored rows t.reads)

same_row : (l m : Row) → ReadsAs (shown_row l) m → m ≡ l
same_row l m h =
    let a : m.id ≡ l.id = let e = h.id in cc in
    let b : m.client ≡ l.client = let e = h.client in cc in
    let c : m.serial ≡ l.serial = let e = h.serial in cc in
    let d : m.stamp ≡ l.stamp = let e = h.stamp in cc in
    let f : m.bytes ≡ l.bytes = let e = h.bytes in cc in
    let it : ◌≡◌ {A = Row} (record { id = m.id; client = m.client; serial = m.serial; stamp = m.stamp; bytes = m.bytes }) (record { id = l.id; client = l.client; serial = l.serial; stamp = l.stamp; bytes = l.bytes }) = rw (a, b, c, d, f) refl in
    it

-- what is read is what was found
read_is : (o : Option Row) (found : List Stored) (r : Option Row) → IsFound o found → FirstReadsAs found r → r ≡ o
read_is None found None f h = refl
read_is None found (Some m) f h = absurd (let e : [] ≡ h.0 ∷ h.1 = sym f ∙ h.2 in cc)
read_is (Some l) found None f h = absurd (let e : shown_row l ∷ [] ≡ [] = sym f ∙ h in cc)
read_is (Some l) found (Some m) f h =
    let e : shown_row l ∷ [] ≡ h.0 ∷ h.1 = sym f ∙ h.2 in
    let row : h.0 ≡ shown_row l = cc in
    ap (λ x. Some x) (same_row l m (subst (λ r. ReadsAs r m) row h.3))

-- the row of a table that is asked for is the first of those that are told
pub stored_told : (id : ℤ) (table : List Stored) (rows : List Row) (r : Option Row) → told table ≡ Some rows → IsStoredFrom id table r → r ≡ first_from id rows
stored_told id table rows r e it = read_is (first_from id rows) it.0 r (found_told id table it.0 rows e it.1) it.2

row_from_is : (id : ℤ) (s : State) (r : Option Row) → IsStoredIn id s r → IsRowFrom (rows_in s) id r
row_from_is id s r stored = elim (cases_Bool (s.is_clean && s.is_open)) [
  | inl shows ↦
      let both = and_parts s.is_clean s.is_open shows in
      rw shows (go (stored (no_doubt s.is_clean both.0)) (rows_told s.now) refl)
  | inr hidden ↦ rw hidden tt
]
  where
    go : IsStoredFrom id (s.now.trees 1) r → (o : Option (List Row)) → rows_told s.now ≡ o → IsRowFrom o id r
    go it None e = tt
    go it (Some rows) e = stored_told id (s.now.trees 1) rows r (both_told s.now rows e).rows_are it

-- what is stored is what a journal tells
pub row_told : {S : Type 0} (g : Ghosts S) (j : View S) (id : ℤ) (r : Option Row) → IsStoredIn id (state g j.conn) r → IsRowFrom (told_rows g j) id r
row_told g j id r stored = elim (cases_Bool j.is_ready) [
  | inl current ↦ rw current (row_from_is id (state g j.conn) r stored)
  | inr other ↦ rw other tt
]

-- ---- what is told ascends

ascends : (o : Option (List Row)) → TellsAscending (if_ascending o)
ascends None = tt
ascends (Some rows) = elim (cases_Bool (is_ascending rows)) [ inl up ↦ rw up up | inr down ↦ rw down tt ]

ascends_where : (b : Option (List BatchRow)) (o : Option (List Row)) → TellsAscending (where_batches b (if_ascending o))
ascends_where None o = tt
ascends_where (Some batches) o = ascends o

pub told_ascends : {S : Type 0} (g : Ghosts S) (j : View S) → TellsAscending (told_rows g j)
told_ascends g j = elim (cases_Bool j.is_ready) [
  | inl current ↦
      let s = state g j.conn in
      elim (cases_Bool (s.is_clean && s.is_open)) [
        | inl shows ↦ rw (current, shows) (ascends_where (batches_told (s.now.trees 2)) (rows_of (s.now.trees 1)))
        | inr hidden ↦ rw (current, hidden) tt
      ]
  | inr other ↦ rw other tt
]

-- ---- from the least id on

first_signed : (stored : List Stored) (rows : List Row) → rows_of stored ≡ Some rows → first_from (neg_ℤ (pos (2 ^ 63))) rows ≡ first_of rows
first_signed [] rows e = cc
first_signed (s ∷ ss) rows e =
    let it = split s ss rows e in
    let within = and_parts (le_z (neg_ℤ (pos (2 ^ 63))) it.first.id) _ (row_shown s it.first it.reads).1 in
    rw (it.is, within.0) refl

first_told : (o : Option (List Row)) (r : Option Row) → ((rows : List Row) → o ≡ Some rows → first_from (neg_ℤ (pos (2 ^ 63))) rows ≡ first_of rows) → IsRowFrom o (neg_ℤ (pos (2 ^ 63))) r → IsFirstRow o r
first_told None r h is = tt
first_told (Some rows) r h is = is ∙ h rows refl

first_row_is : (s : State) (r : Option Row) → IsRowFrom (rows_in s) (neg_ℤ (pos (2 ^ 63))) r → IsFirstRow (rows_in s) r
first_row_is s r is = first_told (rows_in s) r shown_rows is
  where
    shown_rows : (rows : List Row) → rows_in s ≡ Some rows → first_from (neg_ℤ (pos (2 ^ 63))) rows ≡ first_of rows
    shown_rows rows e = elim (cases_Bool (s.is_clean && s.is_open)) [
      | inl shows ↦ first_signed (s.now.trees 1) rows (told_is (s.now.trees 1) rows (both_told s.now rows (rw shows at e)).rows_are).reads
      | inr hidden ↦ absurd (let it : None ≡ Some rows = rw hidden at e in cc)
    ]

pub first_row_told : {S : Type 0} (g : Ghosts S) (j : View S) (r : Option Row) → IsStoredIn (neg_ℤ (pos (2 ^ 63))) (state g j.conn) r → IsFirstRow (told_rows g j) r
first_row_told g j r stored = elim (cases_Bool j.is_ready) [
  | inl current ↦ rw current (first_row_is (state g j.conn) r (row_from_is (neg_ℤ (pos (2 ^ 63))) (state g j.conn) r stored))
  | inr other ↦ rw other tt
]
