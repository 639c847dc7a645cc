-- What a table of batches reads as, and what it read as before a batch was put.
use Rattle.std.proofs.Common.{◌≡◌, List, [], ◌∷◌, map, true, Option, Some, None, inl, inr, refl, ap, subst, ◌∙◌}
use Rattle.std.specs.List.{AllByRecursion}
use Rattle.std.specs.Int.Signed.{le_z}
use Rattle.std.proofs.lemmas.Bool.{cases_Bool}
use Rattle.sqlite.specs.declared.types.Value.TheVariants.{Null, Int}
use Rattle.sqlite.specs.Order.{Row as Stored}
use Rattle.dns_keeper.specs.declared.row.Row.{Row}
use Rattle.dns_keeper.specs.declared.batch_row.BatchRow.{BatchRow}
use Rattle.dns_keeper.specs.Rows.{AreAscending}
use Rattle.dns_keeper.specs.Batches.{is_by_first, AreByFirst, put_batch, are_alike, begun_with, runs_of}
use Rattle.dns_keeper.proofs.RunsAscend.{runs_by_first}
use Rattle.dns_sqlite.specs.Tables.{stored_batch}
use Rattle.dns_sqlite.specs.Migration.{AreBatchesPut}
use Rattle.dns_sqlite.proofs.BatchRows.{put_in_order, was_in_order}
use Rattle.dns_journal.specs.Told.{is_signed, joined, batch_of, batches_of, batches_told, if_by_first}
use Rattle.dns_journal.specs.Told.{rows_of}
use Rattle.dns_journal.proofs.Order.{split, row_signed}

-- each begins at a number of 64 bits
abbrev pub AreSigned : List BatchRow → Type 0
AreSigned batches = AllByRecursion (λ (b : BatchRow). is_signed b.first ≡ true) batches

pub record ReadsInOrder (stored : List Stored) (batches : List BatchRow) : Type 0 where
  pub is : stored ≡ map stored_batch batches
  pub by_first : AreByFirst batches
  pub signed : AreSigned batches

-- ---- one batch

pub record ReadsOne (s : Stored) (b : BatchRow) : Type 0 where
  pub is : s ≡ stored_batch b
  pub signed : is_signed b.first ≡ true

reads_one : (s : Stored) (b : BatchRow) → batch_of s ≡ Some b → ReadsOne s b
reads_one (Int first ∷ Null ∷ Int count ∷ []) b e = elim (cases_Bool (is_signed first)) [
  | inl within ↦
      let it : Some (record { first = first; count = count }) ≡ Some b = rw within at e in
      let same : ◌≡◌ {A = BatchRow} (record { first = first; count = count }) b = cc in
      record { is = ap stored_batch same; signed = subst (λ (x : BatchRow). is_signed x.first ≡ true) same within }
  | inr outside ↦ absurd (let it : None ≡ Some b = rw outside at e in cc)
]
reads_one _ b e = absurd (cc)

one_reads : (b : BatchRow) → is_signed b.first ≡ true → batch_of (stored_batch b) ≡ Some b
one_reads b within = rw within refl

-- ---- a table

pub record SplitBatch (s : Stored) (ss : List Stored) (batches : List BatchRow) : Type 0 where
  pub first : BatchRow
  pub rest : List BatchRow
  pub reads : batch_of s ≡ Some first
  pub more : batches_of ss ≡ Some rest
  pub is : batches ≡ first ∷ rest

split_batch : (s : Stored) (ss : List Stored) (batches : List BatchRow) → batches_of (s ∷ ss) ≡ Some batches → SplitBatch s ss batches
split_batch s ss batches = go (batch_of s) refl (batches_of ss) refl
  where
    go : (a : Option BatchRow) → batch_of s ≡ a → (b : Option (List BatchRow)) → batches_of ss ≡ b → joined a b ≡ Some batches → SplitBatch s ss batches
    go None p b q e = absurd (cc)
    go (Some first) p None q e = absurd (cc)
    go (Some first) p (Some more) q e = record { first = first; rest = more; reads = p; more = q; is = cc }

stored_are : (stored : List Stored) (batches : List BatchRow) → batches_of stored ≡ Some batches → (stored ≡ map stored_batch batches) × AreSigned batches
stored_are [] batches e = let none : batches ≡ [] = cc in rw none (refl, tt)
stored_are (s ∷ ss) batches e =
    let it = split_batch s ss batches e in
    let one = reads_one s it.first it.reads in
    let more = stored_are ss it.rest it.more in
    rw it.is (ap (λ x. x ∷ ss) one.is ∙ ap (λ xs. stored_batch it.first ∷ xs) more.0, (one.signed, more.1))

are_stored : (batches : List BatchRow) → AreSigned batches → batches_of (map stored_batch batches) ≡ Some batches
are_stored [] signed = refl
are_stored (b ∷ batches) signed = rw (one_reads b signed.0, are_stored batches signed.1) refl

pub batches_are : (stored : List Stored) (batches : List BatchRow) → batches_told stored ≡ Some batches → ReadsInOrder stored batches
batches_are stored batches = go (batches_of stored) refl
  where
    go : (o : Option (List BatchRow)) → batches_of stored ≡ o → if_by_first o ≡ Some batches → ReadsInOrder stored batches
    go None q e = absurd (cc)
    go (Some all) q e = elim (cases_Bool (is_by_first all)) [
      | inl up ↦
          let both : Some all ≡ Some batches = rw up at e in
          let same : all ≡ batches = cc in
          let it = stored_are stored batches (q ∙ both) in
          record { is = it.0; by_first = subst (λ bs. is_by_first bs ≡ true) same up; signed = it.1 }
      | inr down ↦ absurd (let it : None ≡ Some batches = rw down at e in cc)
    ]

pub are_batches : (stored : List Stored) (batches : List BatchRow) → ReadsInOrder stored batches → batches_told stored ≡ Some batches
are_batches stored batches it = rw (it.is, are_stored batches it.signed, it.by_first) refl

-- ---- backward

signed_put : (b : BatchRow) (batches : List BatchRow) → AreSigned (put_batch b batches) → AreSigned batches
signed_put b [] signed = tt
signed_put b (c ∷ batches) signed = elim (cases_Bool (le_z b.first c.first)) [
  | inl front ↦ let it : AreSigned (b ∷ c ∷ batches) = rw front at signed in it.1
  | inr back ↦ let it : AreSigned (c ∷ put_batch b batches) = rw back at signed in (it.0, signed_put b batches it.1)
]

pub record WereTold (b : BatchRow) (was : List Stored) (after : List BatchRow) : Type 0 where
  pub before : List BatchRow
  pub is : batches_told was ≡ Some before
  pub put : after ≡ put_batch b before

-- What is told after a batch was put was told before it.
pub batches_before : (b : BatchRow) (was is : List Stored) (after : List BatchRow) → AreBatchesPut (b ∷ []) was is → batches_told is ≡ Some after → WereTold b was after
batches_before b was is after put e =
    let now = batches_are is after e in
    let it = was_in_order b was is after put now.is now.by_first in
    record {
      before = it.batches;
      is = are_batches was it.batches (record { is = it.is; by_first = it.by_first; signed = signed_put b it.batches (subst AreSigned it.put now.signed) });
      put = it.put;
    }

-- ---- the runs of rows

signed_begun : (r : Row) (rows : List Row) (batches : List BatchRow) → is_signed r.id ≡ true → AreSigned batches → AreSigned (begun_with r rows batches)
signed_begun r [] [] one all = (one, tt)
signed_begun r (s ∷ rows) [] one all = (one, tt)
signed_begun r [] (b ∷ batches) one all = (one, tt)
signed_begun r (s ∷ rows) (b ∷ batches) one all = elim (cases_Bool (are_alike r s)) [
  | inl like ↦ rw like (one, all.1)
  | inr other ↦ rw other (one, all)
]

signed_runs : (stored : List Stored) (rows : List Row) → rows_of stored ≡ Some rows → AreSigned (runs_of rows)
signed_runs [] rows e = let none : rows ≡ [] = cc in rw none tt
signed_runs (s ∷ ss) rows e =
    let it = split s ss rows e in
    rw it.is (signed_begun it.first it.rest (runs_of it.rest) (row_signed s it.first it.reads) (signed_runs ss it.rest it.more))

-- the runs of rows that read, put into an empty table, are what it reads as
pub runs_told : (stored : List Stored) (rows : List Row) (is : List Stored) → rows_of stored ≡ Some rows → AreAscending rows → AreBatchesPut (runs_of rows) [] is → batches_told is ≡ Some (runs_of rows)
runs_told stored rows is reads up put =
    let first = runs_by_first rows up in
    are_batches is (runs_of rows) (record { is = put_in_order (runs_of rows) is first put; by_first = first; signed = signed_runs stored rows reads })

-- an empty table has none
pub none_told : (is : List Stored) → AreBatchesPut [] [] is → batches_told is ≡ Some []
none_told is put = rw put refl
