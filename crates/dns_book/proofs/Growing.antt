-- A book whose store was handed an update.
use Rattle.std.proofs.Common.{◌≡◌, ℕ, ◌+◌, ◌<◌, List, length, Some, None, true, false, Ok, Err, inl, inr, refl, sym, ap, ◌∙◌, subst, arith}
use Rattle.std.specs.Prelude.{Bool}
use Rattle.dns_wire.specs.declared.record.Record.{Record}
use Rattle.dns_keeper.specs.declared.keeper.KeepFault.{KeepFault}
use Rattle.dns_keeper.specs.declared.keeper.KeepFault.TheVariants as keep
use Rattle.dns_keeper.specs.Keeping.{KeeperOf}
use Rattle.dns_update.specs.Modified.{modified_of}
use Rattle.dns_update.specs.declared.batch.Batch.{Batch}
use Rattle.dns_update.specs.declared.batch.Modified.{Modified}
use Rattle.dns_counts.specs.Counters.{changed}
use Rattle.dns_store.specs.Store.{StoreOf, stored_with, IsGrown, Stores}
use Rattle.dns_store.proofs.ToldBatches.{batches_same}
use Rattle.dns_io.proofs.ToldContents.{Keeps-same}
use Rattle.dns_book.specs.declared.ask.Ask.{Ask}
use Rattle.dns_book.specs.Counted.{counts_with}
use Rattle.dns_book.specs.Book.{SeenOf, seen, IsLeft, receipt_of, grown, Ends, idle, journalled, failed}
use Rattle.dns_book.specs.Carrying.{Journals}

-- a book that nothing was done to
pub IsLeft-same : {K : Type 0} (keeper : KeeperOf K) (book : SeenOf K) → IsLeft keeper book book
IsLeft-same keeper book = record { same = refl; kept = Keeps-same (keeper.told book.keeper).rows; batches = batches_same (keeper.told book.keeper); uncounted = refl }

module _ {K : Type 0} (keeper : KeeperOf K) (store after : StoreOf K) (allow_update : Bool) (counts : List (List ℕ)) (ask : Ask) (batch : List Record) where
  -- the keeper failed, or memory ran out
  pub journals_refused : (fault : KeepFault) → Stores keeper store ask.client ask.at batch (Err fault) after
      → Journals keeper (seen store allow_update counts) ask batch (Err fault) (seen after allow_update counts)
  journals_refused keep.Failed is =
      subst (λ (s : StoreOf K). Ends keeper (seen store allow_update counts) ask batch true None (seen s allow_update counts)) (sym is.same)
      (failed is.some after.keeper is.kept is.batches is.later is.rose)
  journals_refused keep.OutOfMemory is =
      record { same = ap (λ (s : StoreOf K). seen s allow_update counts) is.same; kept = is.kept; batches = is.batches; uncounted = is.uncounted }

  -- an update without a batch changed nothing
  pub journals_idle : (done : Batch) → length batch ≡ 0 → Stores keeper store ask.client ask.at batch (Ok done) after
      → Ends keeper (seen store allow_update counts) ask batch false None (seen after allow_update counts)
  journals_idle done none (inl same) =
      subst (λ (s : StoreOf K). Ends keeper (seen store allow_update counts) ask batch false None (seen s allow_update counts)) (sym same.1) (idle none)
  journals_idle done none (inr more) = absurd (let some = more.some in omega (arith, none, some))

  grown_of : (done : Batch) → 0 < length batch → Stores keeper store ask.client ask.at batch (Ok done) after → IsGrown keeper store ask.client ask.at batch after
  grown_of done some (inl same) = absurd (let none = same.0 in omega (arith, some, none))
  grown_of done some (inr more) = more

  -- how many rows there are behind one with a batch
  pub more_rows : (done : Batch) → 0 < length batch → Stores keeper store ask.client ask.at batch (Ok done) after → after.row_count ≡ store.row_count + length batch
  more_rows done some is = ap (λ (s : StoreOf K). s.row_count) (grown_of done some is).is

  -- its batch came into the journal, the zone and the counts
  pub journals_grown : (done : Batch) (first count size : ℕ) (told : List (List ℕ)) → 0 < length batch → Stores keeper store ask.client ask.at batch (Ok done) after
      → done.records ≡ batch → done.modified ≡ modified_of store.zone.origin store.zone.records done.records → first ≡ store.row_count + 1 → count ≡ length batch → size ≡ length after.zone.records
      → told ≡ changed (record { added = done.modified.added; deleted = done.modified.deleted; updated = done.modified.updated; records = size }) counts
      → Ends keeper (seen store allow_update counts) ask batch false (Some (record { client = ask.client; first = first; count = count })) (seen after allow_update told)
  journals_grown done first count size told some is records modified placed counted sized changes =
      let more : IsGrown keeper store ask.client ask.at batch after = grown_of done some is in
      let before : SeenOf K = seen store allow_update counts in
      let modified_now : done.modified ≡ modified_of store.zone.origin store.zone.records batch = modified ∙ ap (modified_of store.zone.origin store.zone.records) records in
      let told_now : told ≡ counts_with store.zone batch counts =
      changes
      ∙ ap (λ (m : Modified). changed (record { added = m.added; deleted = m.deleted; updated = m.updated; records = size }) counts) modified_now
      ∙ ap (λ (n : ℕ). changed (record { added = (modified_of store.zone.origin store.zone.records batch).added; deleted = (modified_of store.zone.origin store.zone.records batch).deleted; updated = (modified_of store.zone.origin store.zone.records batch).updated; records = n }) counts)
      (sized ∙ ap (λ (s : StoreOf K). length s.zone.records) more.is)
      in
      let book_now : seen after allow_update told ≡ grown before after.keeper batch =
      ap (λ (s : StoreOf K). seen s allow_update told) more.is ∙ ap (λ (c : List (List ℕ)). seen (stored_with store after.keeper batch) allow_update c) told_now
      in
      let ends : Ends keeper before ask batch false (Some (receipt_of before ask batch)) (grown before after.keeper batch) = journalled some after.keeper more.grown more.run more.uncounted in
      let ends_so : Ends keeper before ask batch false (Some (record { client = ask.client; first = first; count = count })) (grown before after.keeper batch) =
      subst (λ (n : ℕ). Ends keeper before ask batch false (Some (record { client = ask.client; first = n; count = count })) (grown before after.keeper batch)) (sym placed)
      (subst (λ (n : ℕ). Ends keeper before ask batch false (Some (record { client = ask.client; first = store.row_count + 1; count = n })) (grown before after.keeper batch)) (sym counted) ends)
      in
      subst (λ (b : SeenOf K). Ends keeper before ask batch false (Some (record { client = ask.client; first = first; count = count })) b) (sym book_now) ends_so
