-- What one settle of the book comes to, whatever it answered.
use Rattle.std.proofs.Common.{◌≡◌, ℕ, zero, suc, ◌+◌, ◌==◌, eq-eqb, Bool, true, false, ℤ, pos, ◌+ℤ◌, List, [], ◌∷◌, ◌++◌, drop, length, replicate, Option, Some, None, Result, Ok, Err, OnErr, IfOk, refl, sym, ap, ◌∙◌, subst₂, arith}
use Rattle.std.proofs.lemmas.List.{append-nil}
use Rattle.std.proofs.Math.Seq.{drop-append_seam}
use Rattle.dns_io.specs.declared.fault.OutOfMemory.{OutOfMemory}
use Rattle.dns_io.specs.Told.{Told, Keeps}
use Rattle.dns_wire.specs.declared.record.Record.{Record}
use Rattle.dns_keeper.specs.declared.row.Row.{Row}
use Rattle.dns_keeper.specs.Keeping.{KeeperOf}
use Rattle.dns_keeper.specs.Rows.{rows_of, last_id}
use Rattle.dns_keeper.specs.Keeping.{GrowsByBatch}
use Rattle.dns_book.specs.Access.{Access}
use Rattle.dns_book.specs.declared.ask.Ask.{Ask}
use Rattle.dns_book.specs.declared.ask.Receipt.{Receipt}
use Rattle.dns_book.specs.declared.ask.SettledInto.{SettledInto}
use Rattle.dns_book.specs.Into.{SettlesInto}
use Rattle.dns_book.specs.Book.{SeenOf, HasRows, IsKept, Ends, Settles, IsLeft}
use Rattle.dns_ticket_lock.specs.Places.{all_bear, places_from}
use Rattle.dns_ticket_lock.specs.Naming.{NamesRows, AreTold, IsBatch, Advances, opening_rows, batch_after, blank_row}
use Rattle.dns_ticket_lock.specs.Settling.{receipt_in}
use Rattle.dns_ticket_lock.proofs.Places.{true_both}

rows_of_bear : (id : ℤ) (client serial : ℕ) (stamp : List ℕ) (records : List Record) → all_bear client (rows_of id client serial stamp records) ≡ true
rows_of_bear id client serial stamp [] = refl
rows_of_bear id client serial stamp (r ∷ rs) =
    true_both (client == client) (all_bear client (rows_of (id +ℤ pos 1) client serial stamp rs)) (eq-eqb client client refl) (rows_of_bear (id +ℤ pos 1) client serial stamp rs)

rows_of_many : (id : ℤ) (client serial : ℕ) (stamp : List ℕ) (records : List Record) → length (rows_of id client serial stamp records) ≡ length records
rows_of_many id client serial stamp [] = refl
rows_of_many id client serial stamp (r ∷ rs) = ap suc (rows_of_many (id +ℤ pos 1) client serial stamp rs)

batch_of : (before after : Option (List Row)) (client serial moment : ℕ) (records : List Record) → GrowsByBatch before after client serial moment records → Told (IsBatch client (length records)) before after
batch_of before None client serial moment records grown = tt
batch_of None (Some now) client serial moment records grown = absurd grown
batch_of (Some old) (Some now) client serial moment records grown = record {
  batch = rows_of (last_id old +ℤ pos 1) client serial grown.stamp records;
  grown = grown.is;
  many = rows_of_many (last_id old +ℤ pos 1) client serial grown.stamp records;
  theirs = rows_of_bear (last_id old +ℤ pos 1) client serial grown.stamp records;
}

pub no_batch : (before after : Option (List Row)) (number : ℕ) → Keeps before after → Told (IsBatch number 0) before after
no_batch before None number kept = tt
no_batch None (Some now) number kept = absurd kept
no_batch (Some old) (Some now) number kept = record { batch = []; grown = kept ∙ sym (append-nil old); many = refl; theirs = refl }

pub keeps_itself : (rows : Option (List Row)) → Keeps rows rows
keeps_itself None = tt
keeps_itself (Some rows) = refl

module _ {K : Type 0} (keeper : KeeperOf K) where
  ended_advances : (before : SeenOf K) (ask : Ask) (batch : List Record) (failed : Bool) (receipt : Option Receipt) (after : SeenOf K) → Ends keeper before ask batch failed receipt after
      → (count : ℕ) × Advances keeper ask.client before receipt count after
  ended_advances before ask batch false None after (Ends.idle none) = (
    0,
    record {
      rows = no_batch (keeper.told before.keeper).rows (keeper.told before.keeper).rows ask.client (keeps_itself (keeper.told before.keeper).rows);
      counted = omega arith;
      places = refl;
      origin = refl;
      updates = refl;
      faults = omega arith;
    },
  )
  ended_advances before ask batch false (Some receipt) after (Ends.journalled more held grown run later) = (
    length batch,
    record {
      rows = batch_of (keeper.told before.keeper).rows (keeper.told held).rows ask.client _ _ batch grown;
      counted = refl;
      places = append-nil (places_from (before.row_count + 1) (length batch));
      origin = refl;
      updates = refl;
      faults = omega (arith, later);
    },
  )
  ended_advances before ask batch true None after (Ends.failed more held kept batches later rose) = (
    0,
    record {
      rows = no_batch (keeper.told before.keeper).rows (keeper.told held).rows ask.client kept;
      counted = omega arith;
      places = refl;
      origin = refl;
      updates = refl;
      faults = later;
    },
  )
  ended_advances before ask batch true (Some receipt) after x = elim x [ ]

  pub advances : (access : Access) (before : SeenOf K) (ask : Ask) (framed : Bool) (had has : List ℕ) (answer : Result SettledInto OutOfMemory) (after : SeenOf K)
      → IfOk answer (SettlesInto (λ settled. Settles keeper access before ask settled after) framed had has) → OnErr answer (IsLeft keeper before after)
      → (count : ℕ) × Advances keeper ask.client before (receipt_in answer) count after
  advances access before ask framed had has (Ok into) after ok err =
      let e = ended_advances before ask _ ok.is.failed ok.settled.receipt ok.is.ended ok.is.ends in
      let receipt : into.receipt ≡ ok.settled.receipt = ap (λ (t : SettledInto). t.receipt) ok.told in
      (e.0, subst₂ (λ (r : Option Receipt) (b : SeenOf K). Advances keeper ask.client before r e.0 b) (sym receipt) (sym ok.is.counted) (record { rows = e.1.rows; counted = e.1.counted; places = e.1.places; origin = e.1.origin; updates = e.1.updates; faults = e.1.faults }))
  advances access before ask framed had has (Err fault) after ok err =
      let left : IsLeft keeper before after = err in (
        0,
        record {
          rows = no_batch (keeper.told before.keeper).rows (keeper.told after.keeper).rows ask.client left.kept;
          counted = (let is = ap (λ (b : SeenOf K). b.row_count) left.same in omega arith);
          places = refl;
          origin = ap (λ (b : SeenOf K). b.zone.origin) left.same;
          updates = ap (λ (b : SeenOf K). b.allow_update) left.same;
          faults = (let is = left.uncounted in omega arith);
        },
      )

-- the rows past those of before bear the number, and are so many
blanks_bear : (number count : ℕ) → all_bear number (replicate count (blank_row number)) ≡ true
blanks_bear number zero = refl
blanks_bear number (suc count) = true_both (number == number) (all_bear number (replicate count (blank_row number))) (eq-eqb number number refl) (blanks_bear number count)

blanks_many : (number count : ℕ) → length (replicate count (blank_row number)) ≡ count
blanks_many number zero = refl
blanks_many number (suc count) = ap suc (blanks_many number count)

-- the rows after a settle, whether they are told or not
pub record Follows (number count : ℕ) (rows : List Row) (told : Option (List Row)) : Type 0 where
  pub theirs : all_bear number (batch_after number rows told count) ≡ true
  pub many : length (batch_after number rows told count) ≡ count
  pub now : AreTold told (rows ++ batch_after number rows told count)

pub follows : (number count : ℕ) (rows : List Row) (before after : Option (List Row)) → AreTold before rows → Told (IsBatch number count) before after → Follows number count rows after
follows number count rows before None named batch = record { theirs = blanks_bear number count; many = blanks_many number count; now = tt }
follows number count rows None (Some now) named batch = absurd batch
follows number count rows (Some old) (Some now) named batch =
    let is : now ≡ rows ++ batch.batch = batch.grown ∙ ap (λ (l : List Row). l ++ batch.batch) named in
    let past : drop (length rows) now ≡ batch.batch = ap (drop (length rows)) is ∙ drop-append_seam rows batch.batch in
    record {
      theirs = ap (all_bear number) past ∙ batch.theirs;
      many = ap (λ (l : List Row). length l) past ∙ batch.many;
      now = is ∙ ap (λ (l : List Row). rows ++ l) (sym past);
    }

named_by : (told : Option (List Row)) (n : ℕ) → HasRows told n → AreTold told (opening_rows told n) × (length (opening_rows told n) ≡ n)
named_by None n has = (tt, blanks_many 0 n)
named_by (Some rows) n has = (refl, has)

-- the opening rows are the book's
pub opening_named : {K : Type 0} (keeper : KeeperOf K) (book : SeenOf K) → IsKept keeper book → NamesRows keeper book (opening_rows (keeper.told book.keeper).rows book.row_count)
opening_named keeper book kept = let n = named_by (keeper.told book.keeper).rows book.row_count kept.count in record { told = n.0; count = n.1 }
