-- What the query of one batch finds of the batches that are told.
use Rattle.std.proofs.Common.{◌≡◌, ℤ, pos, neg_ℤ, ◌^◌, ◌-◌, List, [], ◌∷◌, true, Option, Some, None, IfSome, IsTrue, refl, ◌∙◌}
use Rattle.std.specs.Int.Signed.{le_z}
use Rattle.std.proofs.lemmas.Bool.{and_parts}
use Rattle.sqlite.specs.Order.{Row as Stored}
use Rattle.sqlite.specs.Store.{Ghosts}
use Rattle.sqlite.specs.Held.{state}
use Rattle.sqlite.specs.State.{HasCleanDisk}
use Rattle.sqlite_trees.proofs.Doubt.{no_doubt}
use Rattle.dns_keeper.specs.declared.row.Row.{Row}
use Rattle.dns_keeper.specs.declared.batch_row.BatchRow.{BatchRow}
use Rattle.dns_keeper.specs.Batches.{first_batch, batch_from, AreByFirst}
use Rattle.dns_keeper.specs.Keeping.{TellsByFirst, IsBatchFrom, IsFirstBatch}
use Rattle.dns_journal.specs.Told.{View, batches_told, or_none, told_rows, told_batches}
use Rattle.dns_journal.specs.Keepers.{journal_keeper}
use Rattle.dns_journal.specs.BatchPages.{IsBatchIn, IsBatchStoredIn}
use Rattle.dns_journal.proofs.Telling.{tells}
use Rattle.dns_journal.proofs.BatchOrder.{AreSigned, batches_are}

-- this holds of the batches of a table, where it is known what it reads as
of_table : (P : List BatchRow → Type 0) (stored : List Stored) (batches : List BatchRow) → batches_told stored ≡ Some batches → P batches → P (or_none (batches_told stored))
of_table P stored batches e p = rw e p

module _ {S : Type 0} (g : Ghosts S) (j : View S) where
  -- what holds of the batches of the connection, where its rows are told, holds of those that the journal tells
  told_where : (P : List BatchRow → Type 0) → (HasCleanDisk (state g j.conn) → IsTrue (state g j.conn).is_open → j.is_ready ≡ true → (batches : List BatchRow) → batches_told ((state g j.conn).now.trees 2) ≡ Some batches → P batches)
      → IfSome (told_rows g j) (λ rows. P (told_batches g j))
  told_where P h = go (told_rows g j) refl
    where
      go : (o : Option (List Row)) → told_rows g j ≡ o → IfSome o (λ rows. P (told_batches g j))
      go None e = tt
      go (Some rows) e =
          let it = tells j.is_ready (state g j.conn) rows e in
          of_table P ((state g j.conn).now.trees 2) it.batches it.batches_are (h (no_doubt (state g j.conn).is_clean it.clean) it.live it.ready it.batches it.batches_are)

  pub tells_by_first : TellsByFirst ((journal_keeper g).told j)
  tells_by_first = told_where AreByFirst (λ clean live ready batches e. (batches_are ((state g j.conn).now.trees 2) batches e).by_first)

  -- the batch that the query found is the one that is asked for
  pub batch_told : (id : ℤ) (found : Option BatchRow) → (HasCleanDisk (state g j.conn) → IsTrue (state g j.conn).is_open → j.is_ready ≡ true → IsBatchIn id ((state g j.conn).now.trees 2) found) → IsBatchFrom ((journal_keeper g).told j) id found
  batch_told id found h = told_where (λ batches. found ≡ batch_from id batches) (λ clean live ready batches e. let it = batches_are ((state g j.conn).now.trees 2) batches e in h clean live ready batches it.by_first it.is)

  -- from the least id on it is the first of all
  first_signed : (batches : List BatchRow) → AreSigned batches → batch_from (neg_ℤ (pos (2 ^ 63))) batches ≡ first_batch batches
  first_signed [] signed = refl
  first_signed (b ∷ batches) signed = let within = and_parts (le_z (neg_ℤ (pos (2 ^ 63))) b.first) _ signed.0 in rw within.0 refl

  pub first_batch_told : (found : Option BatchRow) → (HasCleanDisk (state g j.conn) → IsTrue (state g j.conn).is_open → j.is_ready ≡ true → IsBatchIn (neg_ℤ (pos (2 ^ 63))) ((state g j.conn).now.trees 2) found) → IsFirstBatch ((journal_keeper g).told j) found
  first_batch_told found h =
      told_where (λ batches. found ≡ first_batch batches) (λ clean live ready batches e. let it = batches_are ((state g j.conn).now.trees 2) batches e in h clean live ready batches it.by_first it.is ∙ first_signed batches it.signed)

  -- the batch that is stored is the one that is asked for
  pub stored_batch_told : (id : ℤ) (found : Option BatchRow) → IsBatchStoredIn id (state g j.conn) found → IsBatchFrom ((journal_keeper g).told j) id found
  stored_batch_told id found stored = batch_told id found (λ clean live ready. stored clean)

  pub stored_first_told : (found : Option BatchRow) → IsBatchStoredIn (neg_ℤ (pos (2 ^ 63))) (state g j.conn) found → IsFirstBatch ((journal_keeper g).told j) found
  stored_first_told found stored = first_batch_told found (λ clean live ready. stored clean)
