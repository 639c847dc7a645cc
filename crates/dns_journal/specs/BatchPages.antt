-- Batches that were read and that are not taken yet.
use Rattle.std.specs.Prelude.{◌≡◌, ℤ, List, [], ◌∷◌, map, Option}
use Rattle.std.specs.Vec.Iter.{into_iter_items}
use Rattle.sqlite.specs.Order.{Row as Shown}
use Rattle.sqlite.specs.State.{State, HasCleanDisk}
use Rattle.dns_keeper.specs.declared.batch_row.BatchRow.{BatchRow}
use Rattle.dns_keeper.specs.Batches.{batch_from, AreByFirst}
use Rattle.dns_sqlite.specs.Tables.{stored_batch}
use Rattle.dns_sqlite.specs.Reads.{AreBatchesIn}
use Rattle.dns_journal.specs.Pages.{led}
use Rattle.dns_journal.specs.declared.batch_page.BatchPage.{BatchPage}

-- the batches that are left of a page
abbrev pub batches_left : BatchPage → List BatchRow
batches_left page = led page.first (into_iter_items page.rest)

-- this is the batch of least first that is not below this id, or there is none, where the table has batches by ascending first
abbrev pub IsBatchIn : ℤ → List Shown → Option BatchRow → Type 0
IsBatchIn id table found = (batches : List BatchRow) → AreByFirst batches → table ≡ map stored_batch batches → found ≡ batch_from id batches

-- these are batches of the table, by ascending first, and none of those from this id on is passed over
abbrev pub HoldsAhead : ℤ → List Shown → List BatchRow → Type 0
HoldsAhead next table [] = Unit {0}
HoldsAhead next table (first ∷ rest) = AreBatchesIn next table (first ∷ rest)

-- the batches of the page are those of the table from its id on
abbrev pub HoldsBatches : BatchPage → List Shown → Type 0
HoldsBatches page table = HoldsAhead page.next table (batches_left page)

-- the batches of the page are those of the connection, where its disk is clean
abbrev pub HoldsBatchesOf : BatchPage → State → Type 0
HoldsBatchesOf page s = HasCleanDisk s → HoldsBatches page (s.now.trees 2)

-- where the disk is clean, this is the batch of the connection with the least first from this id on; or there is none
abbrev pub IsBatchStoredIn : ℤ → State → Option BatchRow → Type 0
IsBatchStoredIn id s found = HasCleanDisk s → IsBatchIn id (s.now.trees 2) found

-- a page goes on behind its first batch, which begins at this id
abbrev pub PassesBatch : ℤ → BatchPage → BatchPage → Type 0
PassesBatch id old new =
    (batch : BatchRow) → batch.first ≡ id → (table : List Shown)
    → HoldsAhead old.next table (batch ∷ into_iter_items old.rest) → HoldsBatches new table
