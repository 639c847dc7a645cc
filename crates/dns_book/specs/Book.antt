-- What contracts see of a book, and what settling a message does.
use Rattle.std.specs.Prelude.{◌≡◌, ℕ, ◌+◌, ◌<◌, ◌≤◌, List, length, Option, Some, None, Bool, true, false}
use Rattle.dns_io.specs.Told.{Keeps, Rose}
use Rattle.dns_wire.specs.declared.record.Record.{Record}
use Rattle.dns_keeper.specs.Keeping.{KeeperOf, GrowsByBatch, GrowsByRun, KeepsBatches}
use Rattle.dns_zone_map.specs.Zone.{Contents}
use Rattle.dns_update.specs.Change.{serial_after_batch}
use Rattle.dns_store.specs.Store.{StoreOf, IsStored, zone_with}
use Rattle.dns_book.specs.declared.ask.Ask.{Ask}
use Rattle.dns_book.specs.declared.ask.Receipt.{Receipt}
use Rattle.dns_book.specs.declared.ask.Settled.{Settled}
use Rattle.dns_book.specs.Access.{Access}
use Rattle.dns_book.specs.Owed.{Grounds, OwesBytes, batch_by}
use Rattle.dns_book.specs.Counted.{counts_after, counts_with}
pub use Rattle.dns_store.specs.Store.{HasRows, StandFor}

-- the keeper of the rows, the zone that they stand for, whether updates are let in, the number of rows, and what was counted
pub record SeenOf (K : Type 0) : Type 0 where
  pub keeper : K
  pub zone : Contents
  pub allow_update : Bool
  pub row_count : ℕ
  pub counts : List (List ℕ)

-- a book of this store
abbrev pub seen : {K : Type 0} → StoreOf K → Bool → List (List ℕ) → SeenOf K
seen store allow_update counts =
    record { keeper = store.keeper; zone = store.zone; allow_update = allow_update; row_count = store.row_count; counts = counts }

-- the store of a book
abbrev pub stored_of : {K : Type 0} → SeenOf K → StoreOf K
stored_of book = record { keeper = book.keeper; zone = book.zone; row_count = book.row_count }

-- what always holds of a book: its rows are so many as it says, its zone is what they stand for, and its batches cover them
abbrev pub IsKept : {K : Type 0} → KeeperOf K → SeenOf K → Type 0
IsKept keeper book = IsStored keeper (stored_of book)

-- what the reply to a message depends on, which this book settles
abbrev pub grounds_of : {K : Type 0} → SeenOf K → Bool → Grounds
grounds_of book failed = record { zone = book.zone; allow_update = book.allow_update; failed = failed }

-- the place of a batch behind the rows that there are
abbrev pub receipt_of : {K : Type 0} → SeenOf K → Ask → List Record → Receipt
receipt_of before ask batch = record { client = ask.client; first = before.row_count + 1; count = length batch }

-- a book after a batch, with its keeper
abbrev pub grown : {K : Type 0} → SeenOf K → K → List Record → SeenOf K
grown before held batch = record {
  keeper = held;
  zone = zone_with before.zone batch;
  allow_update = before.allow_update;
  row_count = before.row_count + length batch;
  counts = counts_with before.zone batch before.counts;
}

-- what becomes of the records that a message brings: there are none, and nothing changes; they come into the journal, all with
-- the serial that they leave and as one of its batches, the zone is what they make of it, and the keeper's count of faults is as it was;
-- or the keeper fails and counts it, and nothing else changes. The flag says that it failed.
pub data Ends {K : Type 0} (keeper : KeeperOf K) (before : SeenOf K) (ask : Ask)
    (batch : List Record) : Bool → Option Receipt → SeenOf K → Type 0 where
  idle : length batch ≡ 0 → Ends keeper before ask batch false None before
  journalled : 0 < length batch → (held : K)
      → GrowsByBatch (keeper.told before.keeper).rows (keeper.told held).rows ask.client
      (serial_after_batch before.zone.origin before.zone.records batch) ask.at batch
      → GrowsByRun (keeper.told before.keeper) (keeper.told held) batch
      → (keeper.told held).faults ≡ (keeper.told before.keeper).faults
      → Ends keeper before ask batch false (Some (receipt_of before ask batch)) (grown before held batch)
  failed : 0 < length batch → (held : K) → Keeps (keeper.told before.keeper).rows (keeper.told held).rows
      → KeepsBatches (keeper.told before.keeper) (keeper.told held)
      → (keeper.told before.keeper).faults ≤ (keeper.told held).faults → Rose (keeper.told before.keeper).faults (keeper.told held).faults
      → Ends keeper before ask batch true None (record before { keeper = held })

-- one message is settled by a book whose zone is what its rows stand for, and stays so, where `access` says who is let in: its
-- reply is what it is owed, the records that it brings come into the journal and the zone or, where the keeper fails, into
-- neither, and it is counted by what was decided of it
pub record Settles {K : Type 0} (keeper : KeeperOf K) (access : Access) (before : SeenOf K) (ask : Ask) (settled : Settled)
    (after : SeenOf K)
    : Type 0 where
  pub stood : IsKept keeper before
  pub failed : Bool
  pub reply : OwesBytes (grounds_of before failed) access ask settled.reply
  pub ended : SeenOf K
  pub ends : Ends keeper before ask (batch_by before.zone before.allow_update reply.decision) failed settled.receipt ended
  pub counted : after ≡ record ended { counts = counts_after (grounds_of before failed) reply.decision settled.reply ended.counts }
  pub length : settled.length ≡ after.row_count
  pub kept : IsKept keeper after

-- a book that found no memory: nothing has changed but what its keeper does not tell, and no fault of the keeper was counted
pub record IsLeft {K : Type 0} (keeper : KeeperOf K) (before after : SeenOf K) : Type 0 where
  pub same : after ≡ record before { keeper = after.keeper }
  pub kept : Keeps (keeper.told before.keeper).rows (keeper.told after.keeper).rows
  pub batches : KeepsBatches (keeper.told before.keeper) (keeper.told after.keeper)
  pub uncounted : (keeper.told after.keeper).faults ≡ (keeper.told before.keeper).faults
