-- What a crash may leave of the rows and batches of a book, where its keeper tells it.
use Rattle.std.specs.Prelude.{List, Option, Some, None, Bool, true, false, Result, Ok, Err}
use Rattle.dns_wire.specs.declared.record.Record.{Record}
use Rattle.dns_keeper.specs.declared.keeper.KeepFault.{KeepFault}
use Rattle.dns_keeper.specs.Keeping.{KeeperOf}
use Rattle.dns_keeper.specs.Crash.{LeavesNoOther}
use Rattle.dns_store.specs.Crash.{LeavesStored, LeavesRows, GoesOnAll}
use Rattle.dns_book.specs.declared.ask.Ask.{Ask}
use Rattle.dns_book.specs.declared.ask.Receipt.{Receipt}
use Rattle.dns_book.specs.declared.ask.Settled.{Settled}
use Rattle.dns_book.specs.declared.decision.Decision.{Decision}
use Rattle.dns_book.specs.Access.{Access}
use Rattle.dns_book.specs.Cases.{Decides}
use Rattle.dns_book.specs.Owed.{batch_by}
use Rattle.dns_book.specs.Book.{SeenOf, stored_of, Settles}
pub use Rattle.dns_store.specs.Crash.{LeavesOpened, LeavesOpening, LeavesUnopened, GoesOn}

-- what might be left before or, where there are records, rows and batches with them as a whole batch of this message
abbrev pub LeavesBatch : {K : Type 0} → KeeperOf K → SeenOf K → Ask → List Record → SeenOf K → Type 0
LeavesBatch keeper before ask batch after = LeavesStored keeper (stored_of before) ask.client ask.at batch after.keeper

-- where a batch was journalled, the rows and batches alone; else as above
abbrev pub LeavesBy : {K : Type 0} → KeeperOf K → SeenOf K → Ask → List Record → Option Receipt → SeenOf K → Type 0
LeavesBy keeper before ask batch None after = LeavesBatch keeper before ask batch after
LeavesBy keeper before ask batch (Some receipt) after = LeavesRows keeper after.keeper

-- the receipt of an append that was not refused
abbrev pub receipt_in : Result (Option Receipt) KeepFault → Option Receipt
receipt_in (Ok receipt) = receipt
receipt_in (Err fault) = None

-- where a message was settled: the rows and batches alone, where its batch was journalled; where the keeper failed, what might be left
-- before or both with the whole batch; and else what might be left before
abbrev pub LeavesSettled : {K : Type 0} → KeeperOf K → SeenOf K → Ask → List Record → Bool → Option Receipt → SeenOf K → Type 0
LeavesSettled keeper before ask batch failed (Some receipt) after = LeavesRows keeper after.keeper
LeavesSettled keeper before ask batch true None after = LeavesBatch keeper before ask batch after
LeavesSettled keeper before ask batch false None after = LeavesNoOther (keeper.may_leave before.keeper) (keeper.may_leave after.keeper)

-- one message is settled, and a crash then leaves no more than so
pub record SettlesLeaving {K : Type 0} (keeper : KeeperOf K) (access : Access) (before : SeenOf K) (ask : Ask)
    (settled : Settled) (after : SeenOf K)
    : Type 0 where
  pub settles : Settles keeper access before ask settled after
  pub leaves : LeavesSettled keeper before ask
      (batch_by before.zone before.allow_update settles.reply.decision) settles.failed settled.receipt after

-- where no memory was found: what might be left before or, where the message brings records, rows and batches with the whole batch
pub data LeavesUnsettled {K : Type 0} (keeper : KeeperOf K) (access : Access) (before : SeenOf K) (ask : Ask)
    (after : SeenOf K) : Type 0 where
  untouched : LeavesNoOther (keeper.may_leave before.keeper) (keeper.may_leave after.keeper)
      → LeavesUnsettled keeper access before ask after
  refused : (decision : Option Decision) → Decides before.zone access ask decision
      → LeavesBatch keeper before ask (batch_by before.zone before.allow_update decision) after
      → LeavesUnsettled keeper access before ask after

-- so do all rows and batches that a crash may leave of a book, where its keeper tells those that it has
abbrev pub LeavesOn : {K : Type 0} → KeeperOf K → SeenOf K → Type 0
LeavesOn keeper book = GoesOnAll keeper book.zone.origin book.keeper
