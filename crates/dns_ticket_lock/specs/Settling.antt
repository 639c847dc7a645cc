-- What a settle by the lock does to the account of its number, and what all accounts say of the book at the end.
use Rattle.std.specs.Prelude.{◌≡◌, ◌⊎◌, ℕ, ◌+◌, ◌<◌, true, false, List, ◌++◌, length, drop, Option, None, Result, Ok, Err}
use mathlib.Core.Option.{some}
use lib.ListN.{get_elem?}
use Rattle.dns_keeper.specs.declared.row.Row.{Row}
use Rattle.dns_keeper.specs.Keeping.{KeeperOf}
use Rattle.dns_book.specs.declared.ask.Ask.{Ask}
use Rattle.dns_book.specs.declared.ask.Settled.{Settled}
use Rattle.dns_book.specs.declared.ask.SettledInto.{SettledInto}
use Rattle.dns_book.specs.declared.ask.Receipt.{Receipt}
use Rattle.dns_io.specs.declared.fault.OutOfMemory.{OutOfMemory}
use Rattle.dns_book.specs.Access.{Access}
use Rattle.dns_book.specs.Book.{SeenOf, Settles}
use Rattle.dns_ticket_lock.specs.declared.held.Member.{Member}
use Rattle.dns_ticket_lock.specs.declared.held.Told.{Told}
use Rattle.dns_ticket_lock.specs.declared.view.Account.{Account}
use Rattle.dns_ticket_lock.specs.declared.view.Terms.{Terms}
use Rattle.dns_ticket_lock.specs.Lists.{StartsWith, total}
use Rattle.dns_ticket_lock.specs.Places.{bearing, places_of, all_within, listed}
use Rattle.dns_ticket_lock.specs.Shares.{last}
use Rattle.dns_ticket_lock.specs.Naming.{NamesRows, batch_after}
use Rattle.dns_ticket_lock.specs.Rule.{Done, faults_of}

-- the message, asked by this number
abbrev pub asked_by : ℕ → Ask → Ask
asked_by number ask = record ask { client = number }

-- the book has the origin of the one that was shared, and lets updates in as that did
pub record HasTerms {K : Type 0} (t : Terms) (book : SeenOf K) : Type 0 where
  pub origin : book.zone.origin ≡ t.origin
  pub updates : book.allow_update ≡ t.allow_update

-- a book with these terms, rows, members and start
pub record Names {K : Type 0} (keeper : KeeperOf K) (t : Terms) (rows : List Row) (members : List Member) (book : SeenOf K)
    (its_members : List Member) (its_start : ℕ) : Type 0 where
  pub has_rows : NamesRows keeper book rows
  pub has_members : its_members ≡ members
  pub same_start : its_start ≡ t.start
  pub same_terms : HasTerms t book

-- what a settle did, by the book after it
abbrev pub done_by : {K : Type 0} → KeeperOf K → ℕ → List Row → SeenOf K → Told → Done
done_by keeper number rows book told = record {
  batch = batch_after number rows (keeper.told book.keeper).rows told.count;
  receipt = told.receipt;
  rise = told.rise;
  mark = told.mark;
}

-- One message is settled by the book, with this number as its client, on rows that begin with all that the number had seen: `before`
-- is its account before the call, and `after` the one after it. Its new account has seen the rows as the book then has them, has
-- the receipt, if there is one, behind its receipts, and has counted by how much the keeper's count of faults rose in this call.
-- Where the keeper failed, that is more than nothing, or the count stands at its last value, which the account keeps as a mark; where it
-- did not fail, it is nothing.
pub record SettledAs {K : Type 0} (keeper : KeeperOf K) (t : Terms) (access : Access) (number : ℕ) (before : Account) (ask : Ask)
    (settled : Settled) (after : Account) : Type 0 where
  pub book : SeenOf K
  pub rows : List Row
  pub later : SeenOf K
  pub terms : HasTerms t book
  pub named : NamesRows keeper book rows
  pub began : StartsWith rows before.seen
  pub settles : Settles keeper access book (asked_by number ask) settled later
  pub grew : StartsWith after.seen rows
  pub seen : NamesRows keeper later after.seen
  pub receipts : after.receipts ≡ before.receipts ++ listed settled.receipt
  pub counted : after.faults + (keeper.told book.keeper).faults ≡ before.faults + (keeper.told later.keeper).faults
  pub failed : settles.failed ≡ true → (before.faults < after.faults) ⊎ (after.marked ≡ true)
  pub calm : settles.failed ≡ false → after.faults ≡ before.faults
  pub mark : before.marked ≡ true → after.marked ≡ true

-- A settle found no memory: the account has seen no less than before, its receipts and faults are as they were, and a mark stays.
pub record LeftAs (before after : Account) : Type 0 where
  pub seen : StartsWith after.seen before.seen
  pub receipts : after.receipts ≡ before.receipts
  pub faults : after.faults ≡ before.faults
  pub mark : before.marked ≡ true → after.marked ≡ true

-- the receipt of an answer, if it has one
abbrev pub receipt_in : Result SettledInto OutOfMemory → Option Receipt
receipt_in (Ok into) = into.receipt
receipt_in (Err fault) = None

-- what the accounts of all numbers, in order, say of the book at the end
pub record ClosedAs {K : Type 0} (keeper : KeeperOf K) (t : Terms) (accounts : List Account) (book : SeenOf K) : Type 0 where
  pub rows : List Row
  pub named : NamesRows keeper book rows
  pub terms : HasTerms t book
  pub began : StartsWith rows t.rows
  pub seen : (k : ℕ) (a : Account) → get_elem? accounts k ≡ some a → StartsWith rows a.seen
  pub places : (k : ℕ) (a : Account) → get_elem? accounts k ≡ some a
      → bearing (k + 1) (length t.rows + 1) (drop (length t.rows) rows) ≡ places_of a.receipts
  pub numbered : all_within t.seats (drop (length t.rows) rows) ≡ true
  pub rise : t.start + total faults_of accounts ≡ (keeper.told book.keeper).faults
  pub marked : (k : ℕ) (a : Account) → get_elem? accounts k ≡ some a → a.marked ≡ true → (keeper.told book.keeper).faults ≡ last
