-- What contracts see of a shared book and of its passes.
use Rattle.std.specs.Prelude.{◌≡◌, ◌<◌, ◌+◌, true, drop, length, ℕ, List}
use mathlib.Core.Option.{some}
use lib.ListN.{get_elem?}
use Rattle.atomic_table.specs.Seated.{TableId}
use Rattle.dns_keeper.specs.declared.row.Row.{Row}
use Rattle.dns_keeper.specs.Keeping.{KeeperOf}
use Rattle.dns_book.specs.declared.ask.Ask.{Ask}
use Rattle.dns_book.specs.declared.ask.Settled.{Settled}
use Rattle.dns_book.specs.Access.{Access}
use Rattle.dns_book.specs.Book.{SeenOf, IsKept}
use Rattle.dns_ticket_lock.specs.declared.view.Account.{Account}
use Rattle.dns_ticket_lock.specs.declared.view.Terms.{Terms}
use Rattle.dns_ticket_lock.specs.Lists.{StartsWith, total}
use Rattle.dns_ticket_lock.specs.Places.{bearing, places_of, all_within}
use Rattle.dns_ticket_lock.specs.Shares.{last}
use Rattle.dns_ticket_lock.specs.Naming.{NamesRows}
use Rattle.dns_ticket_lock.specs.Settling.{HasTerms, SettledAs, LeftAs}
use Rattle.dns_ticket_lock.specs.Rule.{fresh}

-- which shared book it is: no two have the same
abbrev pub BookId : Type 0
BookId = TableId

-- a shared book: which it is, and what was fixed when it was shared
pub record BookSeen : Type 0 where
  pub id : BookId
  pub terms : Terms

-- a pass: whose it is, what was fixed when that book was shared, its number from 1, and what that number has seen and done
pub record PassSeen : Type 0 where
  pub book : BookId
  pub terms : Terms
  pub number : ℕ
  pub account : Account

-- the one is the other
abbrev pub IsPass : PassSeen → PassSeen → Type 0
IsPass one other = one ≡ other

-- it is the same pass, which may have seen and done more
pub record IsSame (before after : PassSeen) : Type 0 where
  pub book : after.book ≡ before.book
  pub terms : after.terms ≡ before.terms
  pub number : after.number ≡ before.number

-- one message was settled by the pass
pub record SettledBy {K : Type 0} (keeper : KeeperOf K) (access : Access) (before : PassSeen) (ask : Ask) (settled : Settled)
    (after : PassSeen) : Type 0 where
  pub same : IsSame before after
  pub account : SettledAs keeper before.terms access before.number before.account ask settled after.account

-- a settle by the pass found no memory
pub record LeftBy (before after : PassSeen) : Type 0 where
  pub same : IsSame before after
  pub account : LeftAs before.account after.account

-- the passes of the book, the first with the number 1, and so on
abbrev pub InOrder : BookId → List PassSeen → Type 0
InOrder book passes = (k : ℕ) (p : PassSeen) → get_elem? passes k ≡ some p → (p.book ≡ book) × (p.number ≡ k + 1)

-- each has seen the opening rows, and settled nothing
abbrev pub AreNew : Terms → List PassSeen → Type 0
AreNew t passes = (k : ℕ) (p : PassSeen) → get_elem? passes k ≡ some p → (p.terms ≡ t) × (p.account ≡ fresh t)

-- a pass for each number, in order
pub record ArePasses (book : BookSeen) (passes : List PassSeen) : Type 0 where
  pub many : length passes ≡ book.terms.seats
  pub order : InOrder book.id passes
  pub new : AreNew book.terms passes

abbrev pub pass_faults : PassSeen → ℕ
pass_faults p = p.account.faults

-- the passes of the book with the numbers 1 to count, each once, in any order
pub record AreAll (book : BookId) (count : ℕ) (passes : List PassSeen) : Type 0 where
  pub many : length passes ≡ count
  pub same : (i : ℕ) (p : PassSeen) → get_elem? passes i ≡ some p → p.book ≡ book
  pub each : (k : ℕ) → k < count → (i : ℕ) × (p : PassSeen) × (get_elem? passes i ≡ some p) × (p.number ≡ k + 1)

-- What the passes of all numbers say of the book at the end: its zone is what its rows stand for, and it has the terms of the one
-- that was shared. Its rows begin with the opening ones and with all that each pass has seen; the rows past the opening bear numbers
-- of the passes, and those with a pass's number are exactly those of its receipts, at their places, each once; the keeper's
-- count rose by the sum of the passes' faults, and where a pass has the mark it stands at its last value.
pub record ClosedFor {K : Type 0} (keeper : KeeperOf K) (t : Terms) (passes : List PassSeen) (book : SeenOf K) : Type 0 where
  pub stood : IsKept keeper book
  pub terms : HasTerms t book
  pub rows : List Row
  pub named : NamesRows keeper book rows
  pub began : StartsWith rows t.rows
  pub seen : (i : ℕ) (p : PassSeen) → get_elem? passes i ≡ some p → StartsWith rows p.account.seen
  pub places : (i : ℕ) (p : PassSeen) → get_elem? passes i ≡ some p
      → bearing p.number (length t.rows + 1) (drop (length t.rows) rows) ≡ places_of p.account.receipts
  pub numbered : all_within t.seats (drop (length t.rows) rows) ≡ true
  pub rise : t.start + total pass_faults passes ≡ (keeper.told book.keeper).faults
  pub marked : (i : ℕ) (p : PassSeen) → get_elem? passes i ≡ some p → p.account.marked ≡ true → (keeper.told book.keeper).faults ≡ last
