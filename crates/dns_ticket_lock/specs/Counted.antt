-- What a seat counts of a settle.
use Rattle.std.specs.Prelude.{◌≡◌, ℕ, ◌+◌, ◌++◌, List, length}
use Rattle.dns_keeper.specs.Keeping.{KeeperOf}
use Rattle.dns_book.specs.Book.{SeenOf}
use Rattle.dns_ticket_lock.specs.declared.held.Member.{Member}
use Rattle.dns_ticket_lock.specs.declared.held.Told.{Told}
use Rattle.dns_ticket_lock.specs.declared.view.View.{View}
use Rattle.dns_ticket_lock.specs.Lists.{with_head}
use Rattle.dns_ticket_lock.specs.Rule.{Done, settled, with_member}
use Rattle.dns_ticket_lock.specs.Settling.{Names, done_by}

-- what a settle did, by the book after it, of the message whose turn it is at a seat
abbrev pub done_at : {K : Type 0} → KeeperOf K → View → SeenOf K → Told → Done
done_at keeper v book told = done_by keeper (v.low + 1) v.rows book told

-- what was told has the number of the rows that were made, and with those before them they are so many
abbrev pub CountsRows : Told → View → Done → ℕ → Type 0
CountsRows told v done rows = (told.count ≡ length done.batch) × (length v.rows + length done.batch ≡ rows)

-- the terms of a seat that has counted what was done name a book, its members and where it began
abbrev pub NamesCounted : {K : Type 0} → KeeperOf K → View → Done → SeenOf K → List Member → ℕ → Type 0
NamesCounted keeper v done book members start =
    Names keeper v.terms (v.rows ++ done.batch)
    (with_member (with_head (settled v.rows done) v.accounts) v.low v.members) book members start
