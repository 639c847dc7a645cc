-- The rows of a book that is shared. Where its keeper tells its rows, they are these. A keeper may stop telling them at any
-- settle, and then the rows that a batch adds are made up: as many as it has, which bear the seat's number.
use Rattle.std.specs.Prelude.{◌≡◌, ℕ, pos, ◌+◌, ◌≤◌, true, List, [], ◌++◌, length, drop, replicate, Option, Some, None}
use Rattle.dns_keeper.specs.declared.row.Row.{Row}
use Rattle.dns_keeper.specs.Keeping.{KeeperOf}
use Rattle.dns_io.specs.Told.{Told}
use Rattle.dns_book.specs.declared.ask.Receipt.{Receipt}
use Rattle.dns_book.specs.Book.{SeenOf}
use Rattle.dns_ticket_lock.specs.declared.view.Terms.{Terms}
use Rattle.dns_ticket_lock.specs.Places.{all_bear, places_of, places_from, listed}

-- the rows, where they are told, are these
abbrev pub AreTold : Option (List Row) → List Row → Type 0
AreTold None rows = Unit {0}
AreTold (Some told) rows = told ≡ rows

-- these are the book's rows: as many as it has, and those that its keeper tells
pub record NamesRows {K : Type 0} (keeper : KeeperOf K) (book : SeenOf K) (rows : List Row) : Type 0 where
  pub told : AreTold (keeper.told book.keeper).rows rows
  pub count : length rows ≡ book.row_count

-- a row of which nothing is known but whose it is
abbrev pub blank_row : ℕ → Row
blank_row number = record { id = pos 0; client = pos number; serial = pos 0; stamp = []; bytes = [] }

-- the rows that were told, or so many of nobody
abbrev pub opening_rows : Option (List Row) → ℕ → List Row
opening_rows None count = replicate count (blank_row 0)
opening_rows (Some told) count = told

-- the rows past those of before, as they are told, or so many that bear the number
abbrev pub batch_after : ℕ → List Row → Option (List Row) → ℕ → List Row
batch_after number rows None count = replicate count (blank_row number)
batch_after number rows (Some told) count = drop (length rows) told

-- what is fixed when a book is shared among so many numbers
abbrev pub terms_at : {K : Type 0} → KeeperOf K → SeenOf K → ℕ → Terms
terms_at keeper book seats = record {
  rows = opening_rows (keeper.told book.keeper).rows book.row_count;
  start = (keeper.told book.keeper).faults;
  seats = seats;
  origin = book.zone.origin;
  allow_update = book.allow_update;
}

-- so many rows came behind those of before, and all bear the number
pub record IsBatch (number count : ℕ) (before after : List Row) : Type 0 where
  pub batch : List Row
  pub grown : after ≡ before ++ batch
  pub many : length batch ≡ count
  pub theirs : all_bear number batch ≡ true

-- what a settle by this number did to the book, whatever it answered: so many rows came, whose places are those of the receipt
pub record Advances {K : Type 0} (keeper : KeeperOf K) (number : ℕ) (before : SeenOf K) (receipt : Option Receipt) (count : ℕ)
    (after : SeenOf K) : Type 0 where
  pub rows : Told (IsBatch number count) (keeper.told before.keeper).rows (keeper.told after.keeper).rows
  pub counted : after.row_count ≡ before.row_count + count
  pub places : places_of (listed receipt) ≡ places_from (before.row_count + 1) count
  pub origin : after.zone.origin ≡ before.zone.origin
  pub updates : after.allow_update ≡ before.allow_update
  pub faults : (keeper.told before.keeper).faults ≤ (keeper.told after.keeper).faults
