-- Rows that were read and that are not taken yet.
use Rattle.std.specs.Prelude.{◌≡◌, ℕ, ℤ, List, [], ◌∷◌, Option, Some, None}
use Rattle.std.specs.Vec.Iter.{into_iter_items}
use Rattle.sqlite.specs.Order.{Row as Shown}
use Rattle.sqlite.specs.State.{State, HasCleanDisk}
use Rattle.dns_sqlite.specs.Tables.{HasRows}
use Rattle.dns_sqlite.specs.Reads.{AreRead}
use Rattle.dns_keeper.specs.declared.row.Row.{Row}
use Rattle.dns_journal.specs.Stored.{IsStoredFrom}
use Rattle.dns_journal.specs.declared.page.Page.{Page}

-- a first one and those behind it; none where there is no first
abbrev pub led : {X : Type 0} → Option X → List X → List X
led None rest = []
led (Some first) rest = first ∷ rest

-- the rows that are left of a page
abbrev pub rows_left : Page → List Row
rows_left page = led page.first (into_iter_items page.rest)

-- the first of some rows, or none where there is none
abbrev pub IsFirstOf : List Row → Option Row → Type 0
IsFirstOf rows None = rows ≡ []
IsFirstOf rows (Some row) = (more : List Row) × (rows ≡ row ∷ more)

-- these are rows of the table, by ascending id, and none of those from this id on is passed over
abbrev pub HoldsPage : ℤ → List Shown → List Row → Type 0
HoldsPage next table [] = Unit {0}
HoldsPage next table (first ∷ rest) = (count : ℕ) × (shown : List Shown) × HasRows count next table shown × AreRead shown (first ∷ rest)

-- the rows of the page are those of the table from its id on
abbrev pub Holds : Page → List Shown → Type 0
Holds page table = HoldsPage page.next table (rows_left page)

-- the rows of the page are those of the connection, where its disk is clean
abbrev pub HoldsRows : Page → State → Type 0
HoldsRows page s = HasCleanDisk s → Holds page (s.now.trees 1)

-- where the disk is clean, the row of the connection with the least id from this one on reads as this row; or there is none
abbrev pub IsStoredIn : ℤ → State → Option Row → Type 0
IsStoredIn id s found = HasCleanDisk s → IsStoredFrom id (s.now.trees 1) found

-- a page goes on behind its first row, which has this id
abbrev pub PassesFirst : ℤ → Page → Page → Type 0
PassesFirst id old new =
    (row : Row) → row.id ≡ id → (table : List Shown) → HoldsPage old.next table (row ∷ into_iter_items old.rest) → Holds new table
