-- What a page holds when it is made, and when its first row is passed.
use Rattle.std.proofs.Common.{◌≡◌, ◌+ℤ◌, ℕ, ℤ, suc, pos, List, [], ◌∷◌, ◌++◌, Option, Some, None, IfSome, IfNone, option_to_list, true, refl, sym, subst}
use Rattle.std.specs.Int.Signed.{le_z}
use Rattle.sqlite.specs.Order.{Row as Shown}
use Rattle.sqlite.specs.Effect.{Database}
use Rattle.sqlite.specs.State.{State, HasCleanDisk}
use Rattle.dns_sqlite.specs.Tables.{HasRows}
use Rattle.dns_sqlite.specs.Reads.{AreRead, HasPage}
use Rattle.dns_sqlite.proofs.Pages.{first_has, none_has, next_has}
use Rattle.dns_keeper.specs.declared.row.Row.{Row}
use Rattle.dns_journal.specs.Stored.{IsStoredFrom, ShowsRow}
use Rattle.dns_journal.specs.Pages.{led, rows_left, IsFirstOf, HoldsPage, Holds, HoldsRows, IsStoredIn}
use Rattle.dns_journal.specs.declared.page.Page.{Page}

-- ---- rows

-- rows go on behind their first one, where the next row has a greater id
passed : (count : ℕ) (next : ℤ) (table shown : List Shown) (rest : List Row) (r s : Row) → le_z (r.id +ℤ pos 1) s.id ≡ true → HasRows count next table shown → AreRead shown (r ∷ s ∷ rest)
    → HoldsPage (r.id +ℤ pos 1) table (s ∷ rest)
passed count next table [] rest r s above has read = absurd read
passed count next table (f ∷ []) rest r s above has read = absurd read.1
passed count next table (f ∷ h ∷ shown) rest r s above has read =
    let it = next_has count next r.id s.id table shown f h read.0.id read.1.0.id above has in
    (it.0, h ∷ shown, it.1, read.1)

-- The first row of a page is the row that is asked for.
pub first_stored : (count : ℕ) (id : ℤ) (table shown : List Shown) (rest : List Row) (row : Row) → HasRows count id table shown → AreRead shown (row ∷ rest) → IsStoredFrom id table (Some row)
first_stored count id table [] rest row has read = absurd read
first_stored count id table (f ∷ shown) rest row has read = (f ∷ [], first_has count id table shown f has, (f, [], refl, read.0))

-- where a page has no row there is none
none_stored : (count : ℕ) (id : ℤ) (table shown : List Shown) → HasRows (suc count) id table shown → AreRead shown [] → IsStoredFrom id table None
none_stored count id table [] has read = ([], none_has count id table has, refl)
none_stored count id table (f ∷ shown) has read = absurd read

-- The first of the rows that were read is the row that is asked for; where none was read there is none.
pub page_stored : (id : ℤ) (table : List Shown) (rows : List Row) (found : Option Row) → HasPage id table rows → IsFirstOf rows found → IsStoredFrom id table found
page_stored id table rows None page is = let it = subst (HasPage id table) is page in none_stored it.0 id table it.1 it.2 it.3
page_stored id table rows (Some row) page is = let it = subst (HasPage id table) is.1 page in first_stored (suc it.0) id table it.1 is.0 row it.2 it.3

-- The rows that were read make a page.
pub opened_page : (id : ℤ) (table : List Shown) (rows : List Row) → HasPage id table rows → HoldsPage id table rows
opened_page id table [] page = tt
opened_page id table (r ∷ rows) page = (suc page.0, page.1, page.2, page.3)

-- ---- of a page

-- the rows that are left, once the first was asked for
pub led_is : {X : Type 0} (first : Option X) (rest all : List X) → all ≡ option_to_list first ++ rest → IfNone first (all ≡ []) → led first rest ≡ all
led_is None rest all is none = sym none
led_is (Some row) rest all is none = sym is

-- A page goes on behind its first row.
pub passes : (next : ℤ) (table : List Shown) (was rest : List Row) (r s : Row) → was ≡ s ∷ rest → le_z (r.id +ℤ pos 1) s.id ≡ true → HoldsPage next table (r ∷ was) → HoldsPage (r.id +ℤ pos 1) table (s ∷ rest)
passes next table was rest r s is above holds =
    let it : HoldsPage next table (r ∷ s ∷ rest) = subst (λ xs. HoldsPage next table (r ∷ xs)) is holds in
    passed it.0 next table it.1 rest r s above it.2 it.3

-- ---- of a connection

-- No rows are rows of any table.
pub holds_none : (page : Page) (table : List Shown) → rows_left page ≡ [] → Holds page table
holds_none page table none = subst (HoldsPage page.next table) (sym none) tt

-- what was read is the page
pub opens : (page : Page) (id : ℤ) (s : State) (rows : List Row) → rows_left page ≡ rows → page.next ≡ id → (HasCleanDisk s → HasPage id (s.now.trees 1) rows) → HoldsRows page s
opens page id s rows left next has clean =
    let it : HoldsPage id (s.now.trees 1) rows = opened_page id (s.now.trees 1) rows (has clean) in
    subst (λ n. HoldsPage n (s.now.trees 1) (rows_left page)) (sym next) (subst (HoldsPage id (s.now.trees 1)) (sym left) it)

pub opens_with : (page : Page) (id : ℤ) (s : State) (rows : List Row) (found : Option Row) → rows_left page ≡ rows → (HasCleanDisk s → HasPage id (s.now.trees 1) rows) → IsFirstOf (rows_left page) found → IsStoredIn id s found
opens_with page id s rows found left has is clean = page_stored id (s.now.trees 1) rows found (has clean) (subst (λ xs. IsFirstOf xs found) left is)

-- the first row of a page that goes on from an id
pub goes_on : (page : Page) (id : ℤ) (s : State) (found : Option Row) → page.next ≡ id → HoldsRows page s → IsFirstOf (rows_left page) found → IfSome found (λ row. IsStoredIn id s (Some row))
goes_on page id s None next holds is = tt
goes_on page id s (Some row) next holds is = λ clean.
    let it : HoldsPage id (s.now.trees 1) (row ∷ is.0) = subst (HoldsPage id (s.now.trees 1)) is.1 (subst (λ n. HoldsPage n (s.now.trees 1) (rows_left page)) next (holds clean)) in
    first_stored it.0 id (s.now.trees 1) it.1 is.0 row it.2 it.3

pub shows_row : (id : ℤ) (old new : State) (found : Option Row) → (HasCleanDisk new → new.now ≡ old.now) → IsStoredIn id new found → ShowsRow id old new found
shows_row id old new found same stored = λ clean. (same clean, subst (λ (d : Database). IsStoredFrom id (d.trees 1) found) (same clean) (stored clean))

-- ---- of any table

-- the first row of a page that goes on from an id, of whatever table the page holds rows
pub goes_on_in : (page : Page) (id : ℤ) (table : List Shown) (row : Row) → page.next ≡ id → Holds page table → IsFirstOf (rows_left page) (Some row) → IsStoredFrom id table (Some row)
goes_on_in page id table row next holds is =
    let it : HoldsPage id table (row ∷ is.0) = subst (HoldsPage id table) is.1 (subst (λ n. HoldsPage n table (rows_left page)) next holds) in
    first_stored it.0 id table it.1 is.0 row it.2 it.3

-- what was read is the page
pub opens_in : (page : Page) (id : ℤ) (table : List Shown) (rows : List Row) → rows_left page ≡ rows → page.next ≡ id → HasPage id table rows → Holds page table
opens_in page id table rows left next has =
    let it : HoldsPage id table rows = opened_page id table rows has in
    subst (λ n. HoldsPage n table (rows_left page)) (sym next) (subst (HoldsPage id table) (sym left) it)

pub first_in : (page : Page) (id : ℤ) (table : List Shown) (rows : List Row) (found : Option Row) → rows_left page ≡ rows → HasPage id table rows → IsFirstOf (rows_left page) found → IsStoredFrom id table found
first_in page id table rows found left has is = page_stored id table rows found has (subst (λ xs. IsFirstOf xs found) left is)

-- the row that is taken of a page, and what the page holds then
pub takes_in : (page after : Page) (id : ℤ) (found : Option Row) → page.next ≡ id → IsFirstOf (rows_left page) found → ((table : List Shown) → Holds page table → Holds after table)
    → IfSome found (λ row. (table : List Shown) → Holds page table → IsStoredFrom id table (Some row) × Holds after table)
takes_in page after id None next is held = tt
takes_in page after id (Some row) next is held = λ table holds. (goes_on_in page id table row next holds is, held table holds)
