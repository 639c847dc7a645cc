-- What opening the journal of a book gives: a store, beside what the book has of its own.
use Rattle.std.specs.Prelude.{◌≡◌, ℕ, List, Option, Bool}
use Rattle.dns_keeper.specs.Keeping.{KeeperTold, KeeperOf}
use Rattle.dns_zone_map.specs.Zone.{Contents}
use Rattle.dns_store.specs.Store.{StoreOf}
use Rattle.dns_store.specs.Opening as store
use Rattle.dns_book.specs.Book.{SeenOf, seen, stored_of}
use Rattle.dns_book.specs.Counted.{counts_of_zone}
pub use Rattle.dns_store.specs.Opening.{HadNoRow, HadRows, AreRefused, IsUnopened, RecoversNot, OpensNot, BeginsNot}
pub use Rattle.dns_store.specs.Covered.{HadNothing, AreNone, Stand, StandOrNone, AreUncovered}

-- the book of a store to which nothing has happened: nothing is counted but the records of its zone
abbrev pub fresh_of : {K : Type 0} → StoreOf K → Bool → SeenOf K
fresh_of store allowed = seen store allowed (counts_of_zone store.zone.records)

-- a book has such a store, it says whether updates are let in, and nothing is counted but the records of its zone
pub record IsFresh {K : Type 0} (Opened : StoreOf K → Type 0) (allowed : Bool) (book : SeenOf K) : Type 0 where
  pub store : Opened (stored_of book)
  pub allow_update : book.allow_update ≡ allowed
  pub counts : book.counts ≡ counts_of_zone book.zone.records

-- a journal without rows and batches was begun with this zone, whose keeper told this before
abbrev pub Begins : {K : Type 0} → KeeperOf K → KeeperTold → Contents → Bool → ℕ → SeenOf K → Type 0
Begins keeper before zone allowed moment book = IsFresh (store.Begins keeper before zone moment) allowed book

-- a journal was read back, whose keeper told this before
abbrev pub Recovers : {K : Type 0} → KeeperOf K → KeeperTold → List (List ℕ) → Bool → SeenOf K → Type 0
Recovers keeper before origin allowed book = IsFresh (store.Recovers keeper before origin) allowed book

-- a journal was opened: one without rows and batches was begun with the given zone, which has this origin, and one with rows was read back
abbrev pub Opens : {K : Type 0} → KeeperOf K → KeeperTold → List (List ℕ) → Option Contents → Bool → ℕ → SeenOf K → Type 0
Opens keeper before origin given allowed moment book = IsFresh (store.Opens keeper before origin given moment) allowed book
