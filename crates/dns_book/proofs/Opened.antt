-- A book whose store was opened.
use Rattle.std.proofs.Common.{◌≡◌, Bool, refl, sym, subst}
use Rattle.dns_store.specs.Store.{StoreOf}
use Rattle.dns_book.specs.Book.{SeenOf, stored_of}
use Rattle.dns_book.specs.Opening.{fresh_of, IsFresh}

module _ {K : Type 0} (store : StoreOf K) (allowed : Bool) (book : SeenOf K) (is : book ≡ fresh_of store allowed) where
  -- nothing has happened to it
  pub opened_fresh : (Opened : StoreOf K → Type 0) → Opened store → IsFresh Opened allowed book
  opened_fresh Opened opened = subst (IsFresh Opened allowed) (sym is) (record { store = opened; allow_update = refl; counts = refl })

  -- what holds of the store holds of the book's
  pub opened_store : (P : StoreOf K → Type 0) → P store → P (stored_of book)
  opened_store P holds = subst (λ (b : SeenOf K). P (stored_of b)) (sym is) holds
