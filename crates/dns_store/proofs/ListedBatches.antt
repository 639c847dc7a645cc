-- Batches that are listed one by one.
use Rattle.std.proofs.Common.{◌≡◌, ◌+ℤ◌, ◌++◌, pos, List, [], ◌∷◌, Option, Some, None, refl, sym, ap, ◌∙◌, subst, append_assoc}
use Rattle.std.specs.Prelude.{IfSome}
use Rattle.std.proofs.lemmas.List.{append-nil, map-append}
use Rattle.std.proofs.lemmas.Option.{same_Some}
use Rattle.dns_io.specs.Told.{Keeps, Told}
use Rattle.dns_keeper.specs.declared.row.Row.{Row}
use Rattle.dns_keeper.specs.declared.batch_row.BatchRow.{BatchRow}
use Rattle.dns_keeper.specs.Batches.{first_batch, batch_from, AreByFirst}
use Rattle.dns_keeper.specs.Keeping.{KeeperTold, KeepsBatches}
use Rattle.dns_store.specs.declared.listing.ListedBatch.{ListedBatch}
use Rattle.dns_store.specs.Covering.{HasBatches, IsFirstOf, IsFirstOn}
use Rattle.dns_store.specs.Listing.{listed_in, listing, ListsBy, IsListedUpTo}
use Rattle.dns_store.proofs.ReadBatches.{next_behind}

-- before the first batch
begins_by : (rows : Option (List Row)) (next : Option BatchRow) (batches : List BatchRow) → IfSome rows (λ l. IsFirstOf next batches) → IfSome rows (IsListedUpTo [] next batches)
begins_by None next batches first = tt
begins_by (Some rows) next batches first = record { front = []; rest = batches; parts = refl; follows = first.is; by_first = first.by_first; is = refl }

pub list_begins : (told : KeeperTold) (next : Option BatchRow) → HasBatches told (IsFirstOf next) → IfSome told.rows (IsListedUpTo [] next told.batches)
list_begins told next first = begins_by told.rows next told.batches first

-- behind one batch more
goes_on_at : (listed more : List ListedBatch) (one : ListedBatch) (b : BatchRow) (found : Option BatchRow) (batches : List BatchRow) (rows : List Row) (front rest : List BatchRow) → batches ≡ front ++ rest
    → Some b ≡ first_batch rest → listed ≡ listing rows front → one ≡ listed_in rows b → more ≡ listed ++ one ∷ [] → IsFirstOn (b.first +ℤ pos 1) found batches → IsListedUpTo more found batches rows
goes_on_at listed more one b found batches rows front [] parts next is one_is more_is first = absurd (let none = next in cc)
goes_on_at listed more one b found batches rows front (c ∷ rest) parts next is one_is more_is first =
    let same : b ≡ c = same_Some _ _ next in
    let all : batches ≡ front ++ b ∷ rest = parts ∙ ap (λ (x : BatchRow). front ++ x ∷ rest) (sym same) in
    record {
      front = front ++ b ∷ [];
      rest = rest;
      parts = all ∙ sym (append_assoc front (b ∷ []) rest);
      follows = first.is ∙ ap (batch_from (b.first +ℤ pos 1)) all ∙ next_behind front b rest (subst AreByFirst all first.by_first);
      by_first = first.by_first;
      is = more_is ∙ ap (λ (l : List ListedBatch). l ++ one ∷ []) is ∙ ap (λ (x : ListedBatch). listing rows front ++ x ∷ []) one_is ∙ sym (map-append (listed_in rows) front (b ∷ []));
    }

goes_on_by : (w m n : Option (List Row)) (wb mb nb : List BatchRow) (listed more : List ListedBatch) (one : ListedBatch) (b : BatchRow) (found : Option BatchRow) → Keeps w m → Told (λ (o : List Row) (s : List Row). mb ≡ wb) w m
    → Keeps m n → Told (λ (o : List Row) (s : List Row). nb ≡ mb) m n → IfSome w (IsListedUpTo listed (Some b) wb) → IfSome m (λ rows. one ≡ listed_in rows b) → more ≡ listed ++ one ∷ []
    → IfSome n (λ rows. IsFirstOn (b.first +ℤ pos 1) found nb) → IfSome n (IsListedUpTo more found nb)
goes_on_by w m None wb mb nb listed more one b found kept same kept_more same_more read is more_is first = tt
goes_on_by w None (Some n) wb mb nb listed more one b found kept same kept_more same_more read is more_is first = absurd kept_more
goes_on_by None (Some m) (Some n) wb mb nb listed more one b found kept same kept_more same_more read is more_is first = absurd kept
goes_on_by (Some w) (Some m) (Some n) wb mb nb listed more one b found kept same kept_more same_more read is more_is first =
    goes_on_at listed more one b found nb n read.front read.rest (same_more ∙ same ∙ read.parts) read.follows
    (read.is ∙ ap (λ (l : List Row). listing l read.front) (sym (kept_more ∙ kept))) (is ∙ ap (λ (l : List Row). listed_in l b) (sym kept_more)) more_is first

pub list_goes_on : (was between now : KeeperTold) (listed more : List ListedBatch) (one : ListedBatch) (b : BatchRow) (found : Option BatchRow) → Keeps was.rows between.rows → KeepsBatches was between
    → Keeps between.rows now.rows → KeepsBatches between now → IfSome was.rows (IsListedUpTo listed (Some b) was.batches) → IfSome between.rows (λ rows. one ≡ listed_in rows b) → more ≡ listed ++ one ∷ []
    → HasBatches now (IsFirstOn (b.first +ℤ pos 1) found) → IfSome now.rows (IsListedUpTo more found now.batches)
list_goes_on was between now listed more one b found kept same kept_more same_more read is more_is first =
    goes_on_by was.rows between.rows now.rows was.batches between.batches now.batches listed more one b found kept same kept_more same_more read is more_is first

-- at the end
ends_at : (listed : List ListedBatch) (batches : List BatchRow) (rows : List Row) (front rest : List BatchRow) → batches ≡ front ++ rest → None ≡ first_batch rest → listed ≡ listing rows front
    → listed ≡ listing rows batches
ends_at listed batches rows front [] parts next is = is ∙ ap (listing rows) (sym (parts ∙ append-nil front))
ends_at listed batches rows front (b ∷ rest) parts next is = absurd (let none = next in cc)

ends_by : (rows : Option (List Row)) (listed : List ListedBatch) (batches : List BatchRow) → IfSome rows (IsListedUpTo listed None batches) → IfSome rows (λ l. listed ≡ listing l batches)
ends_by None listed batches read = tt
ends_by (Some rows) listed batches read = ends_at listed batches rows read.front read.rest read.parts read.follows read.is

pub list_ends : (told : KeeperTold) (listed : List ListedBatch) → IfSome told.rows (IsListedUpTo listed None told.batches) → ListsBy told listed
list_ends told listed read = ends_by told.rows listed told.batches read
