-- The batches of a journal, listed with the first row of each.
use Rattle.std.specs.Prelude.{◌≡◌, ◌≢◌, ◌++◌, ◌⊎◌, ℕ, pos, List, [], map, Option, Some, None, IfSome}
use Rattle.dns_keeper.specs.declared.row.Row.{Row}
use Rattle.dns_keeper.specs.declared.batch_row.BatchRow.{BatchRow}
use Rattle.dns_keeper.specs.Rows.{first_from}
use Rattle.dns_keeper.specs.Batches.{first_batch, AreByFirst}
use Rattle.dns_keeper.specs.Keeping.{KeeperTold}
use Rattle.dns_store.specs.declared.opening.OpenKind.{OpenKind}
use Rattle.dns_store.specs.declared.opening.OpenKind.TheVariants.{Recovery, KeeperFault, NoZone, OutOfMemory}
use Rattle.dns_store.specs.declared.listing.ListedBatch.{ListedBatch}
use Rattle.dns_store.specs.Opening.{HadRows, AreRefused}
use Rattle.dns_store.specs.Covered.{StandOrNone, AreUncovered}

-- a batch as it is listed: with the serial and the client of its first row
abbrev pub listed_with : BatchRow → Option Row → ListedBatch
listed_with b (Some row) = record { first = b.first; count = b.count; serial = row.serial; client = row.client }
listed_with b None = record { first = b.first; count = b.count; serial = pos 0; client = pos 0 }

-- its first row is the first one from its first id on
abbrev pub listed_in : List Row → BatchRow → ListedBatch
listed_in rows b = listed_with b (first_from b.first rows)

-- all batches, in order
abbrev pub listing : List Row → List BatchRow → List ListedBatch
listing rows batches = map (listed_in rows) batches

-- what holds of rows and of a listing, where the rows are told
abbrev pub ListsBy : KeeperTold → List ListedBatch → Type 0
ListsBy told listed = IfSome told.rows (λ rows. listed ≡ listing rows told.batches)

-- there are rows, where they are told
abbrev pub HasSome : Option (List Row) → Type 0
HasSome rows = IfSome rows (λ l. l ≢ [])

-- there are no rows, or they stand for a zone of this origin, where they are told
abbrev pub AreSound : List (List ℕ) → KeeperTold → Type 0
AreSound origin told = IfSome told.rows (StandOrNone origin)

-- why a journal is not known to be sound: it has rows that are no zone's of this origin; they are, or there are none, but its batches do
-- not cover them; the keeper failed; or memory ran out
abbrev pub IsUnsound : KeeperTold → KeeperTold → List (List ℕ) → OpenKind → Type 0
IsUnsound before after origin (Recovery row kind) =
    (HadRows before.rows after.rows × AreRefused before.rows after.rows origin row kind)
    ⊎ AreUncovered (StandOrNone origin) before after row kind
IsUnsound before after origin KeeperFault = Unit {0}
IsUnsound before after origin NoZone = ⊥
IsUnsound before after origin OutOfMemory = Unit {0}

-- of these batches so many were listed, from the first on, and the next one is this, or there is none
pub record IsListedUpTo (listed : List ListedBatch) (next : Option BatchRow) (batches : List BatchRow) (rows : List Row) : Type 0 where
  pub front : List BatchRow
  pub rest : List BatchRow
  pub parts : batches ≡ front ++ rest
  pub follows : next ≡ first_batch rest
  pub by_first : AreByFirst batches
  pub is : listed ≡ listing rows front
