-- The rows of a batch as a keeper in memory holds them: what they have in common once, their records one behind the other.
use Rattle.std.specs.Prelude.{◌≡◌, ◌≤◌, ◌<◌, ◌⊎◌, ◌<ℤ◌, ◌+ℤ◌, ◌++◌, ◌-◌, ◌^◌, ℕ, ℤ, pos, neg_ℤ, List, [], ◌∷◌, length, take, drop, Option, true}
use Rattle.std.specs.Int.Signed.{le_z}
use Rattle.dns_wire.specs.declared.record.Record.{Record}
use Rattle.dns_keeper.specs.declared.row.Row.{Row}
use Rattle.dns_keeper.specs.declared.batch_row.BatchRow.{BatchRow}
use Rattle.dns_keeper.specs.Rows.{rows_of, first_of, first_from}
use Rattle.dns_keeper.specs.Batches.{begins_at}
use Rattle.dns_keeper.specs.Keeping.{IsStampFor}

-- one row a record, in order: ids from this one on, one client, one serial, one stamp
abbrev pub numbered : ℤ → ℕ → ℕ → List ℕ → List (List ℕ) → List Row
numbered id client serial stamp [] = []
numbered id client serial stamp (r ∷ rs) =
    record { id = id; client = pos client; serial = pos serial; stamp = stamp; bytes = r } ∷ numbered (id +ℤ pos 1) client serial stamp rs

-- the parts of bytes that end at these places, where the first of them begins at this one
abbrev pub parts : ℕ → List ℕ → List ℕ → List (List ℕ)
parts start [] bytes = []
parts start (e ∷ ends) bytes = take (e - start) (drop start bytes) ∷ parts e ends bytes

-- from this place on no place is below the one before it, and the last is where so many bytes end
abbrev pub AreEnds : ℕ → List ℕ → ℕ → Type 0
AreEnds start [] count = start ≡ count
AreEnds start (e ∷ ends) count = (start ≤ e) × AreEnds e ends count

-- bytes are a front and, behind it, texts that end at these places
pub record Packs (front : List ℕ) (texts : List (List ℕ)) (ends bytes : List ℕ) : Type 0 where
  pub ordered : AreEnds (length front) ends (length bytes)
  pub behind : parts (length front) ends bytes ≡ texts
  pub begins : take (length front) bytes ≡ front

-- the rows of several lists, in order
abbrev pub joined : List (List Row) → List Row
joined [] = []
joined (rows ∷ more) = rows ++ joined more

-- among ids that follow one another from the first on, the first that is not below this one stands at this place
abbrev pub IsPlaceFrom : ℤ → ℤ → ℕ → Type 0
IsPlaceFrom first id place = ((le_z id first ≡ true) × (place ≡ 0)) ⊎ (id ≡ first +ℤ pos place)

-- the row with the least id from this one on, or that there is none; from the least id of all on the first row
pub record IsFound (id : ℤ) (rows : List Row) (found : Option Row) : Type 0 where
  pub first : found ≡ first_from id rows
  pub least : id ≡ neg_ℤ (pos (2 ^ 63)) → found ≡ first_of rows

-- behind rows with ids up to this one came those of the records, with the stamp of the moment
pub record GrowsBehind (last : ℤ) (client serial moment : ℕ) (records : List Record) (old new : List Row) : Type 0 where
  pub stamp : List ℕ
  pub stamped : IsStampFor moment records stamp
  pub is : new ≡ old ++ rows_of (last +ℤ pos 1) client serial stamp records

-- there are fewer ids above this one than there are records
abbrev pub LacksBehind : ℤ → List Record → Type 0
LacksBehind last records = pos (2 ^ 63 - 1) <ℤ (last +ℤ pos (length records))

-- there are records, and a batch begins at the id behind this one
abbrev pub MeetsBehind : ℤ → List BatchRow → List Record → Type 0
MeetsBehind last batches records = (0 < length records) × (begins_at (last +ℤ pos 1) batches ≡ true)
