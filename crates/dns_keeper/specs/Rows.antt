-- The rows of a journal, and what an append adds to them.
use Rattle.std.specs.Prelude.{ℕ, ℤ, pos, ◌+ℤ◌, ◌-◌, ◌≡◌, List, [], ◌∷◌, ◌++◌, length, slice_get, Option, Some, None, Bool, true, false, if◌then◌else◌}
use Rattle.std.specs.Int.Signed.{le_z}
use Rattle.dns_wire.specs.declared.record.Record.{Record}
use Rattle.dns_wire.specs.WireFormat.{record_bytes}
use Rattle.dns_keeper.specs.declared.row.Row.{Row}

-- the id of a row, 0 where there is none
abbrev pub id_of : Option Row → ℤ
id_of None = pos 0
id_of (Some r) = r.id

-- the greatest id of rows by ascending id, 0 where there is no row
abbrev pub last_id : List Row → ℤ
last_id rows = id_of (slice_get rows (length rows - 1))

-- one row a record, in order: ids from this one on, one client, one serial, one stamp, the record uncompressed
abbrev pub rows_of : ℤ → ℕ → ℕ → List ℕ → List Record → List Row
rows_of id client serial stamp [] = []
rows_of id client serial stamp (r ∷ rs) =
    record { id = id; client = pos client; serial = pos serial; stamp = stamp; bytes = record_bytes r }
    ∷ rows_of (id +ℤ pos 1) client serial stamp rs

-- rows and, after them, a batch of records with the ids that follow
abbrev pub appended : List Row → ℕ → ℕ → List ℕ → List Record → List Row
appended rows client serial stamp records =
    rows ++ rows_of (last_id rows +ℤ pos 1) client serial stamp records

-- the first row, if there is one
abbrev pub first_of : List Row → Option Row
first_of [] = None
first_of (r ∷ rs) = Some r

-- the first row whose id is not below this one
abbrev pub first_from : ℤ → List Row → Option Row
first_from id [] = None
first_from id (r ∷ rs) = if le_z id r.id then Some r else first_from id rs

-- an id is below that of the first row, if there is one
abbrev pub is_below_first : ℤ → List Row → Bool
is_below_first id [] = true
is_below_first id (r ∷ rs) = if le_z r.id id then false else true

-- each row has a greater id than the row before it
abbrev pub is_ascending : List Row → Bool
is_ascending [] = true
is_ascending (r ∷ rs) = if is_below_first r.id rs then is_ascending rs else false

-- rows by ascending id
abbrev pub AreAscending : List Row → Type 0
AreAscending rows = is_ascending rows ≡ true
