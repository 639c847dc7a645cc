-- What a journal tells of its rows and batches.
use Rattle.std.specs.Prelude.{◌≡◌, ◌≢◌, ◌⊎◌, ◌-◌, ◌^◌, ◌&&◌, ℕ, ℤ, pos, neg_ℤ, Bool, true, false, if◌then◌else◌, IsTrue, List, [], ◌∷◌, Option, Some, None, Result, Err, refl}
use Rattle.std.specs.Int.Signed.{le_z}
use Rattle.std.specs.Coded.{Coded, code_by, coded×, coded_ℕ, coded_ℤ, coded_bool}
use Rattle.sqlite.specs.declared.types.Value.TheVariants.{Null, Int, Text, Blob}
use Rattle.sqlite.specs.Order.{Row as Stored}
use Rattle.sqlite.specs.Store.{Ghosts}
use Rattle.sqlite.specs.State.{State, HasCleanDisk}
use Rattle.sqlite.specs.Held.{Held, held_code, state}
use Rattle.dns_io.specs.Told.{one_more}
use Rattle.dns_sqlite.specs.Tables.{row_schema}
use Rattle.dns_sqlite.specs.Statements.{HasSchema, HasTables}
use Rattle.sqlite.specs.Effect.{Database}
use Rattle.dns_sqlite.specs.Versions.{current_version, FitsTables}
use Rattle.dns_keeper.specs.declared.row.Row.{Row}
use Rattle.dns_keeper.specs.declared.batch_row.BatchRow.{BatchRow}
use Rattle.dns_keeper.specs.Rows.{is_ascending}
use Rattle.dns_keeper.specs.Batches.{is_by_first}

-- what contracts see of a journal: its connection, the version of its schema, whether its calls go to the connection, and its count of
-- faults
pub record View (S : Type 0) : Type 0 where
  pub conn : Held S
  pub version : ℤ
  pub is_ready : Bool
  pub faults : ℕ

abbrev pub view_code : {S : Type 0} → Coded S → Coded (View S)
view_code {S} store =
    code_by (Held S × (ℤ × (Bool × ℕ))) (coded× (held_code store) (coded× coded_ℤ (coded× coded_bool coded_ℕ)))
    (λ v. (v.conn, (v.version, (v.is_ready, v.faults))))
    (λ p. record { conn = p.0; version = p.1.0; is_ready = p.1.1.0; faults = p.1.1.1 }) (λ _. refl)

-- a number of 64 bits
abbrev pub is_signed : ℤ → Bool
is_signed n = le_z (neg_ℤ (pos (2 ^ 63))) n && le_z n (pos (2 ^ 63 - 1))

-- a stored row as a row of the journal, where each column reads as the type of its field
abbrev pub row_of : Stored → Option Row
row_of (Int id ∷ Null ∷ Int client ∷ Int serial ∷ Text stamp ∷ Blob bytes ∷ []) =
    if is_signed id then Some (record { id = id; client = client; serial = serial; stamp = stamp; bytes = bytes }) else None
row_of _ = None

abbrev pub joined : {X : Type 0} → Option X → Option (List X) → Option (List X)
joined None rest = None
joined (Some first) None = None
joined (Some first) (Some rest) = Some (first ∷ rest)

-- the rows of a table, where each of them reads
abbrev pub rows_of : List Stored → Option (List Row)
rows_of [] = Some []
rows_of (s ∷ stored) = joined (row_of s) (rows_of stored)

abbrev pub if_ascending : Option (List Row) → Option (List Row)
if_ascending None = None
if_ascending (Some rows) = if is_ascending rows then Some rows else None

-- the rows of a table, where each of them reads and their ids ascend
abbrev pub told : List Stored → Option (List Row)
told stored = if_ascending (rows_of stored)

-- a stored batch as a batch, where its columns read as numbers
abbrev pub batch_of : Stored → Option BatchRow
batch_of (Int first ∷ Null ∷ Int count ∷ []) = if is_signed first then Some (record { first = first; count = count }) else None
batch_of _ = None

-- the batches of a table, where each of them reads
abbrev pub batches_of : List Stored → Option (List BatchRow)
batches_of [] = Some []
batches_of (s ∷ stored) = joined (batch_of s) (batches_of stored)

abbrev pub if_by_first : Option (List BatchRow) → Option (List BatchRow)
if_by_first None = None
if_by_first (Some batches) = if is_by_first batches then Some batches else None

-- the batches of a table, where each of them reads and their firsts ascend
abbrev pub batches_told : List Stored → Option (List BatchRow)
batches_told stored = if_by_first (batches_of stored)

-- rows, where there are batches too
abbrev pub where_batches : Option (List BatchRow) → Option (List Row) → Option (List Row)
where_batches None rows = None
where_batches (Some batches) rows = rows

-- the rows of a database, where its rows and its batches read, and each stand in their order
abbrev pub rows_told : Database → Option (List Row)
rows_told d = where_batches (batches_told (d.trees 2)) (told (d.trees 1))

-- batches, where there are any
abbrev pub or_none : Option (List BatchRow) → List BatchRow
or_none None = []
or_none (Some batches) = batches

-- the rows of a connection, while its disk is clean and it is open
abbrev pub rows_in : State → Option (List Row)
rows_in s = if (s.is_clean && s.is_open) then rows_told s.now else None

-- the rows that a journal tells: those of its connection, where its calls go there
abbrev pub told_rows : {S : Type 0} → Ghosts S → View S → Option (List Row)
told_rows g j = if j.is_ready then rows_in (state g j.conn) else None

-- its batches, where it tells its rows
abbrev pub told_batches : {S : Type 0} → Ghosts S → View S → List BatchRow
told_batches g j = or_none (batches_told ((state g j.conn).now.trees 2))

-- a connection of this version takes the calls of a journal: it has the tables of one and no others, at the current version, and is in no
-- transaction
pub record TakesCalls (version : ℤ) (s : State) : Type 0 where
  pub current : version ≡ current_version
  pub alone : s.in_transaction ≡ false
  pub tables : HasTables s.now

-- ---- what a journal keeps of its connection, while the disk is clean and the connection is open

-- where its calls go there, it takes them
abbrev pub IsReady : Bool → ℤ → State → Type 0
IsReady false version s = Unit {0}
IsReady true version s = (version ≡ current_version) × (s.in_transaction ≡ false) × (HasCleanDisk s → IsTrue s.is_open → HasTables s.now)

-- the version is that of its tables, where they are those of a journal
abbrev pub FitsConnection : ℤ → State → Type 0
FitsConnection version s = HasCleanDisk s → IsTrue s.is_open → FitsTables version s.now

-- ---- what a call of a journal does whose calls do not go to the connection

-- the version is not the current one, or the tables are not those of a journal, or the connection is in a transaction
abbrev pub IsUnready : {S : Type 0} → View S → Type 0
IsUnready j = (j.version ≢ current_version) ⊎ (j.is_ready ≡ false)

-- all but its count of faults stays as it is
pub record Stays {S : Type 0} (old new : View S) : Type 0 where
  pub conn : new.conn ≡ old.conn
  pub version : new.version ≡ old.version
  pub ready : new.is_ready ≡ old.is_ready

-- it is refused: it counts a fault, and changes nothing
pub record Refuses {S T E : Type 0} (old new : View S) (refusal : E) (result : Result T E) : Type 0 where
  pub named : result ≡ Err refusal
  pub counted : new ≡ record old { faults = one_more old.faults }

-- the rows that there are below the current version: those of the table of rows, where there is one and each of its rows reads, by
-- ascending id; and else none
pub record AreRowsBelow (s : State) (rows : List Row) : Type 0 where
  pub there : HasSchema row_schema s.now → told (s.now.trees 1) ≡ Some rows
  pub none : ¬ HasSchema row_schema s.now → rows ≡ []
