-- The records of a journal's rows.
use Rattle.std.specs.Prelude.{◌≡◌, ◌⊎◌, ℕ, ℤ, List, [], ◌∷◌, length, Option, Some, None, ◌==◌, if◌then◌else◌}
use Rattle.dns_wire.specs.declared.record.Record.{Record}
use Rattle.dns_wire.specs.Standing.{RecordAt}
use Rattle.dns_name.specs.declared.fault.ProtoError.{ProtoError}
use Rattle.dns_name.specs.declared.fault.ProtoError.TheVariants as proto
use Rattle.dns_journal.specs.declared.error.PersistenceError.{PersistenceError}
use Rattle.dns_journal.specs.declared.error.PersistenceError.TheVariants.{Recovery, Proto, Sqlite, OutOfMemory}
use Rattle.dns_journal.specs.declared.error.RecoveryKind.TheVariants.{NoRecord}
use Rattle.dns_wire.specs.WireFormat.{IsShort, TellsLong}
use Rattle.dns_keeper.specs.declared.row.Row.{Row}
use Rattle.dns_keeper.specs.Rows.{first_from}

-- bytes are one record, from the first to the last (RFC 1035 4.1.3)
abbrev pub IsOneRecord : List ℕ → Record → Type 0
IsOneRecord bytes r = RecordAt bytes 0 r (length bytes)

-- the record that bytes are, if they are one
abbrev pub IsReading : List ℕ → Option Record → Type 0
IsReading bytes None = (r : Record) → ¬ IsOneRecord bytes r
IsReading bytes (Some r) = IsOneRecord bytes r

-- a record that was read, if it ends with the bytes
abbrev pub whole_of : Option (Record × ℕ) → ℕ → Option Record
whole_of None len = None
whole_of (Some read) len = if read.1 == len then Some read.0 else None

-- the bytes of a row are no record
abbrev pub IsNoRecord : Row → Type 0
IsNoRecord row = (r : Record) → ¬ IsOneRecord row.bytes r

-- a row's id and its record
abbrev pub IsRecordOf : Option Row → Option (ℤ × Record) → Type 0
IsRecordOf None None = Unit {0}
IsRecordOf (Some row) (Some found) = (found.0 ≡ row.id) × IsOneRecord row.bytes found.1
IsRecordOf _ _ = ⊥

-- of the told row with the least id from this one on; or that there is none
abbrev pub IsRecordFrom : Option (List Row) → ℤ → Option (ℤ × Record) → Type 0
IsRecordFrom None id found = Unit {0}
IsRecordFrom (Some rows) id found = IsRecordOf (first_from id rows) found

-- the told row with the least id from this one on is no record
abbrev pub IsNoRecordFrom : Option (List Row) → ℤ → Type 0
IsNoRecordFrom None id = Unit {0}
IsNoRecordFrom (Some rows) id = (row : Row) × (first_from id rows ≡ Some row) × IsNoRecord row

-- the records of rows, in order
abbrev pub AreRecords : List Row → List Record → Type 0
AreRecords [] [] = Unit {0}
AreRecords (row ∷ rows) (r ∷ rs) = IsOneRecord row.bytes r × AreRecords rows rs
AreRecords _ _ = ⊥

abbrev pub AreRecordsOf : Option (List Row) → List Record → Type 0
AreRecordsOf None records = Unit {0}
AreRecordsOf (Some rows) records = AreRecords rows records

-- one of the rows is no record
abbrev pub HasNoRecord : List Row → Type 0
HasNoRecord [] = ⊥
HasNoRecord (row ∷ rows) = IsNoRecord row ⊎ HasNoRecord rows

abbrev pub TellsNoRecord : Option (List Row) → Type 0
TellsNoRecord None = Unit {0}
TellsNoRecord (Some rows) = HasNoRecord rows

-- why records cannot be written: the first one whose data takes more than 65,535 bytes
abbrev pub TellsFirstLong : List Record → ProtoError → Type 0
TellsFirstLong [] e = ⊥
TellsFirstLong (r ∷ rs) e = TellsLong r e ⊎ (IsShort r × TellsFirstLong rs e)

-- how a fault of writing a record is answered
abbrev pub from_proto : ProtoError → PersistenceError
from_proto proto.OutOfMemory = OutOfMemory
from_proto e = Proto e

-- why a batch was not inserted, apart from the connection and memory: a record that cannot be written
abbrev pub RefusesBatch : List Record → PersistenceError → Type 0
RefusesBatch records (Proto proto.OutOfMemory) = ⊥
RefusesBatch records (Proto e) = TellsFirstLong records e
RefusesBatch records Sqlite = Unit {0}
RefusesBatch records OutOfMemory = Unit {0}
RefusesBatch records _ = ⊥

-- the kinds of refusal when records are read: a row that is no record, the connection or a column, memory
abbrev pub IsRecordFault : PersistenceError → Type 0
IsRecordFault (Recovery NoRecord) = Unit {0}
IsRecordFault Sqlite = Unit {0}
IsRecordFault OutOfMemory = Unit {0}
IsRecordFault _ = ⊥

-- why the record of a row was not read: it is none, or memory was wanting
abbrev pub IsUnread : Row → PersistenceError → Type 0
IsUnread row (Recovery NoRecord) = IsNoRecord row
IsUnread row OutOfMemory = Unit {0}
IsUnread row _ = ⊥
