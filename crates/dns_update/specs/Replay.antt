-- What the rows of a journal make of a zone.
use Rattle.std.specs.Prelude.{◌≡◌, ℕ, ℤ, pos, negsuc, ◌+◌, ◌<◌, ◌^◌, get_or, List, [], ◌∷◌, length, Bool, true, false, ◌==◌, ◌&&◌, ◌||◌, not, nat_lt, if◌then◌else◌, Option, Some, None, Result, Ok, Err}
use Rattle.std.specs.List.{list_any, AllByRecursion}
use Rattle.dns_name.specs.Name.{is_same_name, is_at_or_below}
use Rattle.dns_wire.specs.declared.rdata.Data.TheVariants.{Empty}
use Rattle.dns_wire.specs.declared.record.Record.{Record}
use Rattle.dns_wire.specs.declared.class.TheConstants as class
use Rattle.dns_wire.specs.declared.record_type.TheConstants.{SOA, AXFR}
use Rattle.dns_wire.specs.Standing.{RecordAt}
use Rattle.dns_wire.specs.WireFormat.{IsShort}
use Rattle.dns_wire.specs.ReadBack.{ReadsBack}
use Rattle.dns_keeper.specs.declared.row.Row.{Row}
use Rattle.dns_keeper.specs.Rows.{last_id}
use Rattle.dns_zone_map.specs.Zone.{Contents, is_type, IsEntry}
use Rattle.dns_update.specs.declared.replay_kind.ReplayKind.{ReplayKind}
use Rattle.dns_update.specs.declared.replay_kind.ReplayKind.TheVariants.{NoRecord, OutOfPlace, NotOneSoa}
use Rattle.dns_update.specs.declared.row_change.RowEffect.{RowEffect}
use Rattle.dns_update.specs.declared.row_change.RowEffect.TheVariants.{Snapshot, Change, Refused}
use Rattle.dns_zone_map.specs.Changes.{set_serial}
use Rattle.dns_update.specs.Change.{fold_record, step}
use Rattle.dns_update.specs.Verdict.{is_empty, is_update}

-- a row that is refused, by its id, and why
pub record Refusal : Type 0 where
  pub row : ℤ
  pub kind : ReplayKind

-- bytes are one record, from the first to the last (RFC 1035 4.1.3)
abbrev pub IsOneRecord : List ℕ → Record → Type 0
IsOneRecord bytes r = RecordAt bytes 0 r (length bytes)

-- the record that bytes are, if they are one
abbrev pub IsReading : List ℕ → Option Record → Type 0
IsReading bytes None = (r : Record) → IsOneRecord bytes r → ⊥
IsReading bytes (Some r) = IsOneRecord bytes r

-- each number of a list is a byte
abbrev pub AreBytes : List ℕ → Type 0
AreBytes bytes = (i : ℕ) → get_or bytes i 0 < 256

-- the data of the records that rows are has at most 65,535 bytes, its names written out
abbrev pub AreShortRows : List Row → Type 0
AreShortRows = AllByRecursion (λ row. (r : Record) → IsOneRecord row.bytes r → IsShort r)

-- the record of a snapshot row, after which the zone is told anew: the origin, type 252, class IN, TTL 0, no data
abbrev pub snapshot_of : List (List ℕ) → Record
snapshot_of origin = record { name = origin; rtype = AXFR; class = class.IN; ttl = 0; rdata = Empty }

-- what a journal begins with: the snapshot, and then the zone's records in order
abbrev pub opening_of : Contents → List Record
opening_of zone = snapshot_of zone.origin ∷ zone.records

-- the record is that of a snapshot row
abbrev pub is_snapshot : List (List ℕ) → Record → Bool
is_snapshot origin r = is_same_name r.name origin && ((r.rtype == AXFR) && ((r.class == class.IN) && ((r.ttl == 0) && is_empty r.rdata)))

-- an SOA of class IN away from the origin
abbrev pub is_stray_soa : List (List ℕ) → Record → Bool
is_stray_soa origin r = is_type SOA r && ((r.class == class.IN) && not (is_same_name r.name origin))

-- the record is an addition or a deletion in the zone
abbrev pub is_journalled : List (List ℕ) → Record → Bool
is_journalled origin r = is_at_or_below r.name origin && (is_update r && not (is_stray_soa origin r))

-- a change of the zone that reads back from its row as it is: its names are folded
pub record IsJournalledAsIs (origin : List (List ℕ)) (r : Record) : Type 0 where
  pub back : ReadsBack r
  pub folded : fold_record r ≡ r
  pub journalled : is_journalled origin r ≡ true

-- a number is this place
abbrev pub is_place : ℕ → ℤ → Bool
is_place place (pos n) = n == place
is_place place (negsuc n) = false

-- a number is a serial's
abbrev pub is_serial : ℤ → Bool
is_serial (pos n) = nat_lt n (2 ^ 32)
is_serial (negsuc n) = false

-- the serial that it is
abbrev pub serial_in : ℤ → ℕ
serial_in (pos n) = n
serial_in (negsuc n) = 0

-- a row's id is its place, its serial is one, and its record is a snapshot's, or, after the first row, a change
abbrev pub is_in_place : List (List ℕ) → ℕ → Row → Record → Bool
is_in_place origin place row r =
    is_place place row.id && (is_serial row.serial && (is_snapshot origin r || (not (place == 1) && is_journalled origin r)))

-- the records after a row: none after a snapshot; else its record is put or deleted, and the SOA has the row's serial
abbrev pub after_row : List (List ℕ) → List Record → Row → Record → List Record
after_row origin records row r =
    if is_snapshot origin r then [] else set_serial (serial_in row.serial) (step origin records (fold_record r))

-- what the row at a place makes of records, given the record that its bytes are
abbrev pub row_made : List (List ℕ) → ℕ → List Record → Row → Option Record → Result (List Record) ReplayKind
row_made origin place records row None = Err NoRecord
row_made origin place records row (Some r) = if is_in_place origin place row r then Ok (after_row origin records row r) else Err OutOfPlace

-- one thing holds of what was made, or another of why nothing was
abbrev pub Onward : Result (List Record) ReplayKind → (List Record → Type 0) → (ReplayKind → Type 0) → Type 0
Onward (Ok records) Made Fails = Made records
Onward (Err kind) Made Fails = Fails kind

-- a row that is refused
abbrev pub refused : Row → ReplayKind → Result (List Record) Refusal
refused row kind = Err (record { row = row.id; kind = kind })

-- rows from a place on, over the records that those before left: what they leave, or the first that is refused
abbrev pub RunsTo : List (List ℕ) → ℕ → List Record → List Row → Result (List Record) Refusal → Type 0
RunsTo origin place records [] end = end ≡ Ok records
RunsTo origin place records (row ∷ rows) end =
    (read : Option Record) × IsReading row.bytes read
    × Onward (row_made origin place records row read) (λ next. RunsTo origin (place + 1) next rows end) (λ kind. end ≡ refused row kind)

-- a record that comes into the zone, where it is an addition, is fit for it
abbrev pub MayCome : List (List ℕ) → Record → Type 0
MayCome origin r = (r.class == class.IN) ≡ true → IsEntry origin r

-- a record where it ends with its bytes
abbrev pub if_whole : Record → ℕ → ℕ → Option Record
if_whole r end size = if end == size then Some r else None

-- what the row at a place does, whatever was before it and comes behind it
abbrev pub Does : List (List ℕ) → ℕ → Row → RowEffect → Type 0
Does origin place row Snapshot = (records : List Record) → RunsTo origin place records (row ∷ []) (Ok [])
Does origin place row (Change one serial) =
    MayCome origin one × ((records : List Record)
    → RunsTo origin place records (row ∷ []) (Ok (set_serial serial (step origin records one))))
Does origin place row (Refused kind) =
    (records : List Record) (rows : List Row) → RunsTo origin place records (row ∷ rows) (refused row kind)

-- the end of a run: there is an SOA, or the last row is refused
abbrev pub with_soa : ℤ → Result (List Record) Refusal → Result (List Record) Refusal
with_soa last (Ok records) = if list_any (is_type SOA) records then Ok records else Err (record { row = last; kind = NotOneSoa })
with_soa last (Err refusal) = Err refusal

-- the rows from the first on stand for these records of a zone, or the first that is refused is this one
pub record Replays (origin : List (List ℕ)) (rows : List Row) (end : Result (List Record) Refusal) : Type 0 where
  pub run : Result (List Record) Refusal
  pub runs : RunsTo origin 1 [] rows run
  pub is : end ≡ with_soa (last_id rows) run
