-- What is found of a row is what it does.
use Rattle.std.proofs.Common.{◌≡◌, ℕ, ◌+◌, List, [], length, refl, subst, Bool, true, false}
use Rattle.std.specs.Prelude.{not, ◌==◌, ◌&&◌, ◌||◌, if◌then◌else◌, Some, None, IfSome, Ok, Err}
use Rattle.std.proofs.lemmas.Bool.Decides.{Decides-eqb}
use Rattle.dns_wire.specs.declared.record.Record.{Record}
use Rattle.dns_wire.specs.Standing.{RecordAt, Reads}
use Rattle.dns_wire.specs.WireFormat.{IsShort}
use Rattle.dns_keeper.specs.declared.row.Row.{Row}
use Rattle.dns_update.specs.declared.replay_kind.ReplayKind.{ReplayKind}
use Rattle.dns_update.specs.declared.replay_kind.ReplayKind.TheVariants.{NoRecord, OutOfPlace}
use Rattle.dns_update.specs.declared.row_change.RowEffect.TheVariants.{Snapshot, Change, Refused}
use Rattle.dns_zone_map.specs.Changes.{set_serial}
use Rattle.dns_update.specs.Change.{fold_record, step}
use Rattle.dns_update.specs.Replay.{IsOneRecord, IsReading, is_snapshot, is_journalled, is_place, is_serial, serial_in, is_in_place, after_row, Onward, RunsTo, refused, if_whole, Does}
use Rattle.dns_update.proofs.SameRecords.{both_of}
use Rattle.dns_update.proofs.Rows.{runs_next}
use Rattle.dns_update.proofs.ReplayZones.{row_entry, change_if}

-- a record that ends with its bytes is what they are
whole_if : (b : Bool) (bytes : List ℕ) (r : Record) (end : ℕ) → (end == length bytes) ≡ b → RecordAt bytes 0 r end → ((x : Record) (j : ℕ) → RecordAt bytes 0 x j → (r ≡ x) × (end ≡ j))
    → IsReading bytes (if b then Some r else None)
whole_if true bytes r end e found only = subst (λ (j : ℕ). RecordAt bytes 0 r j) ((Decides-eqb end (length bytes)).0 e) found
whole_if false bytes r end e found only = λ x one.
    let test : (end == length bytes) ≡ true = (Decides-eqb end (length bytes)).1 (only x (length bytes) one).1 in
    absurd cc

pub whole : (bytes : List ℕ) (r : Record) (end : ℕ) → Reads (RecordAt bytes 0) (Some (r, end)) → IsReading bytes (if_whole r end (length bytes))
whole bytes r end reads = whole_if (end == length bytes) bytes r end refl reads.found (λ x j at. reads.only x j at)

pub none_whole : (bytes : List ℕ) → Reads (RecordAt bytes 0) None → IsReading bytes None
none_whole bytes reads = λ x one. reads.only x (length bytes) one

short_if : (b : Bool) (r : Record) → IsShort r → IfSome (if b then Some r else None) IsShort
short_if true r h = h
short_if false r h = tt

pub short_whole : (r : Record) (end size : ℕ) → IsShort r → IfSome (if_whole r end size) IsShort
short_whole r end size h = short_if (end == size) r h

module _ (origin : List (List ℕ)) (place : ℕ) (row : Row) where
  pub no_record : IsReading row.bytes None → Does origin place row (Refused NoRecord)
  no_record none = λ records rows. (None, none, refl)

  onward_not : (b : Bool) (made : List Record) (Made : List Record → Type 0) (Fails : ReplayKind → Type 0) → b ≡ false → Fails OutOfPlace → Onward (if b then Ok made else Err OutOfPlace) Made Fails
  onward_not true made Made Fails e holds = absurd cc
  onward_not false made Made Fails e holds = holds

  pub out_of_place : (r : Record) → IsOneRecord row.bytes r → is_in_place origin place row r ≡ false → Does origin place row (Refused OutOfPlace)
  out_of_place r one out = λ records rows.
      (Some r, one, onward_not (is_in_place origin place row r) (after_row origin records row r) (λ l. RunsTo origin (place + 1) l rows (refused row OutOfPlace)) (λ kind. refused row OutOfPlace ≡ refused row kind) out refl)

  pub snapshot : (r : Record) → IsOneRecord row.bytes r → is_in_place origin place row r ≡ true → is_snapshot origin r ≡ true → Does origin place row Snapshot
  snapshot r one placed is = λ records. runs_next origin place records row [] [] (Ok []) (record { r = r; one = one; placed = placed; is = rw is refl }) refl

  pub serial_placed : (r : Record) → is_in_place origin place row r ≡ true → is_serial row.serial ≡ true
  serial_placed r placed =
      (both_of (is_serial row.serial) (is_snapshot origin r || (not (place == 1) && is_journalled origin r)) (both_of (is_place place row.id) (is_serial row.serial && (is_snapshot origin r || (not (place == 1) && is_journalled origin r))) placed).1).0

  pub changed : (r : Record) → IsOneRecord row.bytes r → IsShort r → is_in_place origin place row r ≡ true → is_snapshot origin r ≡ false → Does origin place row (Change (fold_record r) (serial_in row.serial))
  changed r one short placed other =
      let second = both_of (is_place place row.id) (is_serial row.serial && (is_snapshot origin r || (not (place == 1) && is_journalled origin r))) placed in
      let third = both_of (is_serial row.serial) (is_snapshot origin r || (not (place == 1) && is_journalled origin r)) second.1 in
      let journalled = change_if (is_snapshot origin r) (place == 1) (is_journalled origin r) other third.1 in
      (row_entry origin row.bytes r one short journalled, λ records. runs_next origin place records row [] (set_serial (serial_in row.serial) (step origin records (fold_record r))) (Ok (set_serial (serial_in row.serial) (step origin records (fold_record r)))) (record { r = r; one = one; placed = placed; is = rw other refl }) refl)
