-- Rows that stand for records stand for those of a zone.
use Rattle.std.proofs.Common.{◌≡◌, ℕ, ◌+◌, List, [], ◌∷◌, refl, sym, ◌∙◌, subst, Bool, true, false}
use Rattle.std.specs.Prelude.{not, ◌==◌, ◌&&◌, ◌||◌, if◌then◌else◌, Ok}
use Rattle.std.specs.List.{IsDistinct}
use Rattle.dns_name.specs.Name.{fold_of}
use Rattle.dns_wire.specs.declared.record.Record.{Record}
use Rattle.dns_wire.specs.WireFormat.{IsShort}
use Rattle.dns_keeper.specs.declared.row.Row.{Row}
use Rattle.dns_zone_map.specs.Zone.{IsZone, IsSoFar}
use Rattle.dns_zone_map.specs.Changes.{set_serial}
use Rattle.dns_update.specs.Change.{fold_record, step}
use Rattle.dns_update.specs.Replay.{IsOneRecord, is_snapshot, is_stray_soa, is_journalled, is_place, is_serial, serial_in, is_in_place, after_row, RunsTo, Replays, MayCome, AreShortRows}
use Rattle.dns_update.proofs.SameRecords.{both_of}
use Rattle.dns_update.proofs.Folded.{fold_of-fold_of, fold_record-fold_record, below_folded, update_folded, form_folded, short_folded}
use Rattle.dns_update.proofs.Reading.{form_at}
use Rattle.dns_update.proofs.Rows.{runs_first}
use Rattle.dns_update.proofs.Zones.{entry_of, step_so_far, so_far_at}
use Rattle.dns_update.proofs.Replayed.{has_run}

-- no records may become those of a zone
pub none_so_far : (origin : List (List ℕ)) → IsSoFar origin []
unfolding IsDistinct
none_so_far origin = record { entries = tt; distinct = tt }

-- the change of a row is one with its names folded
stray_folded : (origin : List (List ℕ)) (r : Record) → is_stray_soa origin (fold_record r) ≡ is_stray_soa origin r
stray_folded origin r = rw (fold_of-fold_of r.name) refl

journalled_folded : (origin : List (List ℕ)) (r : Record) → is_journalled origin (fold_record r) ≡ is_journalled origin r
journalled_folded origin r = rw (below_folded r.name origin, update_folded r, stray_folded origin r) refl

pub row_entry : (origin : List (List ℕ)) (bytes : List ℕ) (r : Record) → IsOneRecord bytes r → IsShort r → is_journalled origin r ≡ true → MayCome origin (fold_record r)
row_entry origin bytes r one short journalled =
    entry_of origin (fold_record r) (journalled_folded origin r ∙ journalled) (form_folded r (form_at bytes 0 _ r one)) (short_folded r short) (fold_record-fold_record r)

-- a row is in its place where it is a snapshot or else a change
pub change_if : (snapshot first journalled : Bool) → snapshot ≡ false → (snapshot || (not first && journalled)) ≡ true → journalled ≡ true
change_if true first journalled e h = absurd cc
change_if false true journalled e h = absurd cc
change_if false false journalled e h = h

after_if : (snapshot : Bool) (origin : List (List ℕ)) (records : List Record) (row : Row) (r : Record) → (snapshot ≡ false → MayCome origin (fold_record r)) → IsSoFar origin records
    → IsSoFar origin (if snapshot then [] else set_serial (serial_in row.serial) (step origin records (fold_record r)))
after_if true origin records row r entry before = none_so_far origin
after_if false origin records row r entry before = so_far_at origin (serial_in row.serial) (step origin records (fold_record r)) (step_so_far origin records (fold_record r) (entry refl) before)

-- a row that is taken leaves records that may become those of a zone
pub row_so_far : (origin : List (List ℕ)) (place : ℕ) (records : List Record) (row : Row) (r : Record) → IsOneRecord row.bytes r → IsShort r → is_in_place origin place row r ≡ true → IsSoFar origin records
    → IsSoFar origin (after_row origin records row r)
row_so_far origin place records row r one short placed before =
    let first = both_of (is_place place row.id) (is_serial row.serial && (is_snapshot origin r || (not (place == 1) && is_journalled origin r))) placed in
    let second = both_of (is_serial row.serial) (is_snapshot origin r || (not (place == 1) && is_journalled origin r)) first.1 in
    after_if (is_snapshot origin r) origin records row r
    (λ other. row_entry origin row.bytes r one short (change_if (is_snapshot origin r) (place == 1) (is_journalled origin r) other second.1)) before

rows_so_far : (origin : List (List ℕ)) (place : ℕ) (records : List Record) (rows : List Row) (end : List Record) → AreShortRows rows → RunsTo origin place records rows (Ok end) → IsSoFar origin records → IsSoFar origin end
rows_so_far origin place records [] end short runs before =
    let same : end ≡ records = cc in
    subst (IsSoFar origin) (sym same) before
rows_so_far origin place records (row ∷ rows) end short runs before =
    let b = runs_first origin place records row rows end runs in
    let after = row_so_far origin place records row b.1.r b.1.one (short.0 b.1.r b.1.one) b.1.placed before in
    rows_so_far origin (place + 1) b.0 rows end short.1 b.2 (subst (IsSoFar origin) (sym b.1.is) after)

-- the zone of a journal
pub replay_zone : (origin : List (List ℕ)) (rows : List Row) (records : List Record) → fold_of origin ≡ origin → AreShortRows rows → Replays origin rows (Ok records) → IsZone origin records
replay_zone origin rows records folded short p =
    let h = has_run origin rows records p in
    let so_far = rows_so_far origin 1 [] rows records short h.runs (none_so_far origin) in
    record { folded = folded; entries = so_far.entries; distinct = so_far.distinct; soa = h.soa }
