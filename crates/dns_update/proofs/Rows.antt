-- Rows that run to an end.
use Rattle.std.proofs.Common.{◌≡◌, ℕ, suc, ◌+◌, ◌<◌, ◌^◌, List, [], ◌∷◌, ◌++◌, length, refl, sym, ap, ◌∙◌, subst, arith, Bool, true, false}
use Rattle.std.specs.Prelude.{ℤ, pos, negsuc, slice_get, not, ◌==◌, ◌&&◌, ◌||◌, if◌then◌else◌, nat_lt, Option, Some, None, Result, Ok, Err}
use Rattle.std.specs.List.{AllByRecursion}
use Rattle.std.proofs.lemmas.Bool.Decides.{Decides-eqb, nat_tests}
use Rattle.dns_wire.specs.declared.record.Record.{Record}
use Rattle.dns_wire.specs.WireFormat.{record_bytes}
use Rattle.dns_wire.proofs.Back.{record_alone}
use Rattle.dns_wire.proofs.ItemsDetermined.{RecordAt-one}
use Rattle.dns_keeper.specs.declared.row.Row.{Row}
use Rattle.dns_keeper.specs.Rows.{id_of, last_id, rows_of}
use Rattle.dns_keeper.specs.Batches.{AreNumbered}
use Rattle.dns_name.specs.Name.{is_same_name}
use Rattle.dns_zone_map.specs.Zone.{is_meta}
use Rattle.dns_update.specs.declared.replay_kind.ReplayKind.{ReplayKind}
use Rattle.dns_update.specs.declared.replay_kind.ReplayKind.TheVariants.{OutOfPlace}
use Rattle.dns_zone_map.specs.Changes.{set_serial}
use Rattle.dns_update.specs.Change.{step}
use Rattle.dns_update.specs.Verdict.{is_empty, is_update, is_deletion_of_sets, is_deletion_of_record}
use Rattle.dns_update.specs.Replay.{Refusal, IsOneRecord, IsReading, is_snapshot, is_journalled, IsJournalledAsIs, is_place, is_serial, is_in_place, after_row, row_made, Onward, refused, RunsTo}
use Rattle.dns_update.proofs.SameRecords.{both_of}
use Rattle.dns_update.proofs.Serials.{steps_at}

-- a row that is taken, and the records that it leaves
pub record IsTaken (origin : List (List ℕ)) (place : ℕ) (records : List Record) (row : Row) (next : List Record) : Type 0 where
  pub r : Record
  pub one : IsOneRecord row.bytes r
  pub placed : is_in_place origin place row r ≡ true
  pub is : next ≡ after_row origin records row r

onward_if : (b : Bool) (made : List Record) (Made : List Record → Type 0) (Refused : ReplayKind → Type 0) → b ≡ true → Made made → Onward (if b then Ok made else Err OutOfPlace) Made Refused
onward_if true made Made Refused e holds = holds
onward_if false made Made Refused e holds = absurd cc

-- a run whose first row is taken
pub runs_next : (origin : List (List ℕ)) (place : ℕ) (records : List Record) (row : Row) (rows : List Row) (next : List Record) (end : Result (List Record) Refusal)
    → IsTaken origin place records row next → RunsTo origin (place + 1) next rows end → RunsTo origin place records (row ∷ rows) end
runs_next origin place records row rows next end t run =
    let rest : RunsTo origin (place + 1) (after_row origin records row t.r) rows end = subst (λ (l : List Record). RunsTo origin (place + 1) l rows end) t.is run in
    (Some t.r, t.one, onward_if (is_in_place origin place row t.r) (after_row origin records row t.r) (λ l. RunsTo origin (place + 1) l rows end) (λ kind. end ≡ refused row kind) t.placed rest)

-- a run without a refusal takes its first row
abbrev pub Begins : List (List ℕ) → ℕ → List Record → Row → List Row → List Record → Type 0
Begins origin place records row rows end = (next : List Record) × IsTaken origin place records row next × RunsTo origin (place + 1) next rows (Ok end)

begins_if : (b : Bool) (origin : List (List ℕ)) (place : ℕ) (records : List Record) (row : Row) (rows : List Row) (end : List Record) (r : Record) → is_in_place origin place row r ≡ b → IsOneRecord row.bytes r
    → Onward (if b then Ok (after_row origin records row r) else Err OutOfPlace) (λ l. RunsTo origin (place + 1) l rows (Ok end)) (λ kind. Ok end ≡ refused row kind)
    → Begins origin place records row rows end
begins_if true origin place records row rows end r e one run = (after_row origin records row r, record { r = r; one = one; placed = e; is = refl }, run)
begins_if false origin place records row rows end r e one run = absurd cc

begins_by : (read : Option Record) (origin : List (List ℕ)) (place : ℕ) (records : List Record) (row : Row) (rows : List Row) (end : List Record) → IsReading row.bytes read
    → Onward (row_made origin place records row read) (λ l. RunsTo origin (place + 1) l rows (Ok end)) (λ kind. Ok end ≡ refused row kind)
    → Begins origin place records row rows end
begins_by None origin place records row rows end reading run = absurd cc
begins_by (Some r) origin place records row rows end reading run = begins_if (is_in_place origin place row r) origin place records row rows end r refl reading run

pub runs_first : (origin : List (List ℕ)) (place : ℕ) (records : List Record) (row : Row) (rows : List Row) (end : List Record) → RunsTo origin place records (row ∷ rows) (Ok end) → Begins origin place records row rows end
runs_first origin place records row rows end run = begins_by run.0 origin place records row rows end run.1 run.2

-- rows after others go on where those ended
pub runs_on : (origin : List (List ℕ)) (place : ℕ) (records : List Record) (xs ys : List Row) (middle : List Record) (end : Result (List Record) Refusal)
    → RunsTo origin place records xs (Ok middle) → RunsTo origin (place + length xs) middle ys end → RunsTo origin place records (xs ++ ys) end
runs_on origin place records [] ys middle end first more =
    let same : middle ≡ records = cc in
    let here : place + 0 ≡ place = omega arith in
    subst (λ (l : List Record). RunsTo origin place l ys end) same (subst (λ (p : ℕ). RunsTo origin p middle ys end) here more)
runs_on origin place records (x ∷ xs) ys middle end first more =
    let b = runs_first origin place records x xs middle first in
    let here : place + suc (length xs) ≡ place + 1 + length xs = omega arith in
    runs_next origin place records x (xs ++ ys) b.0 end b.1 (runs_on origin (place + 1) b.0 xs ys middle end b.2 (subst (λ (p : ℕ). RunsTo origin p middle ys end) here more))

-- bytes are read in one way
reading_one : (bytes : List ℕ) (a b : Option Record) → IsReading bytes a → IsReading bytes b → a ≡ b
reading_one bytes None None x y = refl
reading_one bytes None (Some r) x y = absurd (x r y)
reading_one bytes (Some r) None x y = absurd (y r x)
reading_one bytes (Some r) (Some s) x y = ap (λ z. Some z) (RecordAt-one bytes 0 (length bytes) (length bytes) r s x y).0

onward_one : (made : Result (List Record) ReplayKind) (a b : Result (List Record) Refusal) (Made : List Record → Result (List Record) Refusal → Type 0) (row : Row)
    → ((l : List Record) → Made l a → Made l b → a ≡ b) → Onward made (λ l. Made l a) (λ kind. a ≡ refused row kind) → Onward made (λ l. Made l b) (λ kind. b ≡ refused row kind) → a ≡ b
onward_one (Ok l) a b Made row one x y = one l x y
onward_one (Err kind) a b Made row one x y = x ∙ sym y

-- and rows run to one end
pub runs_one : (origin : List (List ℕ)) (place : ℕ) (records : List Record) (rows : List Row) (a b : Result (List Record) Refusal) → RunsTo origin place records rows a → RunsTo origin place records rows b → a ≡ b
runs_one origin place records [] a b x y = x ∙ sym y
runs_one origin place records (row ∷ rows) a b x y =
    let same : y.0 ≡ x.0 = reading_one row.bytes y.0 x.0 y.1 x.1 in
    onward_one (row_made origin place records row x.0) a b (λ l end. RunsTo origin (place + 1) l rows end) row
    (λ l. runs_one origin (place + 1) l rows a b) x.2
    (subst (λ (read : Option Record). Onward (row_made origin place records row read) (λ l. RunsTo origin (place + 1) l rows b) (λ kind. b ≡ refused row kind)) same y.2)

-- the id of a row that is taken is its place
place_is : (place : ℕ) (id : ℤ) → is_place place id ≡ true → id ≡ pos place
place_is place (pos n) passed = ap pos ((Decides-eqb n place).0 passed)
place_is place (negsuc n) passed = absurd cc

taken_place : (origin : List (List ℕ)) (place : ℕ) (records : List Record) (row : Row) (next : List Record) → IsTaken origin place records row next → row.id ≡ pos place
taken_place origin place records row next t =
    place_is place row.id (both_of (is_place place row.id) (is_serial row.serial && (is_snapshot origin t.r || (not (place == 1) && is_journalled origin t.r))) t.placed).0

last_at : (row : Row) (rows : List Row) → last_id (row ∷ rows) ≡ id_of (slice_get (row ∷ rows) (length rows))
last_at row rows = ap (λ (i : ℕ). id_of (slice_get (row ∷ rows) i)) (omega arith)

last_place : (origin : List (List ℕ)) (place : ℕ) (records : List Record) (row : Row) (rows : List Row) (end : List Record) → RunsTo origin place records (row ∷ rows) (Ok end)
    → id_of (slice_get (row ∷ rows) (length rows)) ≡ pos (place + length rows)
last_place origin place records row [] end run =
    let b = runs_first origin place records row [] end run in
    taken_place origin place records row b.0 b.1 ∙ ap pos (omega arith)
last_place origin place records row (other ∷ rows) end run =
    let b = runs_first origin place records row (other ∷ rows) end run in
    last_place origin (place + 1) b.0 other rows end b.2 ∙ ap pos (omega arith)

-- rows that run to records have the ids from the first place on
pub last_is : (origin : List (List ℕ)) (place : ℕ) (records : List Record) (row : Row) (rows : List Row) (end : List Record) → RunsTo origin place records (row ∷ rows) (Ok end) → last_id (row ∷ rows) ≡ pos (place + length rows)
last_is origin place records row rows end run = last_at row rows ∙ last_place origin place records row rows end run

pub numbered_from : (origin : List (List ℕ)) (place : ℕ) (records : List Record) (rows : List Row) (end : List Record) → RunsTo origin place records rows (Ok end) → AreNumbered (pos place) rows
numbered_from origin place records [] end run = tt
numbered_from origin place records (row ∷ rows) end run =
    let b = runs_first origin place records row rows end run in
    (taken_place origin place records row b.0 b.1, numbered_from origin (place + 1) b.0 rows end b.2)

no_snapshot_if : (same snapshot here still empty meta other : Bool) → (if here then not meta && not empty else other) ≡ true → (same && (snapshot && (here && (still && empty)))) ≡ false
no_snapshot_if false snapshot here still empty meta other h = refl
no_snapshot_if true false here still empty meta other h = refl
no_snapshot_if true true false still empty meta other h = refl
no_snapshot_if true true true false empty meta other h = refl
no_snapshot_if true true true true false meta other h = refl
no_snapshot_if true true true true true true other h = absurd cc
no_snapshot_if true true true true true false other h = absurd cc

-- an update record is no snapshot
pub no_snapshot : (origin : List (List ℕ)) (r : Record) → is_update r ≡ true → is_snapshot origin r ≡ false
no_snapshot origin r h =
    no_snapshot_if (is_same_name r.name origin) (r.rtype == 252) (r.class == 1) (r.ttl == 0) (is_empty r.rdata) (is_meta r.rtype) (if r.class == 255 then is_deletion_of_sets r else (r.class == 254) && is_deletion_of_record r) h

-- a change is an update record within the zone
pub update_of : (origin : List (List ℕ)) (r : Record) → is_journalled origin r ≡ true → is_update r ≡ true
update_of origin r h = (both_of _ _ (both_of _ _ h).1).0

-- the row that a change is written as
abbrev pub row_at : ℕ → ℕ → ℕ → List ℕ → Record → Row
row_at place client k stamp r = record { id = pos place; client = pos client; serial = pos k; stamp = stamp; bytes = record_bytes r }

pub taken_row : (origin : List (List ℕ)) (place client k : ℕ) (stamp : List ℕ) (l : List Record) (r : Record) → 1 < place → k < 2 ^ 32 → IsJournalledAsIs origin r
    → IsTaken origin place l (row_at place client k stamp r) (set_serial k (step origin l r))
taken_row origin place client k stamp l r h j p =
    let here : (place == place) ≡ true = grind (arith, nat_tests) in
    let serial : nat_lt k (2 ^ 32) ≡ true = grind (arith, nat_tests) in
    let later : (place == 1) ≡ false = grind (arith, nat_tests) in
    let other : is_snapshot origin r ≡ false = no_snapshot origin r (update_of origin r p.journalled) in
    record {
      r = r;
      one = record_alone r p.back;
      placed = rw (here, serial, other, later, p.journalled) refl;
      is = rw (other, p.folded) refl;
    }

-- the rows of a batch do its steps one by one
pub batch_runs : (origin : List (List ℕ)) (place client k : ℕ) (stamp : List ℕ) (l : List Record) (rs : List Record) → 1 < place → k < 2 ^ 32 → AllByRecursion (IsJournalledAsIs origin) rs
    → RunsTo origin place l (rows_of (pos place) client k stamp rs) (Ok (steps_at origin k l rs))
batch_runs origin place client k stamp l [] h j p = refl
batch_runs origin place client k stamp l (r ∷ rs) h j p =
    runs_next origin place l (row_at place client k stamp r) (rows_of (pos (place + 1)) client k stamp rs) (set_serial k (step origin l r)) (Ok (steps_at origin k (set_serial k (step origin l r)) rs))
    (taken_row origin place client k stamp l r h j p.0)
    (batch_runs origin (place + 1) client k stamp (set_serial k (step origin l r)) rs (omega arith) j p.1)
