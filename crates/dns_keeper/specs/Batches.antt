-- The batches of a journal: where each begins and how many rows it has, which runs the rows make, and when batches cover rows.
use Rattle.std.specs.Prelude.{◌≡◌, ◌+ℤ◌, ◌&&◌, ◌++◌, ℤ, pos, nat_abs, nat_le, Bool, true, false, List, [], ◌∷◌, length, take, drop, if◌then◌else◌, Option, Some, None, IsTrue}
use Rattle.std.specs.List.{list_all}
use Rattle.std.specs.Ordering.{int_eq}
use Rattle.std.specs.Int.Signed.{le_z}
use Rattle.dns_wire.specs.declared.record.Record.{Record}
use Rattle.dns_keeper.specs.declared.row.Row.{Row}
use Rattle.dns_keeper.specs.declared.batch_row.BatchRow.{BatchRow}

-- ---- batches by ascending first

-- the first of the batches, if there is one
abbrev pub first_batch : List BatchRow → Option BatchRow
first_batch [] = None
first_batch (b ∷ batches) = Some b

-- the first batch whose first is not below this id
abbrev pub batch_from : ℤ → List BatchRow → Option BatchRow
batch_from id [] = None
batch_from id (b ∷ batches) = if le_z id b.first then Some b else batch_from id batches

-- an id is below the first of the first batch, if there is one
abbrev pub is_below_batches : ℤ → List BatchRow → Bool
is_below_batches id [] = true
is_below_batches id (b ∷ batches) = if le_z b.first id then false else true

-- each batch has a greater first than the batch before it
abbrev pub is_by_first : List BatchRow → Bool
is_by_first [] = true
is_by_first (b ∷ batches) = if is_below_batches b.first batches then is_by_first batches else false

-- batches by ascending first
abbrev pub AreByFirst : List BatchRow → Type 0
AreByFirst batches = is_by_first batches ≡ true

-- one of the batches begins at this id
abbrev pub begins_at : ℤ → List BatchRow → Bool
begins_at id [] = false
begins_at id (b ∷ batches) = if int_eq b.first id then true else begins_at id batches

-- batches with one more, in its place by ascending first
abbrev pub put_batch : BatchRow → List BatchRow → List BatchRow
put_batch b [] = b ∷ []
put_batch b (c ∷ batches) = if le_z b.first c.first then b ∷ c ∷ batches else c ∷ put_batch b batches

-- batches after records came, the first of them under this id: one more, in its place, where there are any
abbrev pub batches_with : ℤ → List Record → List BatchRow → List BatchRow
batches_with id [] batches = batches
batches_with id (r ∷ rs) batches = put_batch (record { first = id; count = pos (length (r ∷ rs)) }) batches

-- ---- runs

-- two rows of one client and one serial
abbrev pub are_alike : Row → Row → Bool
are_alike r s = int_eq r.client s.client && int_eq r.serial s.serial

-- the batches where a row comes in front: it joins the first batch where it is like the row after it, else it is one of its own
abbrev pub begun_with : Row → List Row → List BatchRow → List BatchRow
begun_with r (s ∷ rows) (b ∷ batches) =
    if are_alike r s then record { first = r.id; count = b.count +ℤ pos 1 } ∷ batches else record { first = r.id; count = pos 1 } ∷ b ∷ batches
begun_with r _ _ = record { first = r.id; count = pos 1 } ∷ []

-- one batch for each longest run of neighbouring rows that are alike: its first is its first id, its count its length
abbrev pub runs_of : List Row → List BatchRow
runs_of [] = []
runs_of (r ∷ rows) = begun_with r rows (runs_of rows)

-- ---- covering

-- rows of one client and one serial, of which there is one at least
abbrev pub IsRun : List Row → Type 0
IsRun [] = ⊥
IsRun (r ∷ rows) = IsTrue (list_all (are_alike r) rows)

-- rows with the ids from e on are the rows of these batches, each of them a run, in order
abbrev pub Covers : ℤ → List Row → List BatchRow → Type 0
Covers e rows [] = rows ≡ []
Covers e rows (b ∷ batches) =
    (run : List Row) × (rest : List Row) × (rows ≡ run ++ rest) × IsRun run × (b ≡ record { first = e; count = pos (length run) })
    × Covers (e +ℤ pos (length run)) rest batches

-- a batch of rows of which the first has the id e: it begins there, has a row at least, so many rows are there, and they are of one
-- client and one serial
abbrev pub is_batch : ℤ → List Row → BatchRow → Bool
is_batch e [] b = false
is_batch e (r ∷ rows) b =
    int_eq b.first e && le_z (pos 1) b.count && nat_le (nat_abs b.count) (length (r ∷ rows))
    && list_all (are_alike r) (take (nat_abs b.count) (r ∷ rows))

-- the place where batches cease to cover rows with the ids from e on; None where they cover them all
abbrev pub uncovered : ℤ → List Row → List BatchRow → Option ℤ
uncovered e [] [] = None
uncovered e (r ∷ rows) [] = Some e
uncovered e rows (b ∷ batches) =
    if is_batch e rows b then uncovered (e +ℤ b.count) (drop (nat_abs b.count) rows) batches else Some e

-- rows with the ids from e on
abbrev pub AreNumbered : ℤ → List Row → Type 0
AreNumbered e [] = Unit {0}
AreNumbered e (r ∷ rows) = (r.id ≡ e) × AreNumbered (e +ℤ pos 1) rows

-- ---- runs, as rows come one after another

-- the row is like the last of those before it
abbrev pub goes_on : List Row → Row → Bool
goes_on [] r = false
goes_on (s ∷ []) r = are_alike s r
goes_on (s ∷ t ∷ rows) r = goes_on (t ∷ rows) r

-- the last batch has one row more
abbrev pub counted_up : List BatchRow → List BatchRow
counted_up [] = []
counted_up (b ∷ []) = record { first = b.first; count = b.count +ℤ pos 1 } ∷ []
counted_up (b ∷ c ∷ batches) = b ∷ counted_up (c ∷ batches)

-- batches after one row more, which goes on with the last batch or begins one
abbrev pub grown : Bool → ℤ → List BatchRow → List BatchRow
grown joins id batches = if joins then counted_up batches else batches ++ record { first = id; count = pos 1 } ∷ []
