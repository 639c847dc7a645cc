-- How far the rows of a journal were read that are to be fed, and how far they were marked.
use Rattle.std.specs.Prelude.{◌≡◌, ℕ, ℤ, pos, ◌+◌, ◌-ℤ◌, ◌++◌, List, length, map, take, drop, Option, Some, None, IfSome, true, false, if◌then◌else◌}
use Rattle.std.specs.Int.Signed.{le_z}
use Rattle.dns_keeper.specs.declared.row.Row.{Row}
use Rattle.dns_keeper.specs.declared.batch_row.BatchRow.{BatchRow}
use Rattle.dns_keeper.specs.Batches.{uncovered, AreNumbered, Covers}
use Rattle.dns_keeper.specs.Keeping.{KeeperTold}
use Rattle.dns_keeper.specs.Rows.{first_of, AreAscending}
use Rattle.dns_keeper.specs.RunsSoFar.{RunsSoFar, AreRunsOf}
use Rattle.dns_follow.specs.declared.frame.Frame.{Frame}
use Rattle.dns_follow.specs.declared.feed_fault.FeedFault.{FeedFault}
use Rattle.dns_follow.specs.declared.feed_fault.FeedFault.TheVariants as fault
use Rattle.dns_follow.specs.Feed.{ends_batch, frame_of}
use Rattle.dns_follow.specs.Feeding.{unfit, rows_from}

-- ---- rows that are read

-- these rows were seen, whose ids are 1 and those that follow: their runs, those of them from an id on, and the first that is unfit
pub record AreScanned (from : ℕ) (runs : RunsSoFar) (kept : List Row) (wrong : Option ℤ) (rows : List Row) : Type 0 where
  pub numbered : AreNumbered (pos 1) rows
  pub counted : AreRunsOf rows runs
  pub from_on : kept ≡ rows_from from rows
  pub unfit_is : wrong ≡ unfit rows

-- all rows were seen, of which the last one has this id; they are those that are told
pub record IsScanned (from : ℕ) (runs : RunsSoFar) (kept : List Row) (last : ℤ) (wrong : Option ℤ) (told : Option (List Row)) : Type 0 where
  pub rows : List Row
  pub seen : AreScanned from runs kept wrong rows
  pub number : last ≡ pos (length rows)
  pub are : IfSome told (λ l. l ≡ rows)

-- these are a front of ascending rows, and the next one is this, or there is none
pub record GoesOn (front : List Row) (next : Option Row) (rows : List Row) : Type 0 where
  pub rest : List Row
  pub parts : rows ≡ front ++ rest
  pub follows : next ≡ first_of rest
  pub ascending : AreAscending rows

-- a front of the rows was seen, up to the one at this place, which is the next one, if there is one
pub record IsScannedUpTo (from : ℕ) (runs : RunsSoFar) (kept : List Row) (wrong : Option ℤ) (place : ℕ) (next : Option Row)
    (told : Option (List Row)) : Type 0 where
  pub front : List Row
  pub seen : AreScanned from runs kept wrong front
  pub number : length front + 1 ≡ place
  pub goes : IfSome told (GoesOn front next)

-- why it is not known that batches cover rows, by what is told afterwards
abbrev pub IsUncovered : KeeperTold → FeedFault → Type 0
IsUncovered told fault.KeeperFault = Unit {0}
IsUncovered told fault.Write = ⊥
IsUncovered told (fault.OutOfPlace row) = IfSome told.rows (λ rows. uncovered (pos 1) rows told.batches ≡ Some row)
IsUncovered told (fault.TooLong row) = ⊥
IsUncovered told fault.OutOfMemory = Unit {0}

-- ---- rows that are marked

-- a batch ends with the row of this id, and none ends before it from another id on
pub record IsNextEnd (batches : List BatchRow) (id end : ℤ) : Type 0 where
  pub behind : le_z id end ≡ true
  pub ends : ends_batch batches end ≡ true
  pub between : (k : ℤ) → le_z id k ≡ true → le_z end k ≡ false → ends_batch batches k ≡ false

-- so it is, if it does not end before that one
abbrev pub IsKnownEnd : List BatchRow → ℤ → ℤ → Type 0
IsKnownEnd batches id end = le_z id end ≡ true → IsNextEnd batches id end

-- both, for the batches that are told
abbrev pub IsEndOf : KeeperTold → ℤ → ℤ → Type 0
IsEndOf told id end = IfSome told.rows (λ rows. IsNextEnd told.batches id end)

abbrev pub MayEndAt : KeeperTold → ℤ → ℤ → Type 0
MayEndAt told id end = IfSome told.rows (λ rows. IsKnownEnd told.batches id end)

-- the id before the first one of a batch, which is to be behind this id; else the last one
abbrev pub end_before : Option BatchRow → ℤ → ℤ → ℤ
end_before None id last = last
end_before (Some b) id last = if le_z b.first id then last else b.first -ℤ pos 1

-- these are the last rows of a journal in place, which ends with this id
pub record AreLast (kept : List Row) (last : ℤ) (batches : List BatchRow) (rows : List Row) : Type 0 where
  pub before : ℕ
  pub are : kept ≡ drop before rows
  pub numbered : AreNumbered (pos 1) rows
  pub covered : Covers (pos 1) rows batches
  pub number : last ≡ pos (length rows)

-- this is the id of a row of a journal in place, which ends with this other id
pub record IsIdIn (id last : ℤ) (batches : List BatchRow) (rows : List Row) : Type 0 where
  pub low : le_z (pos 1) id ≡ true
  pub high : le_z id last ≡ true
  pub covered : Covers (pos 1) rows batches
  pub number : last ≡ pos (length rows)

-- these are the frames of rows
abbrev pub IsMarkedBy : List BatchRow → List Row → List Frame → Type 0
IsMarkedBy batches rows frames = frames ≡ map (frame_of batches) rows

-- so they are by the batches that are told
abbrev pub AreMarked : KeeperTold → List Row → List Frame → Type 0
AreMarked told rows frames = IfSome told.rows (λ all. IsMarkedBy told.batches rows frames)

-- so many of the last rows were marked, and the end of the batch of the next one is known, if it has one of these
pub record IsMarkedUpTo (kept : List Row) (last : ℤ) (count : ℕ) (frames : List Frame) (end : ℤ) (batches : List BatchRow)
    (rows : List Row) : Type 0 where
  pub placed : AreLast kept last batches rows
  pub are : IsMarkedBy batches (take count kept) frames
  pub known : IsKnownEnd batches (pos (placed.before + 1 + count)) end
