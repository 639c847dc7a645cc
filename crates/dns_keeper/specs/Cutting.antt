-- How far batches cover rows, told by the runs of the rows that are left.
use Rattle.std.specs.Prelude.{◌≡◌, ◌+ℤ◌, ◌-ℤ◌, ℤ, pos, Bool, false, List, [], ◌∷◌, if◌then◌else◌}
use Rattle.std.specs.Ordering.{int_eq}
use Rattle.std.specs.Int.Signed.{le_z}
use Rattle.dns_keeper.specs.declared.row.Row.{Row}
use Rattle.dns_keeper.specs.declared.batch_row.BatchRow.{BatchRow}
use Rattle.dns_keeper.specs.Batches.{runs_of, uncovered, AreNumbered}

-- the place that is reached, and the runs of the rows from there on
pub record Reached : Type 0 where
  pub place : ℤ
  pub runs : List BatchRow

-- a batch is a front of the first run, which begins at this place
abbrev pub is_front : ℤ → List BatchRow → BatchRow → Bool
is_front e [] b = false
is_front e (r ∷ runs) b = if int_eq b.first e then (if le_z (pos 1) b.count then le_z b.count r.count else false) else false

-- runs without a front of so many rows of the first
abbrev pub cut : ℤ → List BatchRow → List BatchRow
cut n [] = []
cut n (r ∷ runs) = if int_eq n r.count then runs else record { first = r.first +ℤ n; count = r.count -ℤ n } ∷ runs

-- these rows are left, from the place on
pub record Reaches (rows : List Row) (reached : Reached) : Type 0 where
  pub numbered : AreNumbered reached.place rows
  pub runs : reached.runs ≡ runs_of rows

-- a batch covers a front of these rows, and the place that is reached moves behind it
pub record Passes (rows : List Row) (b : BatchRow) (old new : Reached) : Type 0 where
  pub left : List Row
  pub reaches : Reaches left new
  pub same : (more : List BatchRow) → uncovered old.place rows (b ∷ more) ≡ uncovered new.place left more
