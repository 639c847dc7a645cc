-- The runs of rows that came so far.
use Rattle.std.specs.Prelude.{◌≡◌, ◌&&◌, Bool, false, List, Option, Some, None}
use Rattle.std.specs.Ordering.{int_eq}
use Rattle.dns_keeper.specs.declared.row.Row.{Row}
use Rattle.dns_keeper.specs.declared.batch_row.BatchRow.{BatchRow}
use Rattle.dns_keeper.specs.declared.row_runs.Maker.{Maker}
use Rattle.dns_keeper.specs.Batches.{runs_of, goes_on}

-- a batch for each run, and who made the last row
pub record RunsSoFar : Type 0 where
  pub batches : List BatchRow
  pub last : Option Maker

-- the row is of the same client and serial as the last
abbrev pub is_made_by : Option Maker → Row → Bool
is_made_by None r = false
is_made_by (Some maker) r = int_eq maker.client r.client && int_eq maker.serial r.serial

-- they are those of these rows
pub record AreRunsOf (rows : List Row) (runs : RunsSoFar) : Type 0 where
  pub batches : runs.batches ≡ runs_of rows
  pub last : (r : Row) → is_made_by runs.last r ≡ goes_on rows r
