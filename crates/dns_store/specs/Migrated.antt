-- What the rows and the batches of a journal stand for together.
use Rattle.std.specs.Prelude.{ℕ, pos, List, Ok}
use Rattle.dns_name.specs.Name.{fold_of}
use Rattle.dns_wire.specs.declared.record.Record.{Record}
use Rattle.dns_keeper.specs.declared.row.Row.{Row}
use Rattle.dns_keeper.specs.declared.batch_row.BatchRow.{BatchRow}
use Rattle.dns_keeper.specs.Batches.{Covers}
use Rattle.dns_update.specs.Replay.{Replays}

-- rows and batches stand for these records of a zone: the rows do, and the batches cover them
pub record StandCovered (origin : List (List ℕ)) (rows : List Row) (batches : List BatchRow) (records : List Record) : Type 0 where
  pub replays : Replays (fold_of origin) rows (Ok records)
  pub covered : Covers (pos 1) rows batches
