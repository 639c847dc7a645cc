-- Rows that stand for the records of a zone have the ids from 1 on, so that their runs cover them.
use Rattle.std.proofs.Common.{◌↔◌, ℕ, pos, List}
use Rattle.std.specs.Prelude.{Ok}
use Rattle.dns_name.specs.Name.{fold_of}
use Rattle.dns_wire.specs.declared.record.Record.{Record}
use Rattle.dns_keeper.specs.declared.row.Row.{Row}
use Rattle.dns_keeper.specs.Batches.{runs_of}
use Rattle.dns_keeper.proofs.Runs.{runs_cover}
use Rattle.dns_update.specs.Replay.{Replays}
use Rattle.dns_update.proofs.Replayed.{numbered_replayed}
use Rattle.dns_store.specs.Migrated.{StandCovered}

pub migrated : (origin : List (List ℕ)) (rows : List Row) (records : List Record) → Replays (fold_of origin) rows (Ok records) ↔ StandCovered origin rows (runs_of rows) records
migrated origin rows records = (λ p. record { replays = p; covered = runs_cover (pos 1) rows (numbered_replayed (fold_of origin) rows records p) }, λ s. s.replays)
