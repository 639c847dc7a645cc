-- The rows of a journal, taken one by one.
use Rattle.std.specs.Prelude.{◌≡◌, pos, List, [], length, Result, Ok, Err}
use Rattle.dns_wire.specs.declared.record.Record.{Record}
use Rattle.dns_keeper.specs.declared.row.Row.{Row}
use Rattle.dns_update.specs.Replay.{Refusal, RunsTo}
use Rattle.dns_zone.specs.declared.replaying.ReplayFault.{ReplayFault}
use Rattle.dns_zone.specs.declared.replaying.ReplayFault.TheVariants.{Refused, OutOfMemory}
use Rattle.dns_zone.specs.Replayed.{Replayed}

-- these rows were taken, none was refused, and they left these records; the last id is their number
pub record HasTaken (state : Replayed) (rows : List Row) : Type 0 where
  pub runs : RunsTo state.origin 1 [] rows (Ok state.records)
  pub last : state.last ≡ pos (length rows)

-- a refusal is how rows end; want of memory says nothing of them
abbrev pub TellsEnd : (Result (List Record) Refusal → Type 0) → ReplayFault → Type 0
TellsEnd Ends (Refused row kind) = Ends (Err (record { row = row; kind = kind }))
TellsEnd Ends OutOfMemory = Unit {0}
