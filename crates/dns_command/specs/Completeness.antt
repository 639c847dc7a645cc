-- What keeps the program from its work: nothing but a fault that is named above, and want of memory.
use Rattle.std.specs.Prelude.{◌≡◌, ◌≤◌, ◌⊎◌, ℕ, List, [], length, Some, None, IsSome, MatchOption, Ok}
use Rattle.dns_io.specs.Told.{Rose}
use Rattle.dns_name.specs.Name.{fold_of}
use Rattle.dns_wire.specs.declared.record.Record.{Record}
use Rattle.dns_keeper.specs.declared.row.Row.{Row}
use Rattle.dns_update.specs.Replay.{Replays}
use Rattle.dns_zone.specs.ZoneText.{zone_of}
use Rattle.dns_store.specs.Covered.{IsCovered}
use Rattle.dns_server_core.specs.declared.event.Event.{Event}
use Rattle.dns_server_core.specs.Valid.{Valid}
use Rattle.dns_server_core.specs.Connections.{new_kept}
use Rattle.dns_command.specs.declared.status.Status.{Status}
use Rattle.dns_command.specs.declared.status.Status.TheVariants as status
use Rattle.dns_command.specs.declared.command_line.Options.{Options}
use Rattle.dns_command.specs.CommandLine.{options_of}
use Rattle.dns_command.specs.EventText.{events_of}
use Rattle.dns_command.specs.Steps.{zone_bound, event_bound}
use Rattle.dns_command.specs.World.{World}

-- there is a zone of this origin: the journal has no row, and the zone text is a zone's, within its bound; or the journal's rows
-- stand for one
pub data HasZone (w : World) (origin : List (List ℕ)) : Type 0 where
  in_text : (text : List ℕ) (records : List Record) → w.journal.before.rows ≡ Some [] → w.zone.before.left ≡ Some text
      → length text ≤ zone_bound → zone_of origin text ≡ Ok records → HasZone w origin
  in_rows : (rows : List Row) (records : List Record) → w.journal.before.rows ≡ Some rows
      → Replays (fold_of origin) rows (Ok records) → HasZone w origin

-- the journal can be opened for a zone of this origin: it has no row, or its rows stand for one
pub data HasJournal (w : World) (origin : List (List ℕ)) : Type 0 where
  without_rows : w.journal.before.rows ≡ Some [] → HasJournal w origin
  with_rows : (rows : List Row) (records : List Record) → w.journal.before.rows ≡ Some rows
      → Replays (fold_of origin) rows (Ok records) → HasJournal w origin

-- there is a zone for what the words ask: a drawn list has one of its own
abbrev pub HasZoneBy : World → Options → Type 0
HasZoneBy w options = MatchOption options.drawn (HasZone w options.origin) (λ drawn. HasJournal w options.origin)

-- the event text is a valid list of events, within its bound
pub record HasEventText (w : World) : Type 0 where
  pub text : List ℕ
  pub events : List Event
  pub told : w.events.before.left ≡ Some text
  pub short : length text ≤ event_bound
  pub read : events_of text ≡ Ok events
  pub valid : Valid new_kept events

-- so it is, where no list is drawn: one that is drawn is always valid
abbrev pub HasEvents : World → Options → Type 0
HasEvents w options = options.drawn ≡ None → HasEventText w

-- no count of faults rose, nor stands at its last value
pub record IsFaultless (w : World) : Type 0 where
  pub zone : Rose w.zone.before.faults w.zone.after.faults → ⊥
  pub events : Rose w.events.before.faults w.events.after.faults → ⊥
  pub journal : Rose w.journal.before.faults w.journal.after.faults → ⊥
  pub output : Rose w.output.before.faults w.output.after.faults → ⊥

-- what the journal and the texts hold is told at the end, too
pub record IsTold (w : World) : Type 0 where
  pub journal : IsSome w.journal.after.rows
  pub zone : IsSome w.zone.after.left
  pub events : IsSome w.events.after.left

-- the words are legal, there is a zone, the batches of the journal cover its rows, the events are valid, and no object failed
pub record IsSound (w : World) : Type 0 where
  pub options : Options
  pub legal : options_of w.words ≡ Some options
  pub zone : HasZoneBy w options
  pub covered : IsCovered w.journal.before
  pub events : HasEvents w options
  pub faultless : IsFaultless w
  pub told : IsTold w

-- then the replies are written, or memory ran out
abbrev pub Completes : World → Status → Type 0
Completes w s = IsSound w → (s ≡ status.Ok) ⊎ (s ≡ status.OutOfMemory)
