-- Which counts of faults rose in a top call: those alone of which its status tells, or the work that it tells of; and in that for a list of events.
use Rattle.std.specs.Prelude.{◌≡◌, ◌⊎◌, ◌<◌, List}
use Rattle.dns_io.specs.Told.{Rose}
use Rattle.dns_edges.specs.Edges.{Around, SourceTold}
use Rattle.dns_keeper.specs.Keeping.{KeeperOf}
use Rattle.dns_book.specs.Book.{SeenOf}
use Rattle.dns_server_core.specs.declared.event.Event.{Event}
use Rattle.dns_server_core.specs.declared.event.Out.{Out}
use Rattle.dns_server_core.specs.Connections.{new_kept, done}
use Rattle.dns_server_core.specs.Runs.{Completed}
use Rattle.dns_server_core.specs.Books.{failures}
use Rattle.dns_command.specs.declared.status.Status.{Status}
use Rattle.dns_command.specs.declared.status.Status.TheVariants as status
use Rattle.dns_command.specs.Status.{refusal_line}
use Rattle.dns_command.specs.CommandLine.{access_of}
use Rattle.dns_command.specs.World.{World, IsStill, IsStillJournal}
use Rattle.dns_command.specs.Ends.{TookFront, Serves}

-- it ended with the status of a refusal; or the line of that refusal was cut, for a fault of the output, or since the output wanted memory
-- for it
pub data ComesOf (w : World) (cause : Status) : Status → Type 0 where
  with_line : ComesOf w cause cause
  cut_by_fault : TookFront w (refusal_line cause) → ComesOf w cause status.WriteFault
  cut_for_memory : TookFront w (refusal_line cause) → w.wants (refusal_line cause) → ComesOf w cause status.OutOfMemory

-- the count of a source stood still, or it is told that it could not be read
abbrev pub CountsReading : World → Around SourceTold → Status → Type 0
CountsReading w source s = IsStill source ⊎ (Rose source.before.faults source.after.faults × ComesOf w status.ReadFault s)

-- the count of the output stood still, or it is told that it could not be written
abbrev pub CountsWriting : World → Status → Type 0
CountsWriting w s =
    (w.output.after.faults ≡ w.output.before.faults) ⊎ (Rose w.output.before.faults w.output.after.faults × (s ≡ status.WriteFault))

-- the count of the journal stood still; or it is told that it failed as it was opened; or, where messages were settled on it, `Failed` says
-- that an update among these got ServFail since it failed
abbrev pub CountsJournal : World → Type 0 → Status → Type 0
CountsJournal w Failed s =
    IsStillJournal w.journal ⊎ ((Rose w.journal.before.faults w.journal.after.faults × ComesOf w status.KeeperFault s) ⊎ Failed)

-- of the messages of a list of events that were settled an update got ServFail, since the journal failed
pub record FailsSome {K : Type 0} (keeper : KeeperOf K) (w : World) : Type 0 where
  pub picked : List Completed → List Completed
  pub events : List Event
  pub outs : List Out
  pub last : SeenOf K
  pub served : Serves keeper w picked events outs last
  pub some : 0 < failures keeper (access_of served.options) served.first (picked (done new_kept events)) outs last served.ran

-- the counts of the texts, of the output and of the journal, for a list of events
pub record Counts {K : Type 0} (keeper : KeeperOf K) (w : World) (s : Status) : Type 0 where
  pub zone : CountsReading w w.zone s
  pub events : CountsReading w w.events s
  pub output : CountsWriting w s
  pub journal : CountsJournal w (FailsSome keeper w) s
