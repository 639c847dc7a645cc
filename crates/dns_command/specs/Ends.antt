-- What the program does: the replies owed, and no other bytes.
use Rattle.std.specs.Prelude.{◌≡◌, ◌≢◌, ℕ, List, length, take, true, Some, None}
use Rattle.dns_keeper.specs.Keeping.{KeeperTold, KeeperOf}
use Rattle.dns_io.specs.Told.{Keeps, Rose, GrowsByPrefix}
use Rattle.dns_edges.specs.Edges.{Around}
use Rattle.dns_zone_map.specs.Zone.{serial_of}
use Rattle.dns_server_core.specs.declared.event.Event.{Event}
use Rattle.dns_server_core.specs.declared.event.Out.{Out}
use Rattle.dns_book.specs.Book.{SeenOf, IsKept, Settles}
use Rattle.dns_book.specs.Opening as book
use Rattle.dns_server_core.specs.Valid.{Valid}
use Rattle.dns_server_core.specs.Connections.{new_kept, done, after}
use Rattle.dns_server_core.specs.Runs.{Completed, Run}
use Rattle.dns_server_core.specs.Books.{failures, RoseBy}
use Rattle.dns_command.specs.declared.status.Status.{Status}
use Rattle.dns_command.specs.declared.status.Status.TheVariants as status
use Rattle.dns_command.specs.declared.opening.Opening.{Opening}
use Rattle.dns_command.specs.declared.opening.Opening.TheVariants.{Begin, Recover}
use Rattle.dns_command.specs.declared.command_line.Options.{Options}
use Rattle.dns_command.specs.CommandLine.{options_of, access_of}
use Rattle.dns_command.specs.Lines.{lines_by}
use Rattle.dns_command.specs.Status.{refusal_line, is_fault}
use Rattle.dns_words.specs.Writing.{IsUntouched, IsWritten}
use Rattle.dns_command.specs.World.{World}
use Rattle.dns_command.specs.Steps.{FindsBy, HearsBy, IsRefused}

-- how the journal was opened that told this before, by the options: one without rows was begun with the zone that was found at this
-- moment, and one with rows was read back; either way its rows stand for its zone, and its count of faults stood still
abbrev pub IsOpened : {K : Type 0} → KeeperOf K → KeeperTold → Options → ℕ → Opening → SeenOf K → Type 0
IsOpened keeper before options moment (Begin zone) first = book.Begins keeper before zone options.allow_update moment first
IsOpened keeper before options moment Recover first = book.Recovers keeper before options.origin options.allow_update first

-- the journal before it was opened, and as the opening left it
abbrev pub opening_journal : {K : Type 0} → KeeperOf K → World → SeenOf K → Around KeeperTold
opening_journal keeper w first = record { before = w.journal.before; after = keeper.told first.keeper }

-- of a journal's count of faults behind so many failures: it rose by as many at least, or stands at its last value; and where there was
-- none it stood still
pub record CountsFailures (failures before now : ℕ) : Type 0 where
  pub few : RoseBy failures before now
  pub still : failures ≡ 0 → now ≡ before

-- the words are legal, these are the events of the event text or those that are drawn, and the journal was opened at the moment that
-- the clock was asked for
pub record Begins {K : Type 0} (keeper : KeeperOf K) (w : World) (options : Options) (events : List Event) (first : SeenOf K) : Type 0 where
  pub opening : Opening
  pub legal : options_of w.words ≡ Some options
  pub found : FindsBy w.journal w.zone options opening
  pub heard : HearsBy w.events options events
  pub moment : ℕ
  pub asked : w.moment ≡ Some moment
  pub opened : IsOpened keeper w.journal.before options moment opening first

-- Messages were settled on the journal that was opened: of those that a valid list of events completes, at most the first 100 of a
-- connection, the ones that are picked. Each message in turn was settled on the zone that the rows then stood for, where the words
-- say who is let in and whether updates are; the rows grew by the records of each update that was answered NoError; and no more
-- updates got ServFail than the journal's count of faults rose, unless that stands at its last value: where none got it that count
-- stood still.
pub record Serves {K : Type 0} (keeper : KeeperOf K) (w : World) (picked : List Completed → List Completed) (events : List Event)
    (outs : List Out) (last : SeenOf K)
    : Type 0 where
  pub options : Options
  pub first : SeenOf K
  pub begun : Begins keeper w options events first
  pub valid : Valid new_kept events
  pub ran : Run (Settles keeper (access_of options)) first (picked (done new_kept events)) outs last
  pub few : CountsFailures (failures keeper (access_of options) first (picked (done new_kept events)) outs last ran)
      w.journal.before.faults w.journal.after.faults

-- the list of events is not valid: the journal was opened, and nothing was settled. It is that of the event text: one that is drawn
-- is always valid
pub record Rejects {K : Type 0} (keeper : KeeperOf K) (w : World) : Type 0 where
  pub options : Options
  pub events : List Event
  pub first : SeenOf K
  pub begun : Begins keeper w options events first
  pub undrawn : options.drawn ≡ None
  pub invalid : Valid new_kept events → ⊥
  pub left : keeper.told first.keeper ≡ w.journal.after

abbrev pub all : List Completed → List Completed
all asks = asks

-- every message was settled, and this is the output: a line a reply, or for a drawn list what is told of the replies; then the
-- serial of the zone that the rows now stand for, the number of rows, and how many connections are open
pub record Answers {K : Type 0} (keeper : KeeperOf K) (w : World) (written : List ℕ) : Type 0 where
  pub events : List Event
  pub outs : List Out
  pub last : SeenOf K
  pub served : Serves keeper w all events outs last
  pub left : keeper.told last.keeper ≡ w.journal.after
  pub kept : IsKept keeper last
  pub text : written ≡ lines_by served.options.drawn outs
      (serial_of last.zone.records) last.row_count (length (after new_kept events).connections)

-- memory ran out among the messages: some of the first ones were settled, and the rows and the journal's count of faults are as the last
-- of these left them
pub record Breaks {K : Type 0} (keeper : KeeperOf K) (w : World) : Type 0 where
  pub count : ℕ
  pub events : List Event
  pub outs : List Out
  pub last : SeenOf K
  pub served : Serves keeper w (take count) events outs last
  pub left : Keeps (keeper.told last.keeper).rows w.journal.after.rows
  pub counted : w.journal.after.faults ≡ (keeper.told last.keeper).faults

-- the output took a front of this text, where it is told afterwards
abbrev pub TookFront : World → List ℕ → Type 0
TookFront w text = (rest : List ℕ) × GrowsByPrefix w.output.before.taken w.output.after.taken text rest

-- a refusal: its cause, and a journal that is as it was
pub record Refuses (w : World) (s : Status) : Type 0 where
  pub cause : IsRefused w.words w.zone w.events w.journal w.moment s
  pub kept : Keeps w.journal.before.rows w.journal.after.rows

-- Some of the bytes were not written, or not handed on: of the line of a refusal, of the line that says that the list is not
-- valid, or of the output.
pub data IsCut {K : Type 0} (keeper : KeeperOf K) (w : World) : Type 0 where
  in_refusal : (s : Status) → s ≢ status.OutOfMemory → Refuses w s → TookFront w (refusal_line s) → IsCut keeper w
  in_rejection : Rejects keeper w → TookFront w (refusal_line status.NotValid) → IsCut keeper w
  in_answers : (text : List ℕ) → Answers keeper w text → TookFront w text → IsCut keeper w

-- where the refusal tells of a fault, the output wanted memory for its line
abbrev pub IsWanted : World → Status → Type 0
IsWanted w s = is_fault s ≡ true → w.wants (refusal_line s)

-- so it is where a line was cut
abbrev pub IsCutWanted : {K : Type 0} (keeper : KeeperOf K) (w : World) → (Status → Type 0) → IsCut keeper w → Type 0
IsCutWanted keeper w Wanted (in_refusal s some refuses took) = Wanted s
IsCutWanted keeper w Wanted (in_rejection rejects took) = Wanted status.NotValid
IsCutWanted keeper w Wanted (in_answers text answers took) = Unit {0}

-- What each status means. Status 0 and each status with a line say that the output took all the bytes, and handed on all
-- that it took. Status 7 says that the output's count of faults rose, and no other does. Where a fault gives way to status 10, the output
-- wanted memory for the line of that fault.
pub data Ends {K : Type 0} (keeper : KeeperOf K) (w : World) : Status → Type 0 where
  with_answers : (text : List ℕ) → Answers keeper w text → IsWritten w.output text → Ends keeper w status.Ok
  with_refusal : {s : Status} → s ≢ status.OutOfMemory → Refuses w s → IsWritten w.output (refusal_line s) → Ends keeper w s
  with_rejection : Rejects keeper w → IsWritten w.output (refusal_line status.NotValid) → Ends keeper w status.NotValid
  with_write_fault : Rose w.output.before.faults w.output.after.faults → IsCut keeper w → Ends keeper w status.WriteFault
  cut_for_memory : w.output.after.faults ≡ w.output.before.faults → (cut : IsCut keeper w)
      → IsCutWanted keeper w (IsWanted w) cut → Ends keeper w status.OutOfMemory
  refused_for_memory : Refuses w status.OutOfMemory → IsUntouched w.output → Ends keeper w status.OutOfMemory
  broken_for_memory : Breaks keeper w → IsUntouched w.output → Ends keeper w status.OutOfMemory
