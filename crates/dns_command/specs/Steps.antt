-- The steps of the commands `events` and `load`, in the order of the work, and the causes for which each of them is refused.
use Rattle.std.specs.Prelude.{◌≡◌, ◌≤◌, ℕ, ℤ, List, length, Option, Some, None, IsSome, MatchOption, Ok, Err}
use Rattle.dns_keeper.specs.Keeping.{KeeperTold}
use Rattle.dns_edges.specs.Edges.{Around, SourceTold}
use Rattle.dns_io.specs.Told.{Rose, WasRead, WasLonger}
use Rattle.dns_zone_map.specs.Zone.{Contents}
use Rattle.dns_zone.specs.ZoneText.{zone_of}
use Rattle.dns_zone.specs.declared.zone_text.ZoneTextKind.{ZoneTextKind}
use Rattle.dns_zone.specs.declared.zone_text.ZoneTextFault.TheVariants.{Refused}
use Rattle.dns_update.specs.declared.replay_kind.ReplayKind.{ReplayKind}
use Rattle.dns_server_core.specs.declared.event.Event.{Event}
use Rattle.dns_book.specs.Opening.{HadNoRow, HadRows, AreRefused, StandOrNone, AreUncovered}
use Rattle.dns_command.specs.declared.status.Status.{Status}
use Rattle.dns_command.specs.declared.status.Status.TheVariants as status
use Rattle.dns_command.specs.declared.opening.Opening.{Opening}
use Rattle.dns_command.specs.declared.opening.Opening.TheVariants.{Begin, Recover}
use Rattle.dns_command.specs.declared.command_line.Options.{Options}
use Rattle.dns_command.specs.CommandLine.{options_of}
use Rattle.dns_command.specs.EventText.{events_of}
use Rattle.dns_words.specs.Writing.{IsUntouched}
use Rattle.dns_command.specs.World.{IsStill, IsStillJournal}
use Rattle.dns_command.specs.Example.{example_text}
use Rattle.dns_generator.specs.Requests.{origin_name}
use Rattle.dns_generator.specs.Loaded.{loaded}

-- the greatest lengths of a zone text and of an event text, in bytes
abbrev pub zone_bound : ℕ
zone_bound = 16777216

abbrev pub event_bound : ℕ
event_bound = 8388608

-- the zone is that of the zone text, which was read to its end without a fault
pub record ReadsZone (source : Around SourceTold) (origin : List (List ℕ)) (zone : Contents) : Type 0 where
  pub named : zone.origin ≡ origin
  pub read : WasRead source.before.left source.after.left (λ text. (length text ≤ zone_bound) × (zone_of origin text ≡ Ok zone.records))
  pub still : IsStill source

-- why there is no zone in the zone text: it could not be read; it is longer than the bound, and one byte more than the
-- bound was read; it was read to its end, and a line of it is faulty; or memory ran out. Its count of faults rose where it could not be
-- read, and nowhere else
pub data ReadsNoZone (source : Around SourceTold) (origin : List (List ℕ)) : Status → Type 0 where
  zone_unread : Rose source.before.faults source.after.faults → ReadsNoZone source origin status.ReadFault
  zone_too_long : WasLonger source.before.left source.after.left zone_bound → IsStill source → ReadsNoZone source origin status.TooLong
  zone_faulty : (line : ℕ) (kind : ZoneTextKind)
      → WasRead source.before.left source.after.left (λ text. (length text ≤ zone_bound) × (zone_of origin text ≡ Err (Refused line kind)))
      → IsStill source → ReadsNoZone source origin (status.ZoneText line kind)
  zone_without_memory : IsStill source → ReadsNoZone source origin status.OutOfMemory

-- how the journal is to be opened: one without rows is begun with the zone of the zone text; one with rows is read back, and
-- the zone text is not read
abbrev pub Finds : Around KeeperTold → Around SourceTold → List (List ℕ) → Opening → Type 0
Finds journal source origin (Begin zone) = HadNoRow journal.before.rows journal.after.rows × ReadsZone source origin zone
Finds journal source origin Recover = HadRows journal.before.rows journal.after.rows × IsUntouched source

-- why the journal's first row was not seen: the journal failed, and counted it, or memory ran out
pub data SeesNoRow (journal : Around KeeperTold) : Status → Type 0 where
  journal_unread : Rose journal.before.faults journal.after.faults → SeesNoRow journal status.KeeperFault
  journal_without_memory : IsStillJournal journal → SeesNoRow journal status.OutOfMemory

-- why it is not known how the journal is opened: its first row was not seen, and then the zone text was not read; or it
-- has no row, and there is no zone
pub data FindsNot (journal : Around KeeperTold) (source : Around SourceTold) (origin : List (List ℕ)) : Status → Type 0 where
  unseen : {s : Status} → SeesNoRow journal s → IsUntouched source → FindsNot journal source origin s
  no_zone : {s : Status} → HadNoRow journal.before.rows journal.after.rows → IsStillJournal journal → ReadsNoZone source origin s
      → FindsNot journal source origin s

-- the events are those of the event text, which was read to its end without a fault
pub record LoadsEvents (source : Around SourceTold) (events : List Event) : Type 0 where
  pub read : WasRead source.before.left source.after.left (λ text. (length text ≤ event_bound) × (events_of text ≡ Ok events))
  pub still : IsStill source

-- why there are no events: the event text could not be read; it is longer than the bound, and one byte more than the bound
-- was read; it was read to its end, and this is its first faulty line; or memory ran out. Its count of faults rose where it could not
-- be read, and nowhere else
pub data LoadsNoEvents (source : Around SourceTold) : Status → Type 0 where
  events_unread : Rose source.before.faults source.after.faults → LoadsNoEvents source status.ReadFault
  events_too_long : WasLonger source.before.left source.after.left event_bound → IsStill source → LoadsNoEvents source status.TooLong
  event_faulty : (line : ℕ) → WasRead source.before.left source.after.left
      (λ text. (length text ≤ event_bound) × (events_of text ≡ Err line))
      → IsStill source → LoadsNoEvents source (status.EventLine line)
  events_without_memory : IsStill source → LoadsNoEvents source status.OutOfMemory

-- a drawn list of events has a zone of its own, which is that of a fixed text; then no zone text is read
pub record IsExample (zone : Contents) : Type 0 where
  pub origin : zone.origin ≡ origin_name
  pub records : zone_of origin_name example_text ≡ Ok zone.records

-- how the journal is to be opened for a drawn list
abbrev pub FindsExample : Around KeeperTold → Opening → Type 0
FindsExample journal (Begin zone) = HadNoRow journal.before.rows journal.after.rows × IsExample zone
FindsExample journal Recover = HadRows journal.before.rows journal.after.rows

-- how the journal is to be opened, by the words
abbrev pub FindsBy : Around KeeperTold → Around SourceTold → Options → Opening → Type 0
FindsBy journal source options opening = MatchOption options.drawn
    (Finds journal source options.origin opening)
    (λ drawn. FindsExample journal opening × IsUntouched source)

-- why it is not known how the journal is opened, by the words
abbrev pub FindsNotBy : Around KeeperTold → Around SourceTold → Options → Status → Type 0
FindsNotBy journal source options s = MatchOption options.drawn
    (FindsNot journal source options.origin s)
    (λ drawn. SeesNoRow journal s × IsUntouched source)

-- the events, by the words: those of the event text, or those that are drawn, and then no event text is read
abbrev pub HearsBy : Around SourceTold → Options → List Event → Type 0
HearsBy source options events = MatchOption options.drawn
    (LoadsEvents source events)
    (λ drawn. (events ≡ loaded drawn.seed drawn.count) × IsUntouched source)

-- why there are no events, by the words: for a drawn list memory ran out, and for nothing else
abbrev pub HearsNotBy : Around SourceTold → Options → Status → Type 0
HearsNotBy source options s = MatchOption options.drawn
    (LoadsNoEvents source s)
    (λ drawn. (s ≡ status.OutOfMemory) × IsUntouched source)

-- why the journal was not opened: it has rows that stand for no zone of this origin, and this is the first that is refused; they stand for
-- one, or there are none, but its batches do not cover them, and this is the place at which they cease to; it failed; or memory ran out.
-- Its count of faults rose where it failed, and nowhere else
pub data OpensNot (journal : Around KeeperTold) (origin : List (List ℕ)) : Opening → Status → Type 0 where
  rows_refused : (row : ℤ) (why : ReplayKind) → AreRefused journal.before.rows journal.after.rows origin row why → IsStillJournal journal
      → OpensNot journal origin Recover (status.Recovery row why)
  batches_refused : {opening : Opening} (place : ℤ) (why : ReplayKind)
      → AreUncovered (StandOrNone origin) journal.before journal.after place why
      → IsStillJournal journal → OpensNot journal origin opening (status.Recovery place why)
  journal_failed : {opening : Opening} → Rose journal.before.faults journal.after.faults
      → OpensNot journal origin opening status.KeeperFault
  opening_without_memory : {opening : Opening} → IsStillJournal journal → OpensNot journal origin opening status.OutOfMemory

-- A refusal, by the first step in the order of the work that was refused. What comes after that step was not done: the
-- sources that it reads and the journal are as they were, and the clock is asked only where the journal is to be opened.
pub data IsRefused (words : List (List ℕ)) (zone_text event_text : Around SourceTold) (journal : Around KeeperTold) (moment : Option ℕ)
    : Status → Type 0 where
  at_words : options_of words ≡ None → IsUntouched zone_text → IsUntouched event_text → IsUntouched journal → moment ≡ None
      → IsRefused words zone_text event_text journal moment status.Usage
  without_memory : IsUntouched zone_text → IsUntouched event_text → IsUntouched journal → moment ≡ None
      → IsRefused words zone_text event_text journal moment status.OutOfMemory
  at_finding : {s : Status} → (options : Options) → options_of words ≡ Some options
      → FindsNotBy journal zone_text options s → IsUntouched event_text → moment ≡ None
      → IsRefused words zone_text event_text journal moment s
  at_events : {s : Status} → (options : Options) (opening : Opening) → options_of words ≡ Some options
      → FindsBy journal zone_text options opening → IsStillJournal journal → HearsNotBy event_text options s → moment ≡ None
      → IsRefused words zone_text event_text journal moment s
  at_opening : {s : Status} → (options : Options) (opening : Opening) (events : List Event) → options_of words ≡ Some options
      → FindsBy journal zone_text options opening → HearsBy event_text options events → OpensNot journal options.origin opening s
      → IsSome moment → IsRefused words zone_text event_text journal moment s
