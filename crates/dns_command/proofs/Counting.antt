-- Which counts of faults rose, by how a list of events ended.
use Rattle.std.proofs.Common.{◌≡◌, ◌⊎◌, ◌<◌, List, take, ℕ, zero, suc, arith, Option, Some, None, MatchOption, inl, inr, refl, sym, ap, ◌∙◌, subst}
use Rattle.dns_io.specs.Told.{Rose}
use Rattle.dns_edges.specs.Edges.{Around, SourceTold, SinkTold}
use Rattle.dns_keeper.specs.Keeping.{KeeperTold, KeeperOf}
use Rattle.dns_book.specs.Book.{SeenOf}
use Rattle.dns_server_core.specs.declared.event.Event.{Event}
use Rattle.dns_server_core.specs.declared.event.Out.{Out}
use Rattle.dns_server_core.specs.Connections.{new_kept, done}
use Rattle.dns_server_core.specs.Runs.{Completed}
use Rattle.dns_server_core.specs.Books.{failures}
use Rattle.dns_generator.specs.Loaded.{loaded}
use Rattle.dns_command.specs.declared.status.Status.{Status}
use Rattle.dns_command.specs.declared.status.Status.TheVariants as status
use Rattle.dns_command.specs.declared.opening.Opening.{Opening}
use Rattle.dns_command.specs.declared.opening.Opening.TheVariants.{Begin, Recover}
use Rattle.dns_command.specs.declared.command_line.Options.{Options}
use Rattle.dns_command.specs.declared.command_line.Drawn.{Drawn}
use Rattle.dns_words.specs.Writing.{IsUntouched}
use Rattle.dns_command.specs.World.{World, IsStill, IsStillJournal}
use Rattle.dns_command.specs.Steps.{Finds, FindsExample, FindsBy, FindsNot, unseen, no_zone, SeesNoRow, journal_unread, journal_without_memory, OpensNot, rows_refused, batches_refused, journal_failed, opening_without_memory, HearsBy, LoadsEvents, LoadsNoEvents, events_unread, events_too_long, event_faulty, events_without_memory}
use Rattle.dns_command.specs.Steps.{ReadsNoZone, zone_unread, zone_too_long, zone_faulty, zone_without_memory, IsRefused, at_words, without_memory, at_finding, at_events, at_opening}
use Rattle.dns_command.specs.Ends.{TookFront, Serves, Rejects, all, IsCut, IsWanted, IsCutWanted, in_refusal, in_rejection, in_answers, Ends, with_answers, with_refusal, with_rejection, with_write_fault, cut_for_memory, refused_for_memory, broken_for_memory}
use Rattle.dns_command.specs.Counts.{ComesOf, with_line, cut_by_fault, cut_for_memory as cut_for_want, CountsReading, CountsJournal, FailsSome, Counts}
use Rattle.dns_command.specs.CommandLine.{access_of}
use Rattle.dns_command.specs.Status.{refusal_line}
use Rattle.dns_command.specs.ServingEnds.{ListTells}
use Rattle.dns_command.proofs.Completing.{completes}
use Rattle.dns_command.proofs.Endings.{IsOpened-still}

pub zero_or_more : (n : ℕ) → (n ≡ 0) ⊎ (0 < n)
zero_or_more zero = inl refl
zero_or_more (suc n) = inr (omega arith)

-- the count of a source stood still, or it is told that it could not be read
abbrev Read : Around SourceTold → Status → Type 0
Read source s = IsStill source ⊎ (Rose source.before.faults source.after.faults × (s ≡ status.ReadFault))

pub untouched : (source : Around SourceTold) → IsUntouched source → IsStill source
untouched source same = ap (λ (told : SourceTold). told.faults) same

pub unwritten : (w : World) → IsUntouched w.output → w.output.after.faults ≡ w.output.before.faults
unwritten w same = ap (λ (told : SinkTold). told.faults) same

-- ---- the zone text

pub of_found : (journal : Around KeeperTold) (source : Around SourceTold) (origin : List (List ℕ)) (opening : Opening) → Finds journal source origin opening → IsStill source
of_found journal source origin (Begin zone) found = found.1.still
of_found journal source origin Recover found = untouched source found.1

of_found_by : (drawn : Option Drawn) (journal : Around KeeperTold) (source : Around SourceTold) (origin : List (List ℕ)) (opening : Opening)
    → MatchOption drawn (Finds journal source origin opening) (λ d. FindsExample journal opening × IsUntouched source) → IsStill source
of_found_by None journal source origin opening found = of_found journal source origin opening found
of_found_by (Some d) journal source origin opening found = untouched source found.1

found_words : (journal : Around KeeperTold) (source : Around SourceTold) (options : Options) (opening : Opening) → FindsBy journal source options opening → IsStill source
found_words journal source options opening found = of_found_by options.drawn journal source options.origin opening found

of_zone : (source : Around SourceTold) (origin : List (List ℕ)) (s : Status) → ReadsNoZone source origin s → Read source s
of_zone source origin s (zone_unread rose) = inr (rose, refl)
of_zone source origin s (zone_too_long longer still) = inl still
of_zone source origin s (zone_faulty line kind read still) = inl still
of_zone source origin s (zone_without_memory still) = inl still

pub of_unfound : (journal : Around KeeperTold) (source : Around SourceTold) (origin : List (List ℕ)) (s : Status) → FindsNot journal source origin s → Read source s
of_unfound journal source origin s (unseen sees same) = inl (untouched source same)
of_unfound journal source origin s (no_zone none calm reads) = of_zone source origin s reads

of_unfound_by : (drawn : Option Drawn) (journal : Around KeeperTold) (source : Around SourceTold) (origin : List (List ℕ)) (s : Status)
    → MatchOption drawn (FindsNot journal source origin s) (λ d. SeesNoRow journal s × IsUntouched source) → Read source s
of_unfound_by None journal source origin s finds = of_unfound journal source origin s finds
of_unfound_by (Some d) journal source origin s finds = inl (untouched source finds.1)

-- ---- the event text

of_heard : (drawn : Option Drawn) (source : Around SourceTold) (events : List Event)
    → MatchOption drawn (LoadsEvents source events) (λ d. (events ≡ loaded d.seed d.count) × IsUntouched source) → IsStill source
of_heard None source events heard = heard.still
of_heard (Some d) source events heard = untouched source heard.1

heard_words : (source : Around SourceTold) (options : Options) (events : List Event) → HearsBy source options events → IsStill source
heard_words source options events heard = of_heard options.drawn source events heard

of_unloaded : (source : Around SourceTold) (s : Status) → LoadsNoEvents source s → Read source s
of_unloaded source s (events_unread rose) = inr (rose, refl)
of_unloaded source s (events_too_long longer still) = inl still
of_unloaded source s (event_faulty line read still) = inl still
of_unloaded source s (events_without_memory still) = inl still

of_unheard : (drawn : Option Drawn) (source : Around SourceTold) (s : Status)
    → MatchOption drawn (LoadsNoEvents source s) (λ d. (s ≡ status.OutOfMemory) × IsUntouched source) → Read source s
of_unheard None source s loads = of_unloaded source s loads
of_unheard (Some d) source s loads = inl (untouched source loads.1)

-- ---- a refusal

record BothRead (z e : Around SourceTold) (s : Status) : Type 0 where
  zone : Read z s
  events : Read e s

refused_reads : (words : List (List ℕ)) (z e : Around SourceTold) (journal : Around KeeperTold) (moment : Option ℕ) (s : Status) → IsRefused words z e journal moment s → BothRead z e s
refused_reads words z e journal moment s (at_words none a b c d) = record { zone = inl (untouched z a); events = inl (untouched e b) }
refused_reads words z e journal moment s (without_memory a b c d) = record { zone = inl (untouched z a); events = inl (untouched e b) }
refused_reads words z e journal moment s (at_finding options legal finds same unasked) =
    record { zone = of_unfound_by options.drawn journal z options.origin s finds; events = inl (untouched e same) }
refused_reads words z e journal moment s (at_events options opening legal found calm hears unasked) =
    record { zone = inl (found_words journal z options opening found); events = of_unheard options.drawn e s hears }
refused_reads words z e journal moment s (at_opening options opening events legal found heard opens asked) =
    record { zone = inl (found_words journal z options opening found); events = inl (heard_words e options events heard) }

-- ---- the journal

-- the count of the journal stood still, or it is told that it failed
abbrev pub Kept : Around KeeperTold → Status → Type 0
Kept journal s = IsStillJournal journal ⊎ (Rose journal.before.faults journal.after.faults × (s ≡ status.KeeperFault))

untouched_journal : (journal : Around KeeperTold) → IsUntouched journal → IsStillJournal journal
untouched_journal journal same = ap (λ (told : KeeperTold). told.faults) same

of_unseen : (journal : Around KeeperTold) (s : Status) → SeesNoRow journal s → Kept journal s
of_unseen journal s (journal_unread rose) = inr (rose, refl)
of_unseen journal s (journal_without_memory still) = inl still

pub of_unfound_journal : (journal : Around KeeperTold) (source : Around SourceTold) (origin : List (List ℕ)) (s : Status) → FindsNot journal source origin s → Kept journal s
of_unfound_journal journal source origin s (unseen sees same) = of_unseen journal s sees
of_unfound_journal journal source origin s (no_zone none still reads) = inl still

unfound_journal_by : (drawn : Option Drawn) (journal : Around KeeperTold) (source : Around SourceTold) (origin : List (List ℕ)) (s : Status)
    → MatchOption drawn (FindsNot journal source origin s) (λ d. SeesNoRow journal s × IsUntouched source) → Kept journal s
unfound_journal_by None journal source origin s finds = of_unfound_journal journal source origin s finds
unfound_journal_by (Some d) journal source origin s finds = of_unseen journal s finds.0

pub of_unopened : (journal : Around KeeperTold) (origin : List (List ℕ)) (opening : Opening) (s : Status) → OpensNot journal origin opening s → Kept journal s
of_unopened journal origin opening s (rows_refused row why refused still) = inl still
of_unopened journal origin opening s (batches_refused place why un still) = inl still
of_unopened journal origin opening s (journal_failed rose) = inr (rose, refl)
of_unopened journal origin opening s (opening_without_memory still) = inl still

refused_journal : (words : List (List ℕ)) (z e : Around SourceTold) (journal : Around KeeperTold) (moment : Option ℕ) (s : Status) → IsRefused words z e journal moment s → Kept journal s
refused_journal words z e journal moment s (at_words none a b c d) = inl (untouched_journal journal c)
refused_journal words z e journal moment s (without_memory a b c d) = inl (untouched_journal journal c)
refused_journal words z e journal moment s (at_finding options legal finds same unasked) = unfound_journal_by options.drawn journal z options.origin s finds
refused_journal words z e journal moment s (at_events options opening legal found still hears unasked) = inl still
refused_journal words z e journal moment s (at_opening options opening events legal found heard opens asked) = of_unopened journal options.origin opening s opens

-- what a refusal counts of the journal, by how its line was written
pub written_journal : (w : World) (Failed : Type 0) (s : Status) → Kept w.journal s → CountsJournal w Failed s
written_journal w Failed s (inl still) = inl still
written_journal w Failed s (inr (rose, is)) = inr (inl (rose, subst (λ (x : Status). ComesOf w status.KeeperFault x) (sym is) with_line))

pub journal_fault : (w : World) (Failed : Type 0) (s : Status) → TookFront w (refusal_line s) → Unit {0} → Kept w.journal s → CountsJournal w Failed status.WriteFault
journal_fault w Failed s took any (inl still) = inl still
journal_fault w Failed s took any (inr (rose, is)) = inr (inl (rose, cut_by_fault (subst (λ (x : Status). TookFront w (refusal_line x)) is took)))

pub journal_want : (w : World) (Failed : Type 0) (s : Status) → TookFront w (refusal_line s) → IsWanted w s → Kept w.journal s → CountsJournal w Failed status.OutOfMemory
journal_want w Failed s took wanted (inl still) = inl still
journal_want w Failed s took wanted (inr (rose, is)) =
    inr (inl (rose, cut_for_want (subst (λ (x : Status). TookFront w (refusal_line x)) is took) (subst (λ (x : Status). IsWanted w x) is wanted refl)))

-- what a refusal counts, by how its line was written
pub written : (w : World) (source : Around SourceTold) (s : Status) → Read source s → CountsReading w source s
written w source s (inl still) = inl still
written w source s (inr (rose, is)) = inr (rose, subst (λ (x : Status). ComesOf w status.ReadFault x) (sym is) with_line)

pub cut_fault : (w : World) (source : Around SourceTold) (s : Status) → TookFront w (refusal_line s) → Unit {0} → Read source s → CountsReading w source status.WriteFault
cut_fault w source s took any (inl still) = inl still
cut_fault w source s took any (inr (rose, is)) = inr (rose, cut_by_fault (subst (λ (x : Status). TookFront w (refusal_line x)) is took))

pub cut_want : (w : World) (source : Around SourceTold) (s : Status) → TookFront w (refusal_line s) → IsWanted w s → Read source s → CountsReading w source status.OutOfMemory
cut_want w source s took wanted (inl still) = inl still
cut_want w source s took wanted (inr (rose, is)) = inr (rose, cut_for_want (subst (λ (x : Status). TookFront w (refusal_line x)) is took) (subst (λ (x : Status). IsWanted w x) is wanted refl))

module _ {K : Type 0} (keeper : KeeperOf K) (w : World) where
  begun_still : (options : Options) (opening : Opening) (events : List Event) (s : Status) → FindsBy w.journal w.zone options opening → HearsBy w.events options events → BothRead w.zone w.events s
  begun_still options opening events s found heard = record {
    zone = inl (found_words w.journal w.zone options opening found);
    events = inl (heard_words w.events options events heard);
  }

  -- a list that is not valid counts nothing of the journal
  rejected_still : Rejects keeper w → IsStillJournal w.journal
  rejected_still r =
      ap (λ (told : KeeperTold). told.faults) (sym r.left)
      ∙ IsOpened-still keeper w.journal.before r.options r.begun.moment r.begun.opening r.first r.begun.opened

  -- messages that were settled count what failed of them
  served_journal : (picked : List Completed → List Completed) (events : List Event) (outs : List Out) (last : SeenOf K) (t : Status) → Serves keeper w picked events outs last → CountsJournal w (FailsSome keeper w) t
  served_journal picked events outs last t served =
      elim (zero_or_more (failures keeper (access_of served.options) served.first (picked (done new_kept events)) outs last served.ran)) [
        | inl none ↦ inl (served.few.still none)
        | inr some ↦ inr (inr (record { picked = picked; events = events; outs = outs; last = last; served = served; some = some }))
      ]

  cut_journal : (t : Status) (Wanted : Status → Type 0) → ((s : Status) → TookFront w (refusal_line s) → Wanted s → Kept w.journal s → CountsJournal w (FailsSome keeper w) t)
      → (cut : IsCut keeper w) → IsCutWanted keeper w Wanted cut → CountsJournal w (FailsSome keeper w) t
  cut_journal t Wanted by (in_refusal s some refuses took) wanted = by s took wanted (refused_journal w.words w.zone w.events w.journal w.moment s refuses.cause)
  cut_journal t Wanted by (in_rejection rejects took) wanted = inl (rejected_still rejects)
  cut_journal t Wanted by (in_answers text answers took) wanted = served_journal all answers.events answers.outs answers.last t answers.served

  cut_counts : (t : Status) (Wanted : Status → Type 0) → ((source : Around SourceTold) (s : Status) → TookFront w (refusal_line s) → Wanted s → Read source s → CountsReading w source t)
      → (cut : IsCut keeper w) → IsCutWanted keeper w Wanted cut → CountsReading w w.zone t × CountsReading w w.events t
  cut_counts t Wanted by (in_refusal s some refuses took) wanted =
      let reads = refused_reads w.words w.zone w.events w.journal w.moment s refuses.cause in
      (by w.zone s took wanted reads.zone, by w.events s took wanted reads.events)
  cut_counts t Wanted by (in_rejection rejects took) wanted =
      let reads = begun_still rejects.options rejects.begun.opening rejects.events status.NotValid rejects.begun.found rejects.begun.heard in
      (by w.zone status.NotValid took wanted reads.zone, by w.events status.NotValid took wanted reads.events)
  cut_counts t Wanted by (in_answers text answers took) wanted =
      let begun = answers.served.begun in (
        inl (found_words w.journal w.zone answers.served.options begun.opening begun.found),
        inl (heard_words w.events answers.served.options answers.events begun.heard),
      )

  -- a fault of the output may cut any line
  any_wanted : (cut : IsCut keeper w) → IsCutWanted keeper w (λ (s : Status). Unit {0}) cut
  any_wanted (in_refusal s some refuses took) = tt
  any_wanted (in_rejection rejects took) = tt
  any_wanted (in_answers text answers took) = tt

  pub counts_of : (s : Status) → Ends keeper w s → Counts keeper w s
  counts_of s (with_answers text answers took) =
      let begun = answers.served.begun in
      record {
        zone = inl (found_words w.journal w.zone answers.served.options begun.opening begun.found);
        events = inl (heard_words w.events answers.served.options answers.events begun.heard);
        output = inl took.faults;
        journal = served_journal all answers.events answers.outs answers.last status.Ok answers.served;
      }
  counts_of s (with_refusal some refuses took) =
      let reads = refused_reads w.words w.zone w.events w.journal w.moment s refuses.cause in
      record {
        zone = written w w.zone s reads.zone;
        events = written w w.events s reads.events;
        output = inl took.faults;
        journal = written_journal w (FailsSome keeper w) s (refused_journal w.words w.zone w.events w.journal w.moment s refuses.cause);
      }
  counts_of s (with_rejection rejects took) =
      let reads = begun_still rejects.options rejects.begun.opening rejects.events status.NotValid rejects.begun.found rejects.begun.heard in
      record {
        zone = written w w.zone status.NotValid reads.zone;
        events = written w w.events status.NotValid reads.events;
        output = inl took.faults;
        journal = inl (rejected_still rejects);
      }
  counts_of s (with_write_fault rose cut) =
      let counts = cut_counts status.WriteFault (λ (t : Status). Unit {0}) (cut_fault w) cut (any_wanted cut) in
      record { zone = counts.0; events = counts.1; output = inr (rose, refl); journal = cut_journal status.WriteFault (λ (t : Status). Unit {0}) (journal_fault w (FailsSome keeper w)) cut (any_wanted cut) }
  counts_of s (cut_for_memory still cut wanted) =
      let counts = cut_counts status.OutOfMemory (IsWanted w) (cut_want w) cut wanted in
      record { zone = counts.0; events = counts.1; output = inl still; journal = cut_journal status.OutOfMemory (IsWanted w) (journal_want w (FailsSome keeper w)) cut wanted }
  counts_of s (refused_for_memory refuses same) =
      let reads = refused_reads w.words w.zone w.events w.journal w.moment status.OutOfMemory refuses.cause in
      record {
        zone = written w w.zone status.OutOfMemory reads.zone;
        events = written w w.events status.OutOfMemory reads.events;
        output = inl (unwritten w same);
        journal = written_journal w (FailsSome keeper w) status.OutOfMemory (refused_journal w.words w.zone w.events w.journal w.moment status.OutOfMemory refuses.cause);
      }
  counts_of s (broken_for_memory breaks same) =
      let begun = breaks.served.begun in
      record {
        zone = inl (found_words w.journal w.zone breaks.served.options begun.opening begun.found);
        events = inl (heard_words w.events breaks.served.options breaks.events begun.heard);
        output = inl (unwritten w same);
        journal = served_journal (take breaks.count) breaks.events breaks.outs breaks.last status.OutOfMemory breaks.served;
      }

  -- how it ends, that it does its work, and which counts rose
  pub tells : (s : Status) → Ends keeper w s → ListTells keeper w s
  tells s ends = record { ends = ends; completes = completes keeper w s ends; counts = counts_of s ends }
