-- How the program ends, by what its parts did.
use Rattle.std.proofs.Common.{◌≡◌, ◌⊎◌, inl, inr, ℕ, List, [], ◌∷◌, ◌++◌, true, false, Option, Some, None, Result, Ok, Err, refl, sym, ap, ◌∙◌, subst}
use Rattle.dns_io.specs.declared.io_fault.IoFault.{IoFault}
use Rattle.dns_io.specs.declared.io_fault.IoFault.TheVariants.{Failed, OutOfMemory}
use Rattle.dns_io.specs.Told.{Rose}
use Rattle.dns_edges.specs.Edges.{around, SourceOf, ClockOf, SinkOf, SinkTold}
use Rattle.dns_keeper.specs.Keeping.{KeeperOf, KeeperTold}
use Rattle.dns_words.specs.Writing.{WritesWhole, IsWritten, WantedMemory}
use Rattle.dns_store.specs.Opening.{CountsByKind}
use Rattle.dns_store.specs.Crash.{LeavesOpened}
use Rattle.std.proofs.lemmas.List.{append-nil}
use Rattle.dns_follow.specs.declared.open_fault.FollowOpenKind.{FollowOpenKind}
use Rattle.dns_follow.specs.declared.open_fault.FollowOpenKind.TheVariants as kind
use Rattle.dns_follow.specs.OpenFaults.{store_kind}
use Rattle.dns_follow.specs.declared.feed_fault.FeedFault.{FeedFault}
use Rattle.dns_follow.specs.declared.feed_fault.FeedFault.TheVariants as feed
use Rattle.dns_follow.specs.declared.answer.FollowFault.{FollowFault}
use Rattle.dns_follow.specs.declared.answer.FollowFault.TheVariants as fault
use Rattle.dns_follow.specs.declared.status.FollowStatus.{FollowStatus}
use Rattle.dns_follow.specs.declared.status.FollowStatus.TheVariants as status
use Rattle.dns_follow.specs.declared.frame.Frame.{Frame}
use Rattle.dns_follow.specs.declared.commands.Command.TheVariants.{Feed, Follow}
use Rattle.dns_follow.specs.Commands.{command_of}
use Rattle.dns_follow.specs.Opening.{IsOpened, IsNotOpened}
use Rattle.dns_follow.specs.Lines.{length_line, zone_serial}
use Rattle.dns_follow.specs.Parts.{PrintsFeed, sent, unread}
use Rattle.dns_follow.specs.Feeding.{CountsByFault, ReadsNoFed, sent_of, too_long}
use Rattle.dns_follow.specs.Seen.{SeenOf, state_of}
use Rattle.dns_follow.specs.Followed.{Follows, StopsAt}
use Rattle.dns_follow.specs.Status.{refusal_line, has_line, is_fault, feed_status, open_status, follow_status}
use Rattle.dns_follow.specs.World.{World, told_around, world_of}
use Rattle.dns_follow.specs.Writing.{after_writing, EndsWriting, EndsRefusing, silent, by_line}
use Rattle.dns_follow.specs.Steps.{most_reads, status_at, HoldsStored, IsOnlyRead, ReadsFeed, HasFollowed, IsDone, fed, followed, IsRefused, at_words, without_memory, at_journal, at_row, at_opening, at_input}
use Rattle.dns_follow.specs.Ends.{TookFront, IsCut, in_refusal, in_output, Ends, with_output, with_refusal, without_line, with_write_fault, cut_for_memory}
use Rattle.dns_follow.specs.Counts as counting
use Rattle.dns_follow.specs.Counts.{TellsFailed, CountsFailing, CountsWriting, Counts, HasCauses, Tells}
use Rattle.dns_follow.proofs.Faults.{FailsBy, stood, rose_by, fine_calm, stopped_by}
use Rattle.dns_follow.proofs.Hearing.{goes_runs}

-- ---- statuses that tell of no fault

fed_by : (was now : ℕ) (before after : KeeperTold) (f : FeedFault) → ReadsNoFed before after f → CountsByFault was now f → FailsBy was now status.KeeperFault (feed_status f)
fed_by was now before after feed.KeeperFault none counts = rose_by was now status.KeeperFault counts
fed_by was now before after feed.Write none counts = absurd none
fed_by was now before after (feed.OutOfPlace row) none counts =
    stood was now status.KeeperFault (status.OutOfPlace row) counts (λ is. absurd (let no : status.OutOfPlace row ≡ status.KeeperFault = is in cc))
fed_by was now before after (feed.TooLong row) none counts = absurd none
fed_by was now before after feed.OutOfMemory none counts =
    stood was now status.KeeperFault status.OutOfMemory counts (λ is. absurd (let no : status.OutOfMemory ≡ status.KeeperFault = is in cc))

feed_reads : (before after : KeeperTold) (f : FeedFault) → ReadsNoFed before after f → (feed_status f ≡ status.ReadFault → ⊥) × (feed_status f ≡ status.WriteFault → ⊥)
feed_reads before after feed.KeeperFault none =
    (λ is. absurd (let no : status.KeeperFault ≡ status.ReadFault = is in cc), λ is. absurd (let no : status.KeeperFault ≡ status.WriteFault = is in cc))
feed_reads before after feed.Write none = absurd none
feed_reads before after (feed.OutOfPlace row) none =
    (λ is. absurd (let no : status.OutOfPlace row ≡ status.ReadFault = is in cc), λ is. absurd (let no : status.OutOfPlace row ≡ status.WriteFault = is in cc))
feed_reads before after (feed.TooLong row) none = absurd none
feed_reads before after feed.OutOfMemory none =
    (λ is. absurd (let no : status.OutOfMemory ≡ status.ReadFault = is in cc), λ is. absurd (let no : status.OutOfMemory ≡ status.WriteFault = is in cc))

open_by : (was now : ℕ) (k : FollowOpenKind) → CountsByKind was now (store_kind k) → FailsBy was now status.KeeperFault (open_status k)
open_by was now (kind.Recovery row why) counts =
    stood was now status.KeeperFault (status.Recovery row why) counts (λ is. absurd (let no : status.Recovery row why ≡ status.KeeperFault = is in cc))
open_by was now kind.KeeperFault counts = rose_by was now status.KeeperFault counts
open_by was now kind.OutOfMemory counts =
    stood was now status.KeeperFault status.OutOfMemory counts (λ is. absurd (let no : status.OutOfMemory ≡ status.KeeperFault = is in cc))

open_reads : (k : FollowOpenKind) → (open_status k ≡ status.ReadFault → ⊥) × (open_status k ≡ status.WriteFault → ⊥)
open_reads (kind.Recovery row why) = (
  λ is. absurd (let no : status.Recovery row why ≡ status.ReadFault = is in cc),
  λ is. absurd (let no : status.Recovery row why ≡ status.WriteFault = is in cc),
)
open_reads kind.KeeperFault = (
  λ is. absurd (let no : status.KeeperFault ≡ status.ReadFault = is in cc),
  λ is. absurd (let no : status.KeeperFault ≡ status.WriteFault = is in cc),
)
open_reads kind.OutOfMemory = (
  λ is. absurd (let no : status.OutOfMemory ≡ status.ReadFault = is in cc),
  λ is. absurd (let no : status.OutOfMemory ≡ status.WriteFault = is in cc),
)

follow_writes : (f : FollowFault) → follow_status f ≡ status.WriteFault → ⊥
follow_writes fault.BadFrame is = absurd (let no : status.BadFrame ≡ status.WriteFault = is in cc)
follow_writes (fault.Mixed row) is = absurd (let no : status.Mixed ≡ status.WriteFault = is in cc)
follow_writes (fault.Refused row why) is = absurd (let no : status.Refused ≡ status.WriteFault = is in cc)
follow_writes fault.KeeperFault is = absurd (let no : status.KeeperFault ≡ status.WriteFault = is in cc)
follow_writes fault.Read is = absurd (let no : status.ReadFault ≡ status.WriteFault = is in cc)
follow_writes (fault.Turns reads) is = absurd (let no : status.Turns ≡ status.WriteFault = is in cc)
follow_writes fault.OutOfMemory is = absurd (let no : status.OutOfMemory ≡ status.WriteFault = is in cc)

-- ---- what following did to the counts of the journal and of the input

module _ {K S C : Type 0} (keeper : KeeperOf K) (source : SourceOf S) (clock : ClockOf C) (reads : ℕ) (s : S) (c : C) (before : SeenOf K) (t : S) (d : C) (after : SeenOf K) where
  abbrev Fails : FollowStatus → Type 0
  Fails meant = FailsBy (keeper.told before.keeper).faults (keeper.told after.keeper).faults status.KeeperFault meant
      × FailsBy (source.told s).faults (source.told t).faults status.ReadFault meant

  pub all_calm : (count : ℕ) → Follows keeper source clock reads s c before t d after (Ok count)
      → ((keeper.told after.keeper).faults ≡ (keeper.told before.keeper).faults) × ((source.told t).faults ≡ (source.told s).faults)
  all_calm count f =
      (fine_calm before.origin (state_of keeper before) f.steps (state_of keeper after) f.fine (goes_runs keeper before after f.steps f.up_to.goes), f.calm ∙ f.up_to.calm)

  stops : (f : FollowFault) → StopsAt keeper source clock reads s c before t d after f → (follow_status f ≡ status.ReadFault → ⊥) → Fails (follow_status f)
  stops f h never = (
    stopped_by before.origin (state_of keeper before) h.steps h.last (state_of keeper after) f h.fine h.refused (goes_runs keeper before after (h.steps ++ h.last ∷ []) h.up_to.goes),
    stood (source.told s).faults (source.told t).faults status.ReadFault (follow_status f) h.up_to.calm never,
  )

  pub fails : (f : FollowFault) → Follows keeper source clock reads s c before t d after (Err f) → Fails (follow_status f)
  fails fault.BadFrame h = stops fault.BadFrame h (λ is. absurd (let no : status.BadFrame ≡ status.ReadFault = is in cc))
  fails (fault.Mixed row) h = stops (fault.Mixed row) h (λ is. absurd (let no : status.Mixed ≡ status.ReadFault = is in cc))
  fails (fault.Refused row why) h = stops (fault.Refused row why) h (λ is. absurd (let no : status.Refused ≡ status.ReadFault = is in cc))
  fails fault.KeeperFault h = stops fault.KeeperFault h (λ is. absurd (let no : status.KeeperFault ≡ status.ReadFault = is in cc))
  fails fault.OutOfMemory (inl h) = stops fault.OutOfMemory h (λ is. absurd (let no : status.OutOfMemory ≡ status.ReadFault = is in cc))
  fails fault.OutOfMemory (inr h) = (
    stood (keeper.told before.keeper).faults (keeper.told after.keeper).faults status.KeeperFault status.OutOfMemory
        (fine_calm before.origin (state_of keeper before) h.steps (state_of keeper after) h.fine (goes_runs keeper before after h.steps h.up_to.goes))
        (λ is. absurd (let no : status.OutOfMemory ≡ status.KeeperFault = is in cc)),
    stood (source.told s).faults (source.told t).faults status.ReadFault status.OutOfMemory (h.calm ∙ h.up_to.calm)
        (λ is. absurd (let no : status.OutOfMemory ≡ status.ReadFault = is in cc)),
  )
  fails (fault.Turns count) h = (
    stood (keeper.told before.keeper).faults (keeper.told after.keeper).faults status.KeeperFault status.Turns
        (fine_calm before.origin (state_of keeper before) h.steps (state_of keeper after) h.fine (goes_runs keeper before after h.steps h.up_to.goes))
        (λ is. absurd (let no : status.Turns ≡ status.KeeperFault = is in cc)),
    stood (source.told s).faults (source.told t).faults status.ReadFault status.Turns h.up_to.calm
        (λ is. absurd (let no : status.Turns ≡ status.ReadFault = is in cc)),
  )
  fails fault.Read h = (
    stood (keeper.told before.keeper).faults (keeper.told after.keeper).faults status.KeeperFault status.ReadFault
        (fine_calm before.origin (state_of keeper before) h.steps (state_of keeper after) h.fine (goes_runs keeper before after h.steps h.up_to.goes))
        (λ is. absurd (let no : status.ReadFault ≡ status.KeeperFault = is in cc)),
    rose_by (source.told s).faults (source.told t).faults status.ReadFault (subst (λ (n : ℕ). Rose n (source.told t).faults) h.up_to.calm h.rose),
  )

-- ---- the whole

module _ {K S C O : Type 0} (keeper : KeeperOf K) (source : SourceOf S) (clock : ClockOf C) (sink : SinkOf O) (w : World K S C O) where
  abbrev Journal : FollowStatus → Type 0
  Journal meant = FailsBy (keeper.told w.journal.before).faults (keeper.told w.journal.after).faults status.KeeperFault meant

  abbrev Input : FollowStatus → Type 0
  Input meant = FailsBy (source.told w.input.before).faults (source.told w.input.after).faults status.ReadFault meant

  journal_stood : (meant : FollowStatus) → w.journal.after ≡ w.journal.before → (meant ≡ status.KeeperFault → ⊥) → Journal meant
  journal_stood meant same never = stood (keeper.told w.journal.before).faults (keeper.told w.journal.after).faults status.KeeperFault meant (ap (λ (k : K). (keeper.told k).faults) same) never

  input_stood : (meant : FollowStatus) → w.input.after ≡ w.input.before → (meant ≡ status.ReadFault → ⊥) → Input meant
  input_stood meant same never = stood (source.told w.input.before).faults (source.told w.input.after).faults status.ReadFault meant (ap (λ (s : S). (source.told s).faults) same) never

  -- the journal that follows was opened with no fault, and is the one that was given back
  over : (before after : SeenOf K) → HasFollowed keeper source clock w before after → (meant : FollowStatus)
      → FailsBy (keeper.told before.keeper).faults (keeper.told after.keeper).faults status.KeeperFault meant → Journal meant
  over before after h meant failed =
      subst (λ (k : K). FailsBy (keeper.told w.journal.before).faults (keeper.told k).faults status.KeeperFault meant) h.given
      (subst (λ (n : ℕ). FailsBy n (keeper.told after.keeper).faults status.KeeperFault meant) h.opened.uncounted failed)

  of_done : (text : List ℕ) → IsDone keeper source clock w text
      → ((keeper.told w.journal.after).faults ≡ (keeper.told w.journal.before).faults) × ((source.told w.input.after).faults ≡ (source.told w.input.before).faults)
  of_done text (fed frames r none) = (r.calm, ap (λ (s : S). (source.told s).faults) r.idle.unread)
  of_done text (followed before after count h f stored) =
      let calm = all_calm keeper source clock most_reads w.input.before w.clock.before before w.input.after w.clock.after after count f in
      (ap (λ (k : K). (keeper.told k).faults) (sym h.given) ∙ calm.0 ∙ h.opened.uncounted, calm.1)

  of_refusal : (meant : FollowStatus) (text : List ℕ) → IsRefused keeper source clock w meant text → Journal meant × Input meant × (meant ≡ status.WriteFault → ⊥)
  of_refusal meant text (at_words none still) = (
    journal_stood status.Usage still.journal (λ is. absurd (let no : status.Usage ≡ status.KeeperFault = is in cc)),
    input_stood status.Usage still.idle.unread (λ is. absurd (let no : status.Usage ≡ status.ReadFault = is in cc)),
    λ is. absurd (let no : status.Usage ≡ status.WriteFault = is in cc),
  )
  of_refusal meant text (without_memory still) = (
    journal_stood status.OutOfMemory still.journal (λ is. absurd (let no : status.OutOfMemory ≡ status.KeeperFault = is in cc)),
    input_stood status.OutOfMemory still.idle.unread (λ is. absurd (let no : status.OutOfMemory ≡ status.ReadFault = is in cc)),
    λ is. absurd (let no : status.OutOfMemory ≡ status.WriteFault = is in cc),
  )
  of_refusal meant text (at_journal origin from f asked none counts only idle) =
      let others = feed_reads (keeper.told w.journal.before) (keeper.told w.journal.after) f none in (
        fed_by (keeper.told w.journal.before).faults (keeper.told w.journal.after).faults (keeper.told w.journal.before) (keeper.told w.journal.after) f none counts,
        input_stood (feed_status f) idle.unread others.0,
        others.1,
      )
  of_refusal meant text (at_row frames row r long) = (
    stood (keeper.told w.journal.before).faults (keeper.told w.journal.after).faults status.KeeperFault status.TooLong r.calm
        (λ is. absurd (let no : status.TooLong ≡ status.KeeperFault = is in cc)),
    input_stood status.TooLong r.idle.unread (λ is. absurd (let no : status.TooLong ≡ status.ReadFault = is in cc)),
    λ is. absurd (let no : status.TooLong ≡ status.WriteFault = is in cc),
  )
  of_refusal meant text (at_opening origin k asked none left idle) = (
    open_by (keeper.told w.journal.before).faults (keeper.told w.journal.after).faults k none.unopened.counts,
    input_stood (open_status k) idle.unread (open_reads k).0,
    (open_reads k).1,
  )
  of_refusal meant text (at_input before after f h follows) =
      let failed = fails keeper source clock most_reads w.input.before w.clock.before before w.input.after w.clock.after after f follows in
      (over before after h (follow_status f) failed.0, failed.1, follow_writes f)

  -- a text was written, or was not written to its end
  whole : (text : List ℕ) (meant : FollowStatus) (result : Result (Unit {0}) IoFault)
      → (IsWritten (told_around sink.told w.output) text → Ends keeper source clock sink w meant)
      → (TookFront keeper source clock sink w text → IsCut keeper source clock sink w)
      → WritesWhole (told_around sink.told w.output) text result → Ends keeper source clock sink w (after_writing meant result)
  whole text meant (Ok done) good cut v = good (record { taken = v.written.ok; flushed = v.flushed; faults = v.written.cause.counts })
  whole text meant (Err Failed) good cut v = with_write_fault v.written.cause.counts (cut v.written.err)
  whole text meant (Err OutOfMemory) good cut v = cut_for_memory (cut v.written.err)

  by_result : (text : List ℕ) (meant : FollowStatus) (r : Result (Unit {0}) IoFault) → WritesWhole (told_around sink.told w.output) text r
      → CountsWriting (sink.told w.output.before) (sink.told w.output.after) (after_writing meant r)
  by_result text meant (Ok done) v = inl v.written.cause.counts
  by_result text meant (Err Failed) v = inr (v.written.cause.counts, refl)
  by_result text meant (Err OutOfMemory) v = inl v.written.cause.counts

  -- what a status tells of a fault, where it was meant and writing ended so
  writes_by : (text : List ℕ) (meant : FollowStatus) (r : Result (Unit {0}) IoFault) → WritesWhole (told_around sink.told w.output) text r
      → (meant ≡ status.WriteFault → ⊥) → after_writing meant r ≡ status.WriteFault → Rose (sink.told w.output.before).faults (sink.told w.output.after).faults
  writes_by text meant (Ok done) v never is = absurd (never is)
  writes_by text meant (Err Failed) v never is = v.written.cause.counts
  writes_by text meant (Err OutOfMemory) v never is = absurd (let no : status.OutOfMemory ≡ status.WriteFault = is in cc)

  meant_by : (failing meant : FollowStatus) (was now : ℕ) (r : Result (Unit {0}) IoFault) → FailsBy was now failing meant
      → (status.WriteFault ≡ failing → ⊥) → (status.OutOfMemory ≡ failing → ⊥) → after_writing meant r ≡ failing → Rose was now
  meant_by failing meant was now (Ok done) failed write wanting is = failed.cause is
  meant_by failing meant was now (Err Failed) failed write wanting is = absurd (write is)
  meant_by failing meant was now (Err OutOfMemory) failed write wanting is = absurd (wanting is)

  told_by : (meant : FollowStatus) (text : List ℕ) (r : Result (Unit {0}) IoFault) → WritesWhole (told_around sink.told w.output) text r
      → (after_writing meant r ≡ status.OutOfMemory → WantedMemory sink w.output.before (refusal_line meant) w.output.after)
      → TellsFailed sink w.output.before w.output.after meant (after_writing meant r)
  told_by meant text (Ok done) v wanted = counting.with_line
  told_by meant text (Err Failed) v wanted = counting.cut_by_fault v.written.cause.counts
  told_by meant text (Err OutOfMemory) v wanted = counting.cut_for_memory (wanted refl)

  counts_by : (failing meant : FollowStatus) (was now : ℕ) (text : List ℕ) (r : Result (Unit {0}) IoFault) → WritesWhole (told_around sink.told w.output) text r
      → (now ≡ was) ⊎ (Rose was now × (meant ≡ failing)) → is_fault failing ≡ true
      → (is_fault meant ≡ true → after_writing meant r ≡ status.OutOfMemory → WantedMemory sink w.output.before (refusal_line meant) w.output.after)
      → CountsFailing sink w.output.before w.output.after was now failing (after_writing meant r)
  counts_by failing meant was now text r v (inl still) faulty wanted = inl still
  counts_by failing meant was now text r v (inr rose) faulty wanted =
      let meant_faulty : is_fault meant ≡ true = ap is_fault rose.1 ∙ faulty in
      inr (rose.0, subst (λ (f : FollowStatus). TellsFailed sink w.output.before w.output.after f (after_writing meant r)) rose.1 (told_by meant text r v (wanted meant_faulty)))

  pub tells_done : (text : List ℕ) (s : FollowStatus) → IsDone keeper source clock w text → EndsWriting (told_around sink.told w.output) text status.Ok s
      → Tells keeper source clock sink w s
  tells_done text s done e =
      let calm = of_done text done in
      subst (λ (x : FollowStatus). Tells keeper source clock sink w x) (sym e.status) (record {
        ends = whole text status.Ok e.result (with_output text done) (in_output text done) e.written;
        counts = record { journal = inl calm.0; input = inl calm.1; output = by_result text status.Ok e.result e.written };
        causes = record {
          read = meant_by status.ReadFault status.Ok (source.told w.input.before).faults (source.told w.input.after).faults e.result
              (stood (source.told w.input.before).faults (source.told w.input.after).faults status.ReadFault status.Ok calm.1 (λ is. absurd (let no : status.Ok ≡ status.ReadFault = is in cc)))
              (λ is. absurd (let no : status.WriteFault ≡ status.ReadFault = is in cc)) (λ is. absurd (let no : status.OutOfMemory ≡ status.ReadFault = is in cc));
          written = writes_by text status.Ok e.result e.written (λ is. absurd (let no : status.Ok ≡ status.WriteFault = is in cc));
          journal = meant_by status.KeeperFault status.Ok (keeper.told w.journal.before).faults (keeper.told w.journal.after).faults e.result
              (stood (keeper.told w.journal.before).faults (keeper.told w.journal.after).faults status.KeeperFault status.Ok calm.0 (λ is. absurd (let no : status.Ok ≡ status.KeeperFault = is in cc)))
              (λ is. absurd (let no : status.WriteFault ≡ status.KeeperFault = is in cc)) (λ is. absurd (let no : status.OutOfMemory ≡ status.KeeperFault = is in cc));
        };
      })

  abbrev Wanted : FollowStatus → FollowStatus → Type 0
  Wanted meant s = is_fault meant ≡ true → s ≡ status.OutOfMemory → WantedMemory sink w.output.before (refusal_line meant) w.output.after

  -- a status that has no line tells of no fault of the journal or the input
  silent_counts : (failing meant : FollowStatus) (was now : ℕ) → (now ≡ was) ⊎ (Rose was now × (meant ≡ failing)) → has_line failing ≡ true → has_line meant ≡ false
      → CountsFailing sink w.output.before w.output.after was now failing meant
  silent_counts failing meant was now (inl still) some none = inl still
  silent_counts failing meant was now (inr rose) some none =
      let no : true ≡ false = sym some ∙ ap has_line (sym rose.1) ∙ none in
      absurd cc

  pub tells_refused : (meant : FollowStatus) (text : List ℕ) (s : FollowStatus) → IsRefused keeper source clock w meant text
      → EndsRefusing (told_around sink.told w.output) text meant s → Wanted meant s → Tells keeper source clock sink w s
  tells_refused meant text s r (silent none is empty same) wanted =
      let failed = of_refusal meant text r in
      subst (λ (x : FollowStatus). Tells keeper source clock sink w x) (sym is) (record {
        ends = without_line meant none (subst (IsRefused keeper source clock w meant) empty r) same;
        counts = record {
          journal = silent_counts status.KeeperFault meant (keeper.told w.journal.before).faults (keeper.told w.journal.after).faults failed.0.counts refl none;
          input = silent_counts status.ReadFault meant (source.told w.input.before).faults (source.told w.input.after).faults failed.1.counts refl none;
          output = inl (ap (λ (t : SinkTold). t.faults) same);
        };
        causes = record { read = failed.1.cause; written = λ write. absurd (failed.2 write); journal = failed.0.cause };
      })
  tells_refused meant text s r (by_line some e) wanted =
      let failed = of_refusal meant text r in
      let line = text ++ refusal_line meant in
      let want : is_fault meant ≡ true → after_writing meant e.result ≡ status.OutOfMemory → WantedMemory sink w.output.before (refusal_line meant) w.output.after =
      λ is out. wanted is (e.status ∙ out) in
      subst (λ (x : FollowStatus). Tells keeper source clock sink w x) (sym e.status) (record {
        ends = whole line meant e.result (with_refusal meant text some r) (in_refusal meant text some r) e.written;
        counts = record {
          journal = counts_by status.KeeperFault meant (keeper.told w.journal.before).faults (keeper.told w.journal.after).faults line e.result e.written failed.0.counts refl want;
          input = counts_by status.ReadFault meant (source.told w.input.before).faults (source.told w.input.after).faults line e.result e.written failed.1.counts refl want;
          output = by_result line meant e.result e.written;
        };
        causes = record {
          read = meant_by status.ReadFault meant (source.told w.input.before).faults (source.told w.input.after).faults e.result failed.1
              (λ is. absurd (let no : status.WriteFault ≡ status.ReadFault = is in cc)) (λ is. absurd (let no : status.OutOfMemory ≡ status.ReadFault = is in cc));
          written = writes_by line meant e.result e.written failed.2;
          journal = meant_by status.KeeperFault meant (keeper.told w.journal.before).faults (keeper.told w.journal.after).faults e.result failed.0
              (λ is. absurd (let no : status.WriteFault ≡ status.KeeperFault = is in cc)) (λ is. absurd (let no : status.OutOfMemory ≡ status.KeeperFault = is in cc));
        };
      })

-- ---- the parts

module _ {K S C O : Type 0} (keeper : KeeperOf K) (source : SourceOf S) (clock : ClockOf C) (sink : SinkOf O) (words : List (List ℕ)) where
  -- a journal was fed, or was not
  fed_by_long : (origin : List (List ℕ)) (from : ℕ) (k l : K) (s : S) (c : C) (o p : O) (st : FollowStatus) (frames : List Frame) (found : Option ℕ) → too_long frames ≡ found
      → ReadsFeed keeper source clock (world_of words k l s s c c o p) frames
      → EndsWriting (around sink.told o p) (sent_of frames ++ refusal_line (status_at found)) (status_at found) st
      → Tells keeper source clock sink (world_of words k l s s c c o p) st
  fed_by_long origin from k l s c o p st frames None long r e =
      tells_done keeper source clock sink (world_of words k l s s c c o p) (sent_of frames) st (fed frames r long)
      (subst (λ (t : List ℕ). EndsWriting (around sink.told o p) t status.Ok st) (append-nil (sent_of frames)) e)
  fed_by_long origin from k l s c o p st frames (Some row) long r e =
      tells_refused keeper source clock sink (world_of words k l s s c c o p) status.TooLong (sent_of frames) st (at_row frames row r long) (by_line refl e)
      (λ is out. absurd (let no : false ≡ true = is in cc))

  pub tells_feed : (origin : List (List ℕ)) (from : ℕ) (k l : K) (s : S) (c : C) (o p : O) (st : FollowStatus) → command_of words ≡ Some (Feed origin from)
      → PrintsFeed keeper sink from k l o p st → IsOnlyRead keeper k l → Tells keeper source clock sink (world_of words k l s s c c o p) st
  tells_feed origin from k l s c o p st asked (sent frames read calm e) only =
      let reads : ReadsFeed keeper source clock (world_of words k l s s c c o p) frames =
      record { origin = origin; from = from; asked = asked; read = read; calm = calm; only = only; idle = record { unread = refl; unasked = refl } } in
      fed_by_long origin from k l s c o p st frames (too_long frames) refl reads e
  tells_feed origin from k l s c o p st asked (unread f none counts e wanted) only =
      tells_refused keeper source clock sink (world_of words k l s s c c o p) (feed_status f) [] st
      (at_journal origin from f asked none counts only (record { unread = refl; unasked = refl })) e wanted

  -- the words are no command, or are not known to be one
  pub tells_usage : (k : K) (s : S) (c : C) (o p : O) (st : FollowStatus) → command_of words ≡ None → EndsRefusing (around sink.told o p) [] status.Usage st
      → Tells keeper source clock sink (world_of words k k s s c c o p) st
  tells_usage k s c o p st none e =
      tells_refused keeper source clock sink (world_of words k k s s c c o p) status.Usage [] st
      (at_words none (record { journal = refl; idle = record { unread = refl; unasked = refl } })) e (λ is out. absurd (let no : false ≡ true = is in cc))

  pub tells_wanting : (k : K) (s : S) (c : C) (o : O) → Tells keeper source clock sink (world_of words k k s s c c o o) status.OutOfMemory
  tells_wanting k s c o =
      tells_refused keeper source clock sink (world_of words k k s s c c o o) status.OutOfMemory [] status.OutOfMemory
      (without_memory (record { journal = refl; idle = record { unread = refl; unasked = refl } })) (silent refl refl refl refl)
      (λ is out. absurd (let no : false ≡ true = is in cc))

  -- a journal was not opened
  pub tells_unopened : (origin : List (List ℕ)) (k l : K) (s : S) (c : C) (o p : O) (why : FollowOpenKind) (meant st : FollowStatus) → command_of words ≡ Some (Follow origin)
      → IsNotOpened (keeper.told k) (keeper.told l) origin why → LeavesOpened keeper k l → meant ≡ open_status why
      → EndsRefusing (around sink.told o p) [] meant st
      → (is_fault meant ≡ true → st ≡ status.OutOfMemory → WantedMemory sink o (refusal_line meant) p)
      → Tells keeper source clock sink (world_of words k l s s c c o p) st
  tells_unopened origin k l s c o p why meant st asked none left is e wanted =
      tells_refused keeper source clock sink (world_of words k l s s c c o p) meant [] st
      (subst (λ (m : FollowStatus). IsRefused keeper source clock (world_of words k l s s c c o p) m []) (sym is)
      (at_opening origin why asked none left (record { unread = refl; unasked = refl }))) e wanted

  module _ (origin : List (List ℕ)) (k l : K) (s t : S) (c d : C) (o p : O) (before after : SeenOf K) (asked : command_of words ≡ Some (Follow origin))
      (opened : IsOpened keeper (keeper.told k) origin before) (left : LeavesOpened keeper k before.keeper)
      (named : after.origin ≡ before.origin) (given : l ≡ after.keeper) where
    -- an input was followed to its end
    pub tells_followed : (count length : ℕ) (serial : Option ℕ) (result : Result (Unit {0}) IoFault) (st : FollowStatus)
        → Follows keeper source clock most_reads s c before t d after (Ok count) → HoldsStored keeper after
        → length ≡ after.count → serial ≡ zone_serial after.zone → WritesWhole (around sink.told o p) (length_line length serial) result
        → st ≡ after_writing status.Ok result → Tells keeper source clock sink (world_of words k l s t c d o p) st
    tells_followed count length serial result st f stored size is v ends =
        let line : length_line length serial ≡ length_line after.count (zone_serial after.zone) = rw (size, is) refl in
        tells_done keeper source clock sink (world_of words k l s t c d o p) (length_line after.count (zone_serial after.zone)) st
        (followed before after count (record { origin = origin; asked = asked; opened = opened; left = left; named = named; given = sym given }) f stored)
        (record { result = result; written = subst (λ (x : List ℕ). WritesWhole (around sink.told o p) x result) line v; status = ends })

    -- it was not
    pub tells_stopped : (f : FollowFault) (meant st : FollowStatus) → Follows keeper source clock most_reads s c before t d after (Err f) → meant ≡ follow_status f
        → EndsRefusing (around sink.told o p) [] meant st
        → (is_fault meant ≡ true → st ≡ status.OutOfMemory → WantedMemory sink o (refusal_line meant) p)
        → Tells keeper source clock sink (world_of words k l s t c d o p) st
    tells_stopped f meant st follows is e wanted =
        tells_refused keeper source clock sink (world_of words k l s t c d o p) meant [] st
        (subst (λ (m : FollowStatus). IsRefused keeper source clock (world_of words k l s t c d o p) m []) (sym is)
        (at_input before after f (record { origin = origin; asked = asked; opened = opened; left = left; named = named; given = sym given }) follows)) e wanted
