-- What sending frames does to the output, and what it says of a feed.
use Rattle.std.proofs.Common.{◌≡◌, ℕ, ℤ, pos, ◌-◌, List, map, Option, Some, None, Result, Ok, Err, sym, ap, ◌∙◌, subst, length}
use Rattle.std.specs.Prelude.{IfOk, IfErr, IfSome}
use Rattle.dns_io.specs.declared.io_fault.IoFault.{IoFault}
use Rattle.dns_io.specs.declared.io_fault.IoFault.TheVariants as io
use Rattle.dns_edges.specs.Edges.{Around, SinkTold, Flushes}
use Rattle.dns_words.specs.Writing.{Writes}
use Rattle.dns_words.proofs.TextsWritten.{sink_of, Whole-flush}
use Rattle.dns_keeper.specs.declared.row.Row.{Row}
use Rattle.dns_keeper.specs.Batches.{AreNumbered}
use Rattle.dns_keeper.specs.RunsSoFar.{RunsSoFar}
use Rattle.dns_keeper.specs.Keeping.{KeeperOf, KeeperTold}
use Rattle.dns_store.specs.Covered.{IsCovered}
use Rattle.dns_store.specs.Covering.{HaveRuns}
use Rattle.dns_follow.specs.declared.frame.Frame.{Frame}
use Rattle.dns_follow.specs.declared.feed_fault.FeedFault.{FeedFault}
use Rattle.dns_follow.specs.declared.feed_fault.FeedFault.TheVariants as fault
use Rattle.dns_follow.specs.FeedFaults.{of_output}
use Rattle.dns_follow.specs.Feed.{frame_of}
use Rattle.dns_follow.specs.Feeding.{sent_of, too_long, out_of_place, unfit, rows_from, ReadsFed, ReadsNoFed, ReadsJournal, Sends, SendsNot, failed, cut, Feeds, FeedsNot, unsent}
use Rattle.dns_follow.specs.Scanning.{IsScanned, IsMarkedBy, IsUncovered}
use Rattle.dns_follow.proofs.FedReads.{if_told, both_told, carried, told_back, reads_on}
use Rattle.dns_follow.proofs.ScannedRows.{uncovered_there, unfit_there}
use Rattle.dns_follow.proofs.MarkedRows.{fit_drop}

-- ---- the output

-- the output failed, or wanted memory
pub cut_off : (output : Around SinkTold) (frames : List Frame) (why : IoFault) (f : FeedFault) → f ≡ of_output why → Writes output (sent_of frames) (Err why) → SendsNot output frames f
cut_off output frames why f is w = subst (SendsNot output frames) (sym is) (by why w)
  where
    by : (why : IoFault) → Writes output (sent_of frames) (Err why) → SendsNot output frames (of_output why)
    by io.Failed w = failed w.err.0 w.err.1 w.cause.counts
    by io.OutOfMemory w = cut w.err.0 w.err.1 w.cause.counts

-- all was written, and was to be handed on
pub not_handed_on : (a b c : SinkTold) (frames : List Frame) (why : IoFault) (f : FeedFault) → f ≡ of_output why → Writes (sink_of a b) (sent_of frames) (Ok tt) → Flushes b c (Err why)
    → SendsNot (sink_of a c) frames f
not_handed_on a b c frames why f is w flush = cut_off (sink_of a c) frames why f is (Whole-flush a b c (sent_of frames) (Err why) w flush.kept flush.all flush.cause).written

pub all_sent : (a b c : SinkTold) (frames : List Frame) (count : ℕ) → None ≡ too_long frames → Writes (sink_of a b) (sent_of frames) (Ok tt) → Flushes b c (Ok tt) → count ≡ length frames
    → Sends (sink_of a c) frames count
all_sent a b c frames count none w flush number =
    let whole = Whole-flush a b c (sent_of frames) (Ok tt) w flush.kept flush.all flush.cause in
    record { all = sym none; written = record { taken = whole.written.ok; flushed = whole.flushed; faults = whole.written.cause.counts }; number = number }

-- ---- the journal

-- the runs of rows that were seen
pub seen_runs : (from : ℕ) (runs : RunsSoFar) (kept : List Row) (last : ℤ) (wrong : Option ℤ) (told : Option (List Row)) → IsScanned from runs kept last wrong told → IfSome told (HaveRuns runs)
seen_runs from runs kept last wrong told seen =
    if_told told (λ l is. subst (HaveRuns runs) (sym is) (record { counted = seen.seen.counted; numbered = seen.seen.numbered })) seen.are

module _ {K S : Type 0} (keeper : KeeperOf K) (from : ℕ) (runs : RunsSoFar) (kept : List Row) (last : ℤ) (wrong : Option ℤ) (start before now : K) (scanned : S)
    (first : ReadsJournal keeper start before (Ok scanned)) (seen : IsScanned from runs kept last wrong (keeper.told before).rows) where
  -- what was seen is told after a reading
  seen_now : {T : Type 0} (result : Result T FeedFault) → ReadsJournal keeper before now result → IfSome (keeper.told now).rows (λ l. l ≡ seen.rows)
  seen_now result second = carried keeper (λ bs l. l ≡ seen.rows) before now result second seen.are

  -- batches do not cover the rows
  pub not_covered : {T : Type 0} (f : FeedFault) → ReadsJournal {T = T} keeper before now (Err f) → IsUncovered (keeper.told now) f → ReadsNoFed (keeper.told start) (keeper.told now) f
  not_covered fault.KeeperFault second why = tt
  not_covered fault.Write second why = absurd why
  not_covered {T} (fault.OutOfPlace row) second why =
      told_back keeper (λ bs l. out_of_place l bs ≡ Some row) start now (Err (fault.OutOfPlace row)) (reads_on keeper {T = T} start before now scanned (Err (fault.OutOfPlace row)) first second)
      (both_told (keeper.told now).rows (λ l is place. uncovered_there l (keeper.told now).batches row (subst (AreNumbered (pos 1)) (sym is) seen.seen.numbered) place)
      (seen_now (Err (fault.OutOfPlace row)) second) why)
  not_covered (fault.TooLong row) second why = absurd why
  not_covered fault.OutOfMemory second why = tt

  module _ (second : ReadsJournal {T = Unit {0}} keeper before now (Ok tt)) (covered : IsCovered (keeper.told now)) where
    placed_now : IfSome (keeper.told now).rows (λ l. out_of_place l (keeper.told now).batches ≡ wrong)
    placed_now =
        both_told (keeper.told now).rows
        (λ l is covers. unfit_there l (keeper.told now).batches wrong (subst (AreNumbered (pos 1)) (sym is) seen.seen.numbered) covers (seen.seen.unfit_is ∙ ap unfit (sym is)))
        (seen_now (Ok tt) second) covered

    -- a row is unfit
    pub not_fit : (row : ℤ) → wrong ≡ Some row → ReadsNoFed (keeper.told start) (keeper.told now) (fault.OutOfPlace row)
    not_fit row is =
        told_back keeper (λ bs l. out_of_place l bs ≡ Some row) start now (Ok tt) (reads_on keeper start before now scanned (Ok tt) first second)
        (if_told (keeper.told now).rows (λ l place. place ∙ is) placed_now)

    -- none is
    pub kept_fit : wrong ≡ None → unfit kept ≡ None
    kept_fit none = ap unfit seen.seen.from_on ∙ fit_drop (from - 1) seen.rows (sym seen.seen.unfit_is ∙ none)

    pub fed : {T : Type 0} (end : K) (frames : List Frame) (value : T) → wrong ≡ None → ReadsJournal keeper now end (Ok value)
        → IfSome (keeper.told end).rows (λ all. IsMarkedBy (keeper.told end).batches kept frames) → ReadsFed from (keeper.told end) frames
    fed end frames value none third marked =
        let here : IfSome (keeper.told now).rows (λ l. (l ≡ seen.rows) × (out_of_place l (keeper.told now).batches ≡ wrong)) =
        both_told (keeper.told now).rows (λ l is place. (is, place)) (seen_now (Ok tt) second) placed_now in
        let there = carried keeper (λ bs l. (l ≡ seen.rows) × (out_of_place l bs ≡ wrong)) now end (Ok value) third here in
        both_told (keeper.told end).rows
        (λ l both are. record {
          placed = both.1 ∙ none;
          are = are ∙ ap (λ (r : List Row). map (frame_of (keeper.told end).batches) r) (seen.seen.from_on ∙ ap (rows_from from) (sym both.0));
        })
        there marked

    pub fed_all : {V : Type 0} (end : K) (result : Result V FeedFault) (items : V → List Frame) → wrong ≡ None → ReadsJournal keeper now end result
        → IfOk result (λ v. IfSome (keeper.told end).rows (λ all. IsMarkedBy (keeper.told end).batches kept (items v))) → IfOk result (λ v. ReadsFed from (keeper.told end) (items v))
    fed_all end (Ok v) items none third marked = fed end (items v) v none third marked
    fed_all end (Err f) items none third marked = tt

pub fed_sent : (before after : KeeperTold) (from : ℕ) (output : Around SinkTold) (frames : List Frame) (result : Result ℕ FeedFault) → ReadsFed from after frames → IfOk result (Sends output frames)
    → IfOk result (Feeds before after from output)
fed_sent before after from output frames (Ok count) read sends = record { frames = frames; read = read; sends = sends }
fed_sent before after from output frames (Err f) read sends = tt

pub fed_unsent : (before after : KeeperTold) (from : ℕ) (output : Around SinkTold) (frames : List Frame) (result : Result ℕ FeedFault) → ReadsFed from after frames → IfErr result (SendsNot output frames)
    → IfErr result (FeedsNot before after from output)
fed_unsent before after from output frames (Ok count) read not = tt
fed_unsent before after from output frames (Err f) read not = unsent frames read not
