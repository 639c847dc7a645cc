-- How the program ends, by what its parts did.
use Rattle.std.proofs.Common.{◌≡◌, ◌⊎◌, inl, inr, ℕ, ℤ, ◌≤◌, List, Option, Some, None, IfSome, MatchOption, Result, Ok, Err, refl, sym, ap, ◌∙◌, subst, take, length}
use Rattle.dns_edges.specs.Edges.{Around, SourceTold, SinkTold}
use Rattle.dns_io.specs.Told.{NeverBegins, Keeps, Rose}
use Rattle.dns_io.specs.declared.io_fault.IoFault.{IoFault}
use Rattle.dns_io.specs.declared.io_fault.IoFault.TheVariants.{Failed, OutOfMemory}
use Rattle.dns_io.proofs.ToldContents.{Keeps-more}
use Rattle.dns_keeper.specs.Keeping.{KeeperTold, KeeperOf, KeepsBatches, HasCause}
use Rattle.dns_keeper.specs.declared.keeper.KeepFault.{KeepFault}
use Rattle.dns_keeper.specs.declared.keeper.KeepFault.TheVariants as keep
use Rattle.dns_zone_map.specs.Zone.{Contents, serial_of}
use Rattle.dns_update.specs.declared.replay_kind.ReplayKind.{ReplayKind}
use Rattle.dns_server_core.specs.declared.event.Event.{Event}
use Rattle.dns_server_core.specs.declared.event.Out.{Out}
use Rattle.dns_book.specs.Book.{SeenOf, stored_of, IsKept, Settles}
use Rattle.dns_book.specs.Opening as book
use Rattle.dns_store.specs.Covered.{AreNone, Stand, StandOrNone, AreUncovered}
use Rattle.dns_store.specs.Opening.{AreRefused}
use Rattle.dns_store.proofs.Opened.{uncovered_since, uncovered_more, begins_since, recovers_since}
use Rattle.dns_store.specs.declared.opening.OpenKind.{OpenKind}
use Rattle.dns_store.specs.declared.opening.OpenKind.TheVariants as kind
use Rattle.dns_server_core.specs.Serving.{ServerOf}
use Rattle.dns_server_core.specs.Valid.{Valid}
use Rattle.dns_server_core.specs.Connections.{Kept, new_kept, done, after}
use Rattle.dns_server_core.specs.Runs.{Completed, Run}
use Rattle.dns_server_core.specs.Books.{failures}
use Rattle.dns_generator.specs.Loaded.{loaded}
use Rattle.dns_generator.proofs.Quiet.{valid}
use Rattle.dns_command.specs.declared.status.Status.{Status}
use Rattle.dns_command.specs.declared.status.Status.TheVariants as status
use Rattle.dns_command.specs.declared.run_list.Inputs.{Inputs}
use Rattle.dns_command.specs.declared.opening.Opening.{Opening}
use Rattle.dns_command.specs.declared.opening.Opening.TheVariants.{Begin, Recover}
use Rattle.dns_command.specs.declared.command_line.Options.{Options}
use Rattle.dns_command.specs.declared.command_line.Drawn.{Drawn}
use Rattle.dns_command.specs.CommandLine.{access_of}
use Rattle.dns_command.specs.Lines.{lines_by}
use Rattle.dns_command.specs.Status.{refusal_line}
use Rattle.dns_words.specs.Writing.{IsUntouched, IsWritten}
use Rattle.dns_command.specs.World.{World}
use Rattle.dns_command.specs.Steps.{Finds, FindsExample, FindsBy, LoadsEvents, SeesNoRow, journal_unread, journal_without_memory, OpensNot, rows_refused, batches_refused, journal_failed, opening_without_memory, at_opening}
use Rattle.dns_command.specs.Ends.{IsOpened, CountsFailures, Begins, Serves, Rejects, Answers, Breaks, all, TookFront, Refuses, IsCut, IsWanted, IsCutWanted, in_refusal, in_rejection, in_answers}
use Rattle.dns_command.specs.Ends.{Ends, with_answers, with_refusal, with_rejection, with_write_fault, cut_for_memory, refused_for_memory, broken_for_memory}
use Rattle.dns_words.specs.Writing.{WritesWhole}
use Rattle.dns_command.specs.Writing.{after_writing, EndsWriting, EndsRefusing, silent, by_line}
use Rattle.dns_command.specs.Parts.{Prepares, OpensBook, unopened, unkept, SettlesPart, of_invalid, of_memory, SettlesAll, SettlesNot, not_opened, not_settled}
use Rattle.dns_command.proofs.Told.{NeverBegins-told, NeverBegins-same, NeverBegins-more, HadNoRow-on, HadRows-on, AreRefused-earlier}
use Rattle.dns_command.proofs.Settled.{Run-told}

-- ---- the output

-- a text was written, or was not written to its end
whole : {K : Type 0} (keeper : KeeperOf K) (w : World) (text : List ℕ) (meant : Status) (result : Result (Unit {0}) IoFault)
    → (IsWritten w.output text → Ends keeper w meant) → (cut : TookFront w text → IsCut keeper w)
    → ((took : TookFront w text) → after_writing meant result ≡ status.OutOfMemory → IsCutWanted keeper w (IsWanted w) (cut took)) → WritesWhole w.output text result → Ends keeper w (after_writing meant result)
whole keeper w text meant (Ok done) good cut wanted v = good (record { taken = v.written.ok; flushed = v.flushed; faults = v.written.cause.counts })
whole keeper w text meant (Err Failed) good cut wanted v = with_write_fault v.written.cause.counts (cut v.written.err)
whole keeper w text meant (Err OutOfMemory) good cut wanted v = cut_for_memory v.written.cause.counts (cut v.written.err) (wanted v.written.err refl)

-- a refusal
pub refused : {K : Type 0} (keeper : KeeperOf K) (w : World) (s t : Status) → Refuses w s → EndsRefusing w.output w.wants s t → Ends keeper w t
refused keeper w s t r (silent m is u) = subst (λ (x : Status). Ends keeper w x) (sym is) (refused_for_memory (subst (λ (x : Status). Refuses w x) m r) u)
refused keeper w s t r (by_line ne e wanted) =
    subst (λ (x : Status). Ends keeper w x) (sym e.status)
    (whole keeper w (refusal_line s) s e.result (with_refusal ne r) (in_refusal s ne r) (λ took out fault. wanted fault (e.status ∙ out)) e.written)

-- want of memory among the messages
pub broken : {K : Type 0} (keeper : KeeperOf K) (w : World) (t : Status) → Breaks keeper w → EndsRefusing w.output w.wants status.OutOfMemory t → Ends keeper w t
broken keeper w t b (silent m is u) = subst (λ (x : Status). Ends keeper w x) (sym is) (broken_for_memory b u)
broken keeper w t b (by_line ne e wanted) = absurd (ne refl)

-- a list that is not valid
pub rejected : {K : Type 0} (keeper : KeeperOf K) (w : World) (t : Status) → Rejects keeper w → EndsRefusing w.output w.wants status.NotValid t → Ends keeper w t
rejected keeper w t a (silent m is u) = absurd cc
rejected keeper w t a (by_line ne e wanted) =
    subst (λ (x : Status). Ends keeper w x) (sym e.status)
    (whole keeper w (refusal_line status.NotValid) status.NotValid e.result (with_rejection a) (in_rejection a) (λ took out fault. wanted fault (e.status ∙ out)) e.written)

-- all replies
pub answered : {K : Type 0} (keeper : KeeperOf K) (w : World) (text : List ℕ) (t : Status) → Answers keeper w text → EndsWriting w.output text status.Ok t → Ends keeper w t
answered keeper w text t a e = subst (λ (x : Status). Ends keeper w x) (sym e.status) (whole keeper w text status.Ok e.result (with_answers text a) (in_answers text a) (λ took out. tt) e.written)

-- ---- the journal

-- a journal before and after
abbrev pub journal_of : KeeperTold → KeeperTold → Around KeeperTold
journal_of before after = record { before = before; after = after }

pub Finds-on : (b m a : KeeperTold) (source : Around SourceTold) (origin : List (List ℕ)) (opening : Opening) → Finds (journal_of b m) source origin opening → NeverBegins m.rows a.rows → Finds (journal_of b a) source origin opening
Finds-on b m a source origin (Begin zone) f told = (HadNoRow-on b.rows m.rows a.rows f.0 told, f.1)
Finds-on b m a source origin Recover f told = (HadRows-on b.rows m.rows a.rows f.0 told, f.1)

FindsExample-on : (b m a : KeeperTold) (opening : Opening) → FindsExample (journal_of b m) opening → NeverBegins m.rows a.rows → FindsExample (journal_of b a) opening
FindsExample-on b m a (Begin zone) f told = (HadNoRow-on b.rows m.rows a.rows f.0 told, f.1)
FindsExample-on b m a Recover f told = HadRows-on b.rows m.rows a.rows f told

-- by what is drawn
Finds-by : (drawn : Option Drawn) (b m a : KeeperTold) (source : Around SourceTold) (origin : List (List ℕ)) (opening : Opening)
    → MatchOption drawn (Finds (journal_of b m) source origin opening) (λ d. FindsExample (journal_of b m) opening × IsUntouched source) → NeverBegins m.rows a.rows
    → MatchOption drawn (Finds (journal_of b a) source origin opening) (λ d. FindsExample (journal_of b a) opening × IsUntouched source)
Finds-by None b m a source origin opening f told = Finds-on b m a source origin opening f told
Finds-by (Some d) b m a source origin opening f told = (FindsExample-on b m a opening f.0 told, f.1)

FindsBy-on : (b m a : KeeperTold) (source : Around SourceTold) (options : Options) (opening : Opening) → FindsBy (journal_of b m) source options opening → NeverBegins m.rows a.rows → FindsBy (journal_of b a) source options opening
FindsBy-on b m a source options opening f told = Finds-by options.drawn b m a source options.origin opening f told

-- a list that is not valid was not drawn
is_undrawn : (drawn : Option Drawn) (source : Around SourceTold) (events : List Event) → IfSome drawn (λ d. d.count ≤ 100000)
    → MatchOption drawn (LoadsEvents source events) (λ d. (events ≡ loaded d.seed d.count) × IsUntouched source) → (Valid new_kept events → ⊥) → drawn ≡ None
is_undrawn None source events few heard invalid = refl
is_undrawn (Some d) source events few heard invalid = absurd (invalid (subst (λ (l : List Event). Valid new_kept l) (sym heard.0) (valid d.seed d.count few)))

pub OpensNot-earlier : (b m a : KeeperTold) (origin : List (List ℕ)) (opening : Opening) (s : Status) → OpensNot (journal_of m a) origin opening s → Keeps b.rows m.rows → KeepsBatches b m → m.faults ≡ b.faults → OpensNot (journal_of b a) origin opening s
OpensNot-earlier b m a origin opening s (batches_refused place why un still) k kb same = batches_refused place why (uncovered_since (StandOrNone origin) b m a place why k kb un) (still ∙ same)
OpensNot-earlier b m a origin opening s (rows_refused row why refused still) k kb same = rows_refused row why (AreRefused-earlier b.rows m.rows a.rows origin row why k refused) (still ∙ same)
OpensNot-earlier b m a origin opening s (journal_failed rose) k kb same = journal_failed (subst (λ (n : ℕ). Rose n a.faults) same rose)
OpensNot-earlier b m a origin opening s (opening_without_memory still) k kb same = opening_without_memory (still ∙ same)

-- a journal whose first row was not seen
pub sees_no_row : {T : Type 0} (journal : Around KeeperTold) (why : KeepFault) → HasCause {T = T} journal.before.faults journal.after.faults (Err why) → SeesNoRow journal (unkept why)
sees_no_row journal keep.Failed cause = journal_unread cause.counts
sees_no_row journal keep.OutOfMemory cause = journal_without_memory cause.counts

-- a journal that was not begun
pub begun_not : (b a : KeeperTold) (origin : List (List ℕ)) (zone : Contents) (why : OpenKind) → book.BeginsNot b a (Some zone) why → OpensNot (journal_of b a) origin (Begin zone) (unopened why)
begun_not b a origin zone (kind.Recovery id why) h =
    batches_refused id why (uncovered_more AreNone (StandOrNone origin) b a id why (λ rows none. inl none) h.unbegun) h.unopened.counts
begun_not b a origin zone kind.KeeperFault h = journal_failed h.unopened.counts
begun_not b a origin zone kind.NoZone h = opening_without_memory h.unopened.counts
begun_not b a origin zone kind.OutOfMemory h = opening_without_memory h.unopened.counts

-- a journal that was not read back
refused_by : (b a : KeeperTold) (origin : List (List ℕ)) (id : ℤ) (why : ReplayKind) → AreRefused b.rows a.rows origin id why ⊎ AreUncovered (Stand origin) b a id why → a.faults ≡ b.faults
    → OpensNot (journal_of b a) origin Recover (status.Recovery id why)
refused_by b a origin id why (inl refused) still = rows_refused id why refused still
refused_by b a origin id why (inr un) still = batches_refused id why (uncovered_more (Stand origin) (StandOrNone origin) b a id why (λ rows stand. inr stand) un) still

pub recovered_not : (b a : KeeperTold) (origin : List (List ℕ)) (why : OpenKind) → book.RecoversNot b a origin why → OpensNot (journal_of b a) origin Recover (unopened why)
recovered_not b a origin (kind.Recovery id why) h = refused_by b a origin id why h.unread h.unopened.counts
recovered_not b a origin kind.KeeperFault h = journal_failed h.unopened.counts
recovered_not b a origin kind.NoZone h = opening_without_memory h.unopened.counts
recovered_not b a origin kind.OutOfMemory h = opening_without_memory h.unopened.counts

-- what was opened of a journal that nothing had changed yet
pub IsOpened-earlier : {K : Type 0} (keeper : KeeperOf K) (b m : KeeperTold) (options : Options) (moment : ℕ) (opening : Opening) (first : SeenOf K) → Keeps b.rows m.rows → KeepsBatches b m
    → m.faults ≡ b.faults → IsOpened keeper m options moment opening first → IsOpened keeper b options moment opening first
IsOpened-earlier keeper b m options moment (Begin zone) first k kb same o = record {
  store = begins_since keeper b m zone moment (stored_of first) k kb same o.store;
  allow_update = o.allow_update;
  counts = o.counts;
}
IsOpened-earlier keeper b m options moment Recover first k kb same o = record {
  store = recovers_since keeper b m options.origin (stored_of first) k kb same o.store;
  allow_update = o.allow_update;
  counts = o.counts;
}

-- and it was told before
pub IsOpened-told : {K : Type 0} (keeper : KeeperOf K) (m : KeeperTold) (options : Options) (moment : ℕ) (opening : Opening) (first : SeenOf K) → IsOpened keeper m options moment opening first → NeverBegins m.rows (keeper.told first.keeper).rows
IsOpened-told keeper m options moment (Begin zone) first o = NeverBegins-told _ m.rows (keeper.told first.keeper).rows o.store.grown
IsOpened-told keeper m options moment Recover first o = NeverBegins-told _ m.rows (keeper.told first.keeper).rows o.store.kept

-- no fault was counted
pub IsOpened-still : {K : Type 0} (keeper : KeeperOf K) (m : KeeperTold) (options : Options) (moment : ℕ) (opening : Opening) (first : SeenOf K) → IsOpened keeper m options moment opening first → (keeper.told first.keeper).faults ≡ m.faults
IsOpened-still keeper m options moment (Begin zone) first o = o.store.uncounted
IsOpened-still keeper m options moment Recover first o = o.store.uncounted

-- ---- what was prepared, and then served

module _ {K : Type 0} (keeper : KeeperOf K) (words : List (List ℕ)) (z e : Around SourceTold) (out : Around SinkTold) (wants : List ℕ → Type 0) (b : KeeperTold) (moment : ℕ) (inputs : Inputs) (held left : K) (p : Prepares words z e (journal_of b (keeper.told held)) inputs) (k : Keeps b.rows (keeper.told held).rows) (kb : KeepsBatches b (keeper.told held)) (same : (keeper.told held).faults ≡ b.faults) where
  abbrev world : World
  world = record { words = words; zone = z; events = e; journal = journal_of b (keeper.told left); output = out; wants = wants; moment = Some moment }

  -- a journal was opened
  begins : (first : SeenOf K) → OpensBook keeper held inputs.options inputs.opening moment first → NeverBegins (keeper.told first.keeper).rows (keeper.told left).rows → Begins keeper world inputs.options inputs.events.items first
  begins first o told = record {
    opening = inputs.opening;
    legal = p.legal;
    found = FindsBy-on b (keeper.told held) (keeper.told left) z inputs.options inputs.opening p.found
        (NeverBegins-more (keeper.told held).rows (keeper.told first.keeper).rows (keeper.told left).rows (IsOpened-told keeper (keeper.told held) inputs.options moment inputs.opening first o) told);
    heard = p.heard;
    moment = moment;
    asked = refl;
    opened = IsOpened-earlier keeper b (keeper.told held) inputs.options moment inputs.opening first k kb same o;
  }

  -- messages were settled on it
  serves : (picked : List Completed → List Completed) (first last : SeenOf K) (outs : List Out) → OpensBook keeper held inputs.options inputs.opening moment first → Valid new_kept inputs.events.items
      → (ran : Run (Settles keeper (access_of inputs.options)) first (picked (done new_kept inputs.events.items)) outs last)
      → CountsFailures (failures keeper (access_of inputs.options) first (picked (done new_kept inputs.events.items)) outs last ran) (keeper.told first.keeper).faults (keeper.told left).faults
      → NeverBegins (keeper.told last.keeper).rows (keeper.told left).rows → Serves keeper world picked inputs.events.items outs last
  serves picked first last outs o v ran few told = record {
    options = inputs.options;
    first = first;
    begun = begins first o (NeverBegins-more (keeper.told first.keeper).rows (keeper.told last.keeper).rows (keeper.told left).rows (Run-told keeper (access_of inputs.options) first last (picked (done new_kept inputs.events.items)) outs ran) told);
    valid = v;
    ran = ran;
    few = subst (λ (n : ℕ). CountsFailures (failures keeper (access_of inputs.options) first (picked (done new_kept inputs.events.items)) outs last ran) n (keeper.told left).faults)
        (IsOpened-still keeper (keeper.told held) inputs.options moment inputs.opening first o ∙ same) few;
  }

  pub answers : (outs : List Out) (server : ServerOf (SeenOf K)) → SettlesAll keeper held inputs moment outs server → left ≡ server.handler.keeper → IsKept keeper server.handler
      → Answers keeper world (lines_by inputs.options.drawn outs (serial_of server.handler.zone.records) server.handler.row_count (length server.kept.connections))
  unfolding serves
  answers outs server s is kept = record {
    events = inputs.events.items;
    outs = outs;
    last = server.handler;
    served = serves all s.first server.handler outs s.begun s.settled.valid s.settled.ran
        (subst (λ (x : K). CountsFailures (failures keeper (access_of inputs.options) s.first (done new_kept inputs.events.items) outs server.handler s.settled.ran) (keeper.told s.first.keeper).faults (keeper.told x).faults) (sym is) s.settled.few)
        (subst (λ (x : K). NeverBegins (keeper.told x).rows (keeper.told left).rows) is (NeverBegins-same (keeper.told left).rows));
    left = ap keeper.told (sym is);
    kept = kept;
    text = ap (λ (x : Kept). lines_by inputs.options.drawn outs (serial_of server.handler.zone.records) server.handler.row_count (length x.connections)) s.settled.kept;
  }

  -- not every message was settled on it
  partly : (first : SeenOf K) (s t : Status) → OpensBook keeper held inputs.options inputs.opening moment first → SettlesPart keeper (access_of inputs.options) first inputs.events.items s left → EndsRefusing out wants s t → Ends keeper world t
  partly first s t o (of_invalid invalid is) r =
      rejected keeper world t (record {
        options = inputs.options;
        events = inputs.events.items;
        first = first;
        begun = begins first o (subst (λ (x : K). NeverBegins (keeper.told first.keeper).rows (keeper.told x).rows) is (NeverBegins-same (keeper.told first.keeper).rows));
        undrawn = is_undrawn inputs.options.drawn e inputs.events.items p.few p.heard invalid;
        invalid = invalid;
        left = ap keeper.told is;
      }) r
  partly first s t o (of_memory count outs last valid ran few keeps counted) r =
      broken keeper world t (record {
        count = count;
        events = inputs.events.items;
        outs = outs;
        last = last;
        served = serves (take count) first last outs o valid ran few (NeverBegins-told _ (keeper.told last.keeper).rows (keeper.told left).rows keeps);
        left = keeps;
        counted = counted;
      }) r

  -- the journal was not opened
  unopened_refused : (s t : Status) → OpensNot (journal_of (keeper.told held) (keeper.told left)) inputs.options.origin inputs.opening s → Keeps (keeper.told held).rows (keeper.told left).rows → EndsRefusing out wants s t → Ends keeper world t
  unopened_refused s t n keeps r = refused keeper world s t (record {
    cause = at_opening inputs.options inputs.opening inputs.events.items p.legal
        (FindsBy-on b (keeper.told held) (keeper.told left) z inputs.options inputs.opening p.found (NeverBegins-told _ (keeper.told held).rows (keeper.told left).rows keeps)) p.heard
        (OpensNot-earlier b (keeper.told held) (keeper.told left) inputs.options.origin inputs.opening s n k kb same) refl;
    kept = Keeps-more b.rows (keeper.told held).rows (keeper.told left).rows k keeps;
  }) r

  -- the journal was not opened, or not every message was settled
  pub unsettled : (s t : Status) → SettlesNot keeper held inputs moment s left → EndsRefusing out wants s t → Ends keeper world t
  unsettled s t (not_opened n keeps) r = unopened_refused s t n keeps r
  unsettled s t (not_settled first begun part) r = partly first s t begun part r
