-- Of what the program was given nothing is at fault: then it ends with the replies, or for want of memory.
use Rattle.std.proofs.Common.{◌≡◌, ℕ, ℤ, pos, ◌≤◌, List, [], ◌∷◌, inl, inr, length, Option, Some, None, IsSome, MatchOption, Result, Ok, Err, refl, sym, ap, subst, ◌∙◌, length-append, arith}
use Rattle.std.specs.Prelude.{IfSome}
use Rattle.std.proofs.lemmas.Option.{same_Some}
use Rattle.dns_io.specs.Told.{Told, WasLonger, Rose}
use Rattle.dns_name.specs.Name.{fold_of}
use Rattle.dns_wire.specs.declared.record.Record.{Record}
use Rattle.dns_keeper.specs.declared.row.Row.{Row}
use Rattle.dns_keeper.specs.declared.batch_row.BatchRow.{BatchRow}
use Rattle.dns_keeper.specs.Batches.{Covers, uncovered}
use Rattle.dns_keeper.specs.Keeping.{KeeperOf}
use Rattle.dns_keeper.proofs.Covering.{covering}
use Rattle.dns_update.specs.declared.replay_kind.ReplayKind.{ReplayKind}
use Rattle.dns_update.specs.declared.replay_kind.ReplayKind.TheVariants.{BatchOutOfPlace}
use Rattle.dns_update.specs.Replay.{Replays}
use Rattle.dns_update.proofs.Replayed.{replays_one}
use Rattle.dns_zone.specs.ZoneText.{zone_of}
use Rattle.dns_server_core.specs.declared.event.Event.{Event}
use Rattle.dns_server_core.specs.Valid.{Valid}
use Rattle.dns_server_core.specs.Connections.{new_kept}
use Rattle.dns_store.specs.Covered.{IsCovered, StandOrNone}
use Rattle.dns_book.specs.Opening.{HadNoRow, HadRows}
use Rattle.dns_generator.specs.Loaded.{loaded}
use Rattle.dns_command.specs.declared.status.Status.{Status}
use Rattle.dns_command.specs.declared.status.Status.TheVariants as status
use Rattle.dns_command.specs.declared.opening.Opening.{Opening}
use Rattle.dns_command.specs.declared.opening.Opening.TheVariants.{Begin, Recover}
use Rattle.dns_command.specs.declared.command_line.Options.{Options}
use Rattle.dns_command.specs.declared.command_line.Drawn.{Drawn}
use Rattle.dns_command.specs.CommandLine.{options_of}
use Rattle.dns_command.specs.EventText.{events_of}
use Rattle.dns_words.specs.Writing.{IsUntouched}
use Rattle.dns_command.specs.World.{World}
use Rattle.dns_command.specs.Steps.{zone_bound, event_bound, Finds, LoadsEvents, SeesNoRow, journal_unread, journal_without_memory, ReadsNoZone, zone_unread, zone_too_long, zone_faulty, zone_without_memory, FindsNot, unseen, no_zone, FindsExample, FindsBy, FindsNotBy}
use Rattle.dns_command.specs.Steps.{LoadsNoEvents, events_unread, events_too_long, event_faulty, events_without_memory, OpensNot, rows_refused, batches_refused, journal_failed, opening_without_memory, IsRefused, at_words, without_memory, at_finding, at_events, at_opening}
use Rattle.dns_command.specs.Ends.{Rejects, Ends, with_answers, with_refusal, with_rejection, with_write_fault, cut_for_memory, refused_for_memory, broken_for_memory}
use Rattle.dns_command.specs.Completeness.{HasZone, in_text, in_rows, HasJournal, without_rows, with_rows, HasZoneBy, HasEventText, HasEvents, IsSound, Completes}

abbrev value_or : {A E : Type 0} → A → Result A E → A
value_or d (Ok a) = a
value_or d (Err e) = d

same_Ok : {A E : Type 0} (r : Result A E) (a b : A) → r ≡ Ok a → r ≡ Ok b → a ≡ b
same_Ok r a b p q = ap (value_or a) (sym p ∙ q)

-- what is told, of content that is known
told : {A B : Type 0} (R : A → B → Type 0) (before : Option A) (after : Option B) (a : A) → before ≡ Some a → IsSome after → Told R before after → (b : B) × R a b
told R None after a is some t = absurd cc
told R (Some x) None a is some t = absurd cc
told R (Some x) (Some y) a is some t = (y, subst (λ (z : _). R z y) (same_Some _ _ is) t)

-- a text within its bound is not longer
not_longer : (before after : Option (List ℕ)) (text : List ℕ) (bound : ℕ) → before ≡ Some text → IsSome after → length text ≤ bound → WasLonger before after bound → ⊥
not_longer before after text bound is some short longer =
    let t = told _ before after text is some longer in
    omega (arith, short, t.1.2, ap length t.1.1, length-append t.1.0 t.0)

-- no rows stand for no zone
no_rows : (origin : List (List ℕ)) (rows : List Row) (records : List Record) → rows ≡ [] → Replays origin rows (Ok records) → ⊥
no_rows origin [] records none r = absurd (let ran = r.runs in let end = r.is in cc)
no_rows origin (row ∷ rows) records none r = absurd cc

module _ (w : World) (no_zone_fault : Rose w.zone.before.faults w.zone.after.faults → ⊥) (no_journal_fault : Rose w.journal.before.faults w.journal.after.faults → ⊥) (told_zone : IsSome w.zone.after.left) (told_journal : IsSome w.journal.after.rows) (covered : IsCovered w.journal.before) where
  of_look : (s : Status) → SeesNoRow w.journal s → s ≡ status.OutOfMemory
  of_look s (journal_unread rose) = absurd (no_journal_fault rose)
  of_look s (journal_without_memory still) = refl

  -- a journal without rows, and a zone text
  text_in : (origin : List (List ℕ)) → HasZone w origin → HadNoRow w.journal.before.rows w.journal.after.rows
      → (text : List ℕ) × (records : List Record) × (w.zone.before.left ≡ Some text) × (length text ≤ zone_bound) × (zone_of origin text ≡ Ok records)
  text_in origin (in_text text records none is short zone) had = (text, records, is, short, zone)
  text_in origin (in_rows rows records is stands) had = absurd (no_rows (fold_of origin) rows records (told _ w.journal.before.rows w.journal.after.rows rows is told_journal had).1 stands)

  of_zone : (origin : List (List ℕ)) (s : Status) → HasZone w origin → HadNoRow w.journal.before.rows w.journal.after.rows → ReadsNoZone w.zone origin s → s ≡ status.OutOfMemory
  of_zone origin s has had (zone_unread rose) = absurd (no_zone_fault rose)
  of_zone origin s has had (zone_too_long longer still) =
      let t = text_in origin has had in
      absurd (not_longer w.zone.before.left w.zone.after.left t.0 zone_bound t.2 told_zone t.3 longer)
  of_zone origin s has had (zone_faulty line kind read still) =
      let t = text_in origin has had in
      let f = told _ w.zone.before.left w.zone.after.left t.0 t.2 told_zone read in
      absurd (let good = t.4 in let bad = f.1.1.1 in cc)
  of_zone origin s has had (zone_without_memory still) = refl

  pub of_finding : (origin : List (List ℕ)) (s : Status) → HasZone w origin → FindsNot w.journal w.zone origin s → s ≡ status.OutOfMemory
  of_finding origin s has (unseen sees untouched) = of_look s sees
  of_finding origin s has (no_zone none still reads) = of_zone origin s has none reads

  -- rows that stand for a zone are not refused
  none_refused : (origin : List (List ℕ)) (row : _) (why : ReplayKind) → HasJournal w origin → HadRows w.journal.before.rows w.journal.after.rows
      → Told (λ old new. Replays (fold_of origin) old (Err (record { row = row; kind = why }))) w.journal.before.rows w.journal.after.rows → ⊥
  none_refused origin row why (without_rows none) some refused =
      let had = told _ w.journal.before.rows w.journal.after.rows [] none told_journal some in
      had.1 refl
  none_refused origin row why (with_rows rows records is stands) some refused =
      let t = told _ w.journal.before.rows w.journal.after.rows rows is told_journal refused in
      let same = replays_one (fold_of origin) rows (Ok records) (Err (record { row = row; kind = why })) stands t.1 in
      absurd cc

  -- batches that cover the rows are not refused
  none_uncovered : (before after : Option (List Row)) (batches : List BatchRow) (Pass : List Row → Type 0) (place : ℤ) (why : ReplayKind) → IsSome after
      → IfSome before (λ rows. Covers (pos 1) rows batches)
      → Told (λ (old : List Row) (new : List Row). Pass old × (why ≡ BatchOutOfPlace) × (uncovered (pos 1) old batches ≡ Some place)) before after → ⊥
  none_uncovered before None batches Pass place why some cover is = absurd cc
  none_uncovered None (Some new) batches Pass place why some cover is = absurd is
  none_uncovered (Some old) (Some new) batches Pass place why some cover is = let none = covering (pos 1) batches old cover in let gone = is.2 in absurd cc

  -- a journal that can be opened is opened
  pub of_journal : (origin : List (List ℕ)) (opening : Opening) (s : Status) → HasJournal w origin → (opening ≡ Recover → HadRows w.journal.before.rows w.journal.after.rows)
      → OpensNot w.journal origin opening s → s ≡ status.OutOfMemory
  of_journal origin opening s has had (rows_refused row why refused still) = absurd (none_refused origin row why has (had refl) refused)
  of_journal origin opening s has had (batches_refused place why un still) =
      absurd (none_uncovered w.journal.before.rows w.journal.after.rows w.journal.before.batches (StandOrNone origin) place why told_journal covered un)
  of_journal origin opening s has had (journal_failed rose) = absurd (no_journal_fault rose)
  of_journal origin opening s has had (opening_without_memory still) = refl

  of_either : (origin : List (List ℕ)) → HasZone w origin → HasJournal w origin
  of_either origin (in_text text records none is short zone) = without_rows none
  of_either origin (in_rows rows records is stands) = with_rows rows records is stands

  had_rows : (origin : List (List ℕ)) (opening : Opening) → Finds w.journal w.zone origin opening → opening ≡ Recover → HadRows w.journal.before.rows w.journal.after.rows
  had_rows origin (Begin zone) found is = absurd cc
  had_rows origin Recover found is = found.0

  pub of_opening : (origin : List (List ℕ)) (opening : Opening) (s : Status) → HasZone w origin → Finds w.journal w.zone origin opening → OpensNot w.journal origin opening s → s ≡ status.OutOfMemory
  of_opening origin opening s has found not = of_journal origin opening s (of_either origin has) (had_rows origin opening found) not

  -- a drawn list of events
  had_rows_drawn : (opening : Opening) → FindsExample w.journal opening → opening ≡ Recover → HadRows w.journal.before.rows w.journal.after.rows
  had_rows_drawn (Begin zone) found is = absurd cc
  had_rows_drawn Recover found is = found

  of_finding_by : (origin : List (List ℕ)) (drawn : Option Drawn) (s : Status) → MatchOption drawn (HasZone w origin) (λ d. HasJournal w origin)
      → MatchOption drawn (FindsNot w.journal w.zone origin s) (λ d. SeesNoRow w.journal s × IsUntouched w.zone) → s ≡ status.OutOfMemory
  of_finding_by origin None s has finds = of_finding origin s has finds
  of_finding_by origin (Some d) s has finds = of_look s finds.0

  of_opening_by : (origin : List (List ℕ)) (drawn : Option Drawn) (opening : Opening) (s : Status) → MatchOption drawn (HasZone w origin) (λ d. HasJournal w origin)
      → MatchOption drawn (Finds w.journal w.zone origin opening) (λ d. FindsExample w.journal opening × IsUntouched w.zone) → OpensNot w.journal origin opening s → s ≡ status.OutOfMemory
  of_opening_by origin None opening s has found not = of_opening origin opening s has found not
  of_opening_by origin (Some d) opening s has found not = of_journal origin opening s has (had_rows_drawn opening found.0) not

  pub of_finding_words : (options : Options) (s : Status) → HasZoneBy w options → FindsNotBy w.journal w.zone options s → s ≡ status.OutOfMemory
  of_finding_words options s has finds = of_finding_by options.origin options.drawn s has finds

  pub of_opening_words : (options : Options) (opening : Opening) (s : Status) → HasZoneBy w options → FindsBy w.journal w.zone options opening → OpensNot w.journal options.origin opening s → s ≡ status.OutOfMemory
  of_opening_words options opening s has found not = of_opening_by options.origin options.drawn opening s has found not

module _ (w : World) (x : IsSound w) where
  of_events : (s : Status) → HasEventText w → LoadsNoEvents w.events s → s ≡ status.OutOfMemory
  of_events s has (events_unread rose) = absurd (x.faultless.events rose)
  of_events s has (events_too_long longer still) = absurd (not_longer w.events.before.left w.events.after.left has.text event_bound has.told x.told.events has.short longer)
  of_events s has (event_faulty line read still) =
      let f = told _ w.events.before.left w.events.after.left has.text has.told x.told.events read in
      absurd (let good = has.read in let bad = f.1.1.1 in cc)
  of_events s has (events_without_memory still) = refl

  of_events_by : (drawn : Option Drawn) (s : Status) → (drawn ≡ None → HasEventText w)
      → MatchOption drawn (LoadsNoEvents w.events s) (λ d. (s ≡ status.OutOfMemory) × IsUntouched w.events) → s ≡ status.OutOfMemory
  of_events_by None s has loads = of_events s (has refl) loads
  of_events_by (Some d) s has loads = loads.0

  -- the zone and the events of the words
  zone_for : (options : Options) → options_of w.words ≡ Some options → HasZoneBy w options
  zone_for options legal = subst (λ (o : Options). HasZoneBy w o) (same_Some _ _ (sym x.legal ∙ legal)) x.zone

  events_for : (options : Options) → options_of w.words ≡ Some options → HasEvents w options
  events_for options legal = subst (λ (o : Options). HasEvents w o) (same_Some _ _ (sym x.legal ∙ legal)) x.events

  of_refusal : (s : Status) → IsRefused w.words w.zone w.events w.journal w.moment s → s ≡ status.OutOfMemory
  of_refusal s (at_words none a b c d) = absurd (let some = x.legal in cc)
  of_refusal s (without_memory a b c d) = refl
  of_refusal s (at_finding options legal finds u unasked) = of_finding_words w x.faultless.zone x.faultless.journal x.told.zone x.told.journal x.covered options s (zone_for options legal) finds
  of_refusal s (at_events options opening legal found still loads unasked) = of_events_by options.drawn s (events_for options legal) loads
  of_refusal s (at_opening options opening events legal found heard opens asked) = of_opening_words w x.faultless.zone x.faultless.journal x.told.zone x.told.journal x.covered options opening s (zone_for options legal) found opens

  -- the events that were loaded are the valid ones
  valid_loaded : (events : List Event) → HasEventText w → LoadsEvents w.events events → Valid new_kept events
  valid_loaded events has heard =
      let t = told _ w.events.before.left w.events.after.left has.text has.told x.told.events heard.read in
      let same : has.events ≡ events = same_Ok (events_of has.text) _ _ has.read t.1.1.1 in
      subst (λ (l : List Event). Valid new_kept l) same has.valid

  none_rejected : {K : Type 0} (keeper : KeeperOf K) → Rejects keeper w → ⊥
  none_rejected keeper r =
      let heard : LoadsEvents w.events r.events =
      subst (λ (d : Option Drawn). MatchOption d (LoadsEvents w.events r.events) (λ one. (r.events ≡ loaded one.seed one.count) × IsUntouched w.events)) r.undrawn r.begun.heard in
      r.invalid (valid_loaded r.events (events_for r.options r.begun.legal r.undrawn) heard)

pub completes : {K : Type 0} (keeper : KeeperOf K) (w : World) (s : Status) → Ends keeper w s → Completes w s
completes keeper w s (with_answers text answers written) x = inl refl
completes keeper w s (with_refusal some refuses written) x = inr (of_refusal w x s refuses.cause)
completes keeper w s (with_rejection rejects written) x = absurd (none_rejected w x keeper rejects)
completes keeper w s (with_write_fault rose cut) x = absurd (x.faultless.output rose)
completes keeper w s (cut_for_memory still cut wanted) x = inr refl
completes keeper w s (refused_for_memory refuses unwritten) x = inr refl
completes keeper w s (broken_for_memory breaks unwritten) x = inr refl
