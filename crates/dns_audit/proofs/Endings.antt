-- How the program ends, by what its parts did.
use Rattle.std.proofs.Common.{◌≡◌, ◌⊎◌, inl, inr, ℕ, List, false, Option, Some, None, Result, Ok, Err, refl, sym, ap, subst}
use Rattle.dns_io.specs.declared.io_fault.IoFault.{IoFault}
use Rattle.dns_io.specs.declared.io_fault.IoFault.TheVariants.{Failed, OutOfMemory}
use Rattle.dns_io.specs.Told.{Rose, Keeps}
use Rattle.dns_keeper.specs.Keeping.{KeeperTold, KeepsBatches}
use Rattle.dns_edges.specs.Edges.{Around, around, SinkOf, SinkTold}
use Rattle.dns_words.specs.Writing.{WritesWhole, IsWritten, IsUntouched, WantedMemory}
use Rattle.dns_audit.specs.declared.fault.AuditFault.{AuditFault}
use Rattle.dns_audit.specs.declared.fault.AuditFault.TheVariants as fault
use Rattle.dns_audit.specs.declared.status.AuditStatus.{AuditStatus}
use Rattle.dns_audit.specs.declared.status.AuditStatus.TheVariants as status
use Rattle.dns_audit.specs.declared.commands.Command.TheVariants.{PrintZone, ListBatches, Compact}
use Rattle.dns_audit.specs.Commands.{command_of}
use Rattle.dns_audit.specs.Reading.{CountsByFault}
use Rattle.dns_audit.specs.Compacting.{CountsBoth}
use Rattle.dns_audit.specs.Status.{refusal_line, has_line, status_of}
use Rattle.dns_audit.specs.World.{World, IsStill}
use Rattle.dns_audit.specs.Writing.{after_writing, EndsWriting, EndsRefusing, silent, by_line}
use Rattle.dns_audit.specs.Steps.{no_zone, no_text, UsesJournal, IsDone, printed, listed, compacted, IsRefused, at_words, without_memory, at_zone, at_list, at_compact}
use Rattle.dns_audit.specs.Ends.{TookFront, IsCut, in_refusal, in_output, Ends, with_output, with_refusal, without_line, with_write_fault, cut_for_memory}
use Rattle.dns_audit.specs.Counts as counting
use Rattle.dns_audit.specs.Counts.{TellsFailed, CountsJournal, CountsWriting}
use Rattle.dns_audit.specs.Parts.{Finishes, did, refused, PrintsZone, PrintsNoZone, PrintsBatches, PrintsNoBatches, PrintsRows, PrintsNoRows, Tells}
use Rattle.dns_audit.proofs.Due.{completes}

-- ---- the text of the output, or the line of a refusal

-- a text was written, or was not written to its end
whole : (w : World) (text : List ℕ) (meant : AuditStatus) (result : Result (Unit {0}) IoFault)
    → (IsWritten w.output text → Ends w meant) → (TookFront w text → IsCut w) → WritesWhole w.output text result → Ends w (after_writing meant result)
whole w text meant (Ok done) good cut v = good (record { taken = v.written.ok; flushed = v.flushed; faults = v.written.cause.counts })
whole w text meant (Err Failed) good cut v = with_write_fault v.written.cause.counts (cut v.written.err)
whole w text meant (Err OutOfMemory) good cut v = cut_for_memory (cut v.written.err)

ends_refused : (w : World) (s t : AuditStatus) → IsRefused w s → EndsRefusing w.output s t → Ends w t
ends_refused w s t r (silent none is u) = subst (λ (x : AuditStatus). Ends w x) (sym is) (without_line none r u)
ends_refused w s t r (by_line some e) = subst (λ (x : AuditStatus). Ends w x) (sym e.status) (whole w (refusal_line s) s e.result (with_refusal some r) (in_refusal s some r) e.written)

ends_done : (w : World) (text : List ℕ) (t : AuditStatus) → IsDone w text → EndsWriting w.output text status.Ok t → Ends w t
ends_done w text t done e = subst (λ (x : AuditStatus). Ends w x) (sym e.status) (whole w text status.Ok e.result (with_output text done) (in_output text done) e.written)

-- ---- the counts of faults

-- a journal failed, by the status that was meant
abbrev Failing : Around KeeperTold → AuditStatus → Type 0
Failing journal s = IsStill journal ⊎ (Rose journal.before.faults journal.after.faults × (s ≡ status.KeeperFault))

untouched : (journal : Around KeeperTold) (s : AuditStatus) → IsUntouched journal → Failing journal s
untouched journal s same = inl (ap (λ (t : KeeperTold). t.faults) same)

failing : (journal : Around KeeperTold) (f : AuditFault) → CountsByFault journal.before.faults journal.after.faults f → Failing journal (status_of f)
failing journal fault.KeeperFault rose = inr (rose, refl)
failing journal (fault.Short some) still = inl still
failing journal (fault.Recovery row why) still = inl still
failing journal fault.AliasBesideOther still = inl still
failing journal fault.NotEmpty still = inl still
failing journal fault.OutOfMemory still = inl still

failing_both : (journal other : Around KeeperTold) (f : AuditFault) → CountsBoth journal.before.faults journal.after.faults other.before.faults other.after.faults f
    → Failing journal (status_of f) × Failing other (status_of f)
failing_both journal other fault.KeeperFault (inl a) = (inr (a.0, refl), inl a.1)
failing_both journal other fault.KeeperFault (inr b) = (inl b.0, inr (b.1, refl))
failing_both journal other (fault.Short some) still = (inl still.0, inl still.1)
failing_both journal other (fault.Recovery row why) still = (inl still.0, inl still.1)
failing_both journal other fault.AliasBesideOther still = (inl still.0, inl still.1)
failing_both journal other fault.NotEmpty still = (inl still.0, inl still.1)
failing_both journal other fault.OutOfMemory still = (inl still.0, inl still.1)

of_refusal : (w : World) (s : AuditStatus) → IsRefused w s → Failing w.journal s × Failing w.into s
of_refusal w s (at_words none unread uses) = (untouched w.journal s unread, untouched w.into s uses.into)
of_refusal w s (without_memory unread uses) = (untouched w.journal s unread, untouched w.into s uses.into)
of_refusal w s (at_zone {f} origin count legal (no_zone none counts) uses) = (failing w.journal f counts, untouched w.into s uses.into)
of_refusal w s (at_zone {f} origin count legal (no_text z at none still) uses) = (inl still, untouched w.into s uses.into)
of_refusal w s (at_list {f} origin legal none uses) = (failing w.journal f none.counts, untouched w.into s uses.into)
of_refusal w s (at_compact {f} origin moment legal asked none) = failing_both w.journal w.into f none.counts

of_done : (w : World) (text : List ℕ) → IsDone w text → IsStill w.journal × IsStill w.into
of_done w text (printed origin count z legal found uses) = (found.still, ap (λ (t : KeeperTold). t.faults) uses.into)
of_done w text (listed origin batches legal lists uses) = (lists.still, ap (λ (t : KeeperTold). t.faults) uses.into)
of_done w text (compacted origin moment written legal asked done) = (done.uncounted, done.gets.uncounted)

-- a text was written, or was not written to its end
by_result : (output : Around SinkTold) (text : List ℕ) (meant : AuditStatus) (r : Result (Unit {0}) IoFault) → WritesWhole output text r
    → CountsWriting output (after_writing meant r)
by_result output text meant (Ok done) v = inl v.written.cause.counts
by_result output text meant (Err Failed) v = inr (v.written.cause.counts, refl)
by_result output text meant (Err OutOfMemory) v = inl v.written.cause.counts

of_writing : (output : Around SinkTold) (text : List ℕ) (meant s : AuditStatus) → EndsWriting output text meant s → CountsWriting output s
of_writing output text meant s e = subst (λ (x : AuditStatus). CountsWriting output x) (sym e.status) (by_result output text meant e.result e.written)

of_refusing : (output : Around SinkTold) (meant s : AuditStatus) → EndsRefusing output meant s → CountsWriting output s
of_refusing output meant s (silent none is same) = inl (ap (λ (t : SinkTold). t.faults) same)
of_refusing output meant s (by_line some e) = of_writing output (refusal_line meant) meant s e

module _ {O : Type 0} (sink : SinkOf O) (before after : O) where
  abbrev Wanted : AuditStatus → AuditStatus → Type 0
  Wanted meant s = meant ≡ status.KeeperFault → s ≡ status.OutOfMemory → WantedMemory sink before (refusal_line status.KeeperFault) after

  told_by : (r : Result (Unit {0}) IoFault) (s : AuditStatus) → s ≡ after_writing status.KeeperFault r
      → WritesWhole (around sink.told before after) (refusal_line status.KeeperFault) r
      → (s ≡ status.OutOfMemory → WantedMemory sink before (refusal_line status.KeeperFault) after) → TellsFailed sink before after s
  told_by (Ok done) s is v wanted = subst (λ (x : AuditStatus). TellsFailed sink before after x) (sym is) counting.with_line
  told_by (Err Failed) s is v wanted = subst (λ (x : AuditStatus). TellsFailed sink before after x) (sym is) (counting.cut_by_fault v.written.cause.counts)
  told_by (Err OutOfMemory) s is v wanted = subst (λ (x : AuditStatus). TellsFailed sink before after x) (sym is) (counting.cut_for_memory (wanted is))

  told_meant : (meant s : AuditStatus) → status.KeeperFault ≡ meant → EndsRefusing (around sink.told before after) meant s → Wanted meant s → TellsFailed sink before after s
  told_meant meant s is (silent none same u) wanted = absurd (let line : has_line status.KeeperFault ≡ false = rw (← is) at none in cc)
  told_meant meant s is (by_line some e) wanted =
      let status_is : s ≡ after_writing status.KeeperFault e.result = rw (← is) at e.status in
      let written : WritesWhole (around sink.told before after) (refusal_line status.KeeperFault) e.result = rw (← is) at e.written in
      told_by e.result s status_is written (wanted (sym is))

  reading : (journal : Around KeeperTold) (meant s : AuditStatus) → Failing journal meant → EndsRefusing (around sink.told before after) meant s → Wanted meant s
      → CountsJournal sink before after journal s
  reading journal meant s (inl still) e wanted = inl still
  reading journal meant s (inr rose) e wanted = inr (rose.0, told_meant meant s (sym rose.1) e wanted)

  -- ---- the whole

  module _ (words : List (List ℕ)) (journal into : Around KeeperTold) (moment : Option ℕ) where
    abbrev pub world : World
    world = record { words = words; journal = journal; into = into; output = around sink.told before after; moment = moment }

    tells_all : (s : AuditStatus) → Keeps journal.before.rows journal.after.rows → KeepsBatches journal.before journal.after
        → Finishes sink before after (IsDone world) (IsRefused world) s → Tells sink before after world s
    tells_all s kept same (did text done e) =
        let ends = ends_done world text s done e in
        let still = of_done world text done in
        record {
          ends = ends;
          completes = completes world s kept same ends;
          counts = record { journal = inl still.0; into = inl still.1; output = of_writing world.output text status.Ok s e };
        }
    tells_all s kept same (refused meant r e wanted) =
        let ends = ends_refused world meant s r e in
        let failed = of_refusal world meant r in
        record {
          ends = ends;
          completes = completes world s kept same ends;
          counts = record {
            journal = reading journal meant s failed.0 e wanted;
            into = reading into meant s failed.1 e wanted;
            output = of_refusing world.output meant s e;
          };
        }

    finishes_more : (A B : List ℕ → Type 0) (P Q : AuditStatus → Type 0) (s : AuditStatus) → ((text : List ℕ) → A text → B text) → ((m : AuditStatus) → P m → Q m)
        → Finishes sink before after A P s → Finishes sink before after B Q s
    finishes_more A B P Q s more most (did text a e) = did text (more text a) e
    finishes_more A B P Q s more most (refused meant p e wanted) = refused meant (most meant p) e wanted

    pub tells_zone : (origin : List (List ℕ)) (count : ℕ) (s : AuditStatus) → command_of words ≡ Some (PrintZone origin count) → UsesJournal world
        → Keeps journal.before.rows journal.after.rows → KeepsBatches journal.before journal.after
        → Finishes sink before after (PrintsZone journal origin count) (PrintsNoZone journal origin count) s → Tells sink before after world s
    tells_zone origin count s legal uses kept same is =
        tells_all s kept same (finishes_more (PrintsZone journal origin count) (IsDone world) (PrintsNoZone journal origin count) (IsRefused world) s
        (λ text p. subst (IsDone world) (sym p.is) (printed origin count p.zone legal p.found uses))
        (λ m p. subst (IsRefused world) (sym p.is) (at_zone origin count legal p.none uses)) is)

    pub tells_batches : (origin : List (List ℕ)) (s : AuditStatus) → command_of words ≡ Some (ListBatches origin) → UsesJournal world
        → Keeps journal.before.rows journal.after.rows → KeepsBatches journal.before journal.after
        → Finishes sink before after (PrintsBatches journal origin) (PrintsNoBatches journal origin) s → Tells sink before after world s
    tells_batches origin s legal uses kept same is =
        tells_all s kept same (finishes_more (PrintsBatches journal origin) (IsDone world) (PrintsNoBatches journal origin) (IsRefused world) s
        (λ text p. subst (IsDone world) (sym p.is) (listed origin p.listed legal p.lists uses))
        (λ m p. subst (IsRefused world) (sym p.is) (at_list origin legal p.none uses)) is)

    pub tells_compacted : (origin : List (List ℕ)) (at : ℕ) (s : AuditStatus) → command_of words ≡ Some (Compact origin) → moment ≡ Some at
        → Keeps journal.before.rows journal.after.rows → KeepsBatches journal.before journal.after
        → Finishes sink before after (PrintsRows origin at journal into) (PrintsNoRows origin journal into) s → Tells sink before after world s
    tells_compacted origin at s legal asked kept same is =
        tells_all s kept same (finishes_more (PrintsRows origin at journal into) (IsDone world) (PrintsNoRows origin journal into) (IsRefused world) s
        (λ text p. subst (IsDone world) (sym p.is) (compacted origin at p.written legal asked p.compacts))
        (λ m p. subst (IsRefused world) (sym p.is) (at_compact origin at legal asked p.none)) is)

    pub tells_usage : (s : AuditStatus) → command_of words ≡ None → IsUntouched journal → UsesJournal world
        → Keeps journal.before.rows journal.after.rows → KeepsBatches journal.before journal.after
        → EndsRefusing (around sink.told before after) status.Usage s → Tells sink before after world s
    tells_usage s none unread uses kept same e =
        tells_all s kept same (refused status.Usage (at_words none unread uses) e (λ is out. absurd (let no : status.Usage ≡ status.KeeperFault = is in cc)))

    pub tells_wanting : IsUntouched journal → UsesJournal world → Keeps journal.before.rows journal.after.rows → KeepsBatches journal.before journal.after
        → IsUntouched (around sink.told before after) → Tells sink before after world status.OutOfMemory
    tells_wanting unread uses kept same unwritten =
        tells_all status.OutOfMemory kept same (refused status.OutOfMemory (without_memory unread uses) (silent refl refl unwritten)
        (λ is out. absurd (let no : status.OutOfMemory ≡ status.KeeperFault = is in cc)))
