-- Which counts of faults rose, by how the program ended.
use Rattle.std.proofs.Common.{◌≡◌, ◌⊎◌, inl, inr, ℕ, List, true, false, Result, Ok, Err, refl, sym, ap, subst, ◌∙◌}
use Rattle.dns_io.specs.declared.io_fault.IoFault.{IoFault}
use Rattle.dns_io.specs.declared.io_fault.IoFault.TheVariants.{Failed, OutOfMemory}
use Rattle.dns_io.specs.Told.{Rose}
use Rattle.dns_edges.specs.Edges.{Around, around, SourceTold, SinkOf, SinkTold}
use Rattle.dns_words.specs.Writing.{WritesWhole, WantedMemory}
use Rattle.dns_update_client.specs.declared.submit_fault.SubmitFault.{SubmitFault}
use Rattle.dns_update_client.specs.declared.submit_fault.SubmitFault.TheVariants as submit
use Rattle.dns_update_client.specs.declared.status.UpdateStatus.{UpdateStatus}
use Rattle.dns_update_client.specs.declared.status.UpdateStatus.TheVariants as status
use Rattle.dns_update_client.specs.Faults.{ReadCounts, WriteCounts}
use Rattle.dns_update_client.specs.Status.{refusal_line, has_line, submit_status}
use Rattle.dns_update_client.specs.World.{World, IsCalm, IsSinkCalm}
use Rattle.dns_update_client.specs.Steps.{LoadsNoScript, script_unread, script_too_long, script_refused, script_without_memory, Converses, IsRefused, at_words, at_script, at_messages, at_submit}
use Rattle.dns_update_client.specs.Writing.{after_writing, EndsWriting, EndsRefusing, silent, by_line}
use Rattle.dns_update_client.specs.Counts.{TellsUnread, with_line, cut_by_fault, cut_for_memory, CountsWriting, Counts}
use Rattle.dns_update_client.specs.Completeness.{Completes}
use Rattle.dns_update_client.specs.Ends.{Ends, Refuses}
use Rattle.dns_update_client.proofs.Completing.{completes}

-- an object could not be read, or written, by the status that was meant
abbrev Unread : Around SourceTold → UpdateStatus → Type 0
Unread source s = IsCalm source ⊎ (Rose source.before.faults source.after.faults × (s ≡ status.ReadFault))

abbrev Unwritten : Around SinkTold → UpdateStatus → Type 0
Unwritten sink s = IsSinkCalm sink ⊎ (Rose sink.before.faults sink.after.faults × (s ≡ status.WriteFault))

unloaded : (source : Around SourceTold) (s : UpdateStatus) → LoadsNoScript source s → Unread source s
unloaded source s (script_unread rose) = inr (rose, refl)
unloaded source s (script_too_long longer calm) = inl calm
unloaded source s (script_refused line kind read calm) = inl calm
unloaded source s (script_without_memory calm) = inl calm

unread : (source : Around SourceTold) (f : SubmitFault) → ReadCounts source.before.faults source.after.faults f → Unread source (submit_status f)
unread source submit.Read rose = inr (rose, refl)
unread source submit.Write calm = inl calm
unread source submit.OutOfMemory calm = inl calm
unread source (submit.Proto error) calm = inl calm
unread source (submit.Ended message) calm = inl calm
unread source (submit.Mismatch want got) calm = inl calm
unread source (submit.NotReply id) calm = inl calm

unwritten : (sink : Around SinkTold) (f : SubmitFault) → WriteCounts sink.before.faults sink.after.faults f → Unwritten sink (submit_status f)
unwritten sink submit.Write rose = inr (rose, refl)
unwritten sink submit.Read calm = inl calm
unwritten sink submit.OutOfMemory calm = inl calm
unwritten sink (submit.Proto error) calm = inl calm
unwritten sink (submit.Ended message) calm = inl calm
unwritten sink (submit.Mismatch want got) calm = inl calm
unwritten sink (submit.NotReply id) calm = inl calm

-- what a refusal says of the counts
of_refusal : (words : List (List ℕ)) (script input : Around SourceTold) (output : Around SinkTold) (s : UpdateStatus) → IsRefused words script input output s
    → Unread script s × Unread input s × Unwritten output s
of_refusal words script input output s (at_words none a b c) =
    (inl (ap (λ (t : SourceTold). t.faults) a), inl (ap (λ (t : SourceTold). t.faults) b), inl (ap (λ (t : SinkTold). t.faults) c))
of_refusal words script input output s (at_script settings legal loads b c) =
    (unloaded script s loads, inl (ap (λ (t : SourceTold). t.faults) b), inl (ap (λ (t : SinkTold). t.faults) c))
of_refusal words script input output s (at_messages settings sendings legal loads b c) =
    (inl loads.calm, inl (ap (λ (t : SourceTold). t.faults) b), inl (ap (λ (t : SinkTold). t.faults) c))
of_refusal words script input output s (at_submit {fault} settings sendings legal loads not) =
    (inl loads.calm, unread input fault not.read, unwritten output fault not.written)

-- a text was written, or was not written to its end
by_result : (sink : Around SinkTold) (text : List ℕ) (meant : UpdateStatus) (r : Result (Unit {0}) IoFault) → WritesWhole sink text r
    → CountsWriting sink (after_writing meant r)
by_result sink text meant (Ok done) v = inl v.written.cause.counts
by_result sink text meant (Err Failed) v = inr (v.written.cause.counts, refl)
by_result sink text meant (Err OutOfMemory) v = inl v.written.cause.counts

pub of_writing : (sink : Around SinkTold) (text : List ℕ) (meant s : UpdateStatus) → EndsWriting sink text meant s → CountsWriting sink s
of_writing sink text meant s e = subst (λ (x : UpdateStatus). CountsWriting sink x) (sym e.status) (by_result sink text meant e.result e.written)

pub of_refusing : (sink : Around SinkTold) (meant s : UpdateStatus) → EndsRefusing sink meant s → CountsWriting sink s
of_refusing sink meant s (silent none is same) = inl (ap (λ (t : SinkTold). t.faults) same)
of_refusing sink meant s (by_line some e) = of_writing sink (refusal_line meant) meant s e

-- a status without a line is what was meant
without_line : (sink : Around SinkTold) (meant s : UpdateStatus) → meant ≡ status.WriteFault → EndsRefusing sink meant s → s ≡ status.WriteFault
without_line sink meant s is (silent none same u) = same ∙ is
without_line sink meant s is (by_line some e) = absurd (let line : has_line status.WriteFault ≡ true = rw is at some in cc)

module _ {O : Type 0} (sink : SinkOf O) (before after : O) where
  told_by : (r : Result (Unit {0}) IoFault) (s : UpdateStatus) → s ≡ after_writing status.ReadFault r
      → WritesWhole (around sink.told before after) (refusal_line status.ReadFault) r
      → (s ≡ status.OutOfMemory → WantedMemory sink before (refusal_line status.ReadFault) after) → TellsUnread sink before after s
  told_by (Ok done) s is v wanted = subst (λ (x : UpdateStatus). TellsUnread sink before after x) (sym is) with_line
  told_by (Err Failed) s is v wanted = subst (λ (x : UpdateStatus). TellsUnread sink before after x) (sym is) (cut_by_fault v.written.cause.counts)
  told_by (Err OutOfMemory) s is v wanted = subst (λ (x : UpdateStatus). TellsUnread sink before after x) (sym is) (cut_for_memory (wanted is))

  told_meant : (meant s : UpdateStatus) → status.ReadFault ≡ meant → EndsRefusing (around sink.told before after) meant s
      → (meant ≡ status.ReadFault → s ≡ status.OutOfMemory → WantedMemory sink before (refusal_line status.ReadFault) after) → TellsUnread sink before after s
  told_meant meant s is (silent none same u) wanted = absurd (let line : has_line status.ReadFault ≡ false = rw (← is) at none in cc)
  told_meant meant s is (by_line some e) wanted =
      let status_is : s ≡ after_writing status.ReadFault e.result = rw (← is) at e.status in
      let written : WritesWhole (around sink.told before after) (refusal_line status.ReadFault) e.result = rw (← is) at e.written in
      told_by e.result s status_is written (wanted (sym is))

  reading : (source : Around SourceTold) (meant s : UpdateStatus) → Unread source meant → EndsRefusing (around sink.told before after) meant s
      → (meant ≡ status.ReadFault → s ≡ status.OutOfMemory → WantedMemory sink before (refusal_line status.ReadFault) after)
      → IsCalm source ⊎ (Rose source.before.faults source.after.faults × TellsUnread sink before after s)
  reading source meant s (inl calm) e wanted = inl calm
  reading source meant s (inr rose) e wanted = inr (rose.0, told_meant meant s (sym rose.1) e wanted)

  writing : (output : Around SinkTold) (meant s : UpdateStatus) → Unwritten output meant → EndsRefusing (around sink.told before after) meant s
      → CountsWriting output s
  writing output meant s (inl calm) e = inl calm
  writing output meant s (inr rose) e = inr (rose.0, without_line (around sink.told before after) meant s rose.1 e)

  -- a refusal
  pub refused_counts : (w : World) (meant s : UpdateStatus) → Refuses w meant → EndsRefusing (around sink.told before after) meant s
      → (meant ≡ status.ReadFault → s ≡ status.OutOfMemory → WantedMemory sink before (refusal_line status.ReadFault) after)
      → CountsWriting w.out s → Counts sink before after w s
  refused_counts w meant s r e wanted out =
      let c = of_refusal w.words w.script w.input w.output meant r in
      record {
        script = reading w.script meant s c.0 e wanted;
        input = reading w.input meant s c.1 e wanted;
        output = writing w.output meant s c.2 e;
        out = out;
      }

  -- the lines of the replies
  pub answered_counts : (w : World) (first_id : ℕ) (codes : List ℕ) (s : UpdateStatus) → Converses w.words w.script w.input w.output first_id codes
      → CountsWriting w.out s → Counts sink before after w s
  answered_counts w first_id codes s conversed out = record {
    script = inl conversed.read.calm;
    input = inl conversed.submitted.calm_input;
    output = inl conversed.submitted.calm_output;
    out = out;
  }

  -- how it ends, that it does its work, and which counts rose
  pub ends_so : (w : World) (s : UpdateStatus) → Ends w s → Counts sink before after w s → Ends w s × Completes w s × Counts sink before after w s
  ends_so w s ends counts = (ends, completes w s ends, counts)

-- the line of a read fault gives way to want of memory only where the output wanted it
pub wanted_line : (r : Result (Unit {0}) IoFault) → after_writing status.ReadFault r ≡ status.OutOfMemory → r ≡ Err OutOfMemory
wanted_line (Ok done) is = absurd cc
wanted_line (Err Failed) is = absurd cc
wanted_line (Err OutOfMemory) is = refl
