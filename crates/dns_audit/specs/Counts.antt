-- Which counts of faults rose in the top call: those alone of which its status tells.
use Rattle.std.specs.Prelude.{◌≡◌, ◌⊎◌}
use Rattle.dns_io.specs.Told.{Rose}
use Rattle.dns_keeper.specs.Keeping.{KeeperTold}
use Rattle.dns_edges.specs.Edges.{Around, SinkOf, SinkTold}
use Rattle.dns_words.specs.Writing.{WantedMemory}
use Rattle.dns_audit.specs.declared.status.AuditStatus.{AuditStatus}
use Rattle.dns_audit.specs.declared.status.AuditStatus.TheVariants as status
use Rattle.dns_audit.specs.Status.{refusal_line}
use Rattle.dns_audit.specs.World.{World, IsStill}

-- it is told that a journal failed: by the status and its line; or that line could not be written, or the output wanted memory for it
pub data TellsFailed {S : Type 0} (sink : SinkOf S) (before after : S) : AuditStatus → Type 0 where
  with_line : TellsFailed sink before after status.KeeperFault
  cut_by_fault : Rose (sink.told before).faults (sink.told after).faults → TellsFailed sink before after status.WriteFault
  cut_for_memory : WantedMemory sink before (refusal_line status.KeeperFault) after → TellsFailed sink before after status.OutOfMemory

-- no call of a journal failed, or it is told that it did
abbrev pub CountsJournal : {S : Type 0} → SinkOf S → S → S → Around KeeperTold → AuditStatus → Type 0
CountsJournal sink before after journal s =
    IsStill journal ⊎ (Rose journal.before.faults journal.after.faults × TellsFailed sink before after s)

-- no call of the output failed, or it is told that it could not be written
abbrev pub CountsWriting : Around SinkTold → AuditStatus → Type 0
CountsWriting output s =
    (output.after.faults ≡ output.before.faults) ⊎ (Rose output.before.faults output.after.faults × (s ≡ status.WriteFault))

-- The counts of all objects, by the status. So where it is 0 none rose, and where memory ran out none but one whose line the output
-- wanted memory for.
pub record Counts {S : Type 0} (sink : SinkOf S) (before after : S) (w : World) (s : AuditStatus) : Type 0 where
  pub journal : CountsJournal sink before after w.journal s
  pub into : CountsJournal sink before after w.into s
  pub output : CountsWriting w.output s
