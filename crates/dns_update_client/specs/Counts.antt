-- Which counts of faults rose in the top call: those alone of which its status tells.
use Rattle.std.specs.Prelude.{◌≡◌, ◌⊎◌, ℕ, List}
use Rattle.dns_io.specs.Told.{Rose}
use Rattle.dns_edges.specs.Edges.{Around, SourceTold, SinkOf, SinkTold}
use Rattle.dns_words.specs.Writing.{WantedMemory}
use Rattle.dns_update_client.specs.declared.status.UpdateStatus.{UpdateStatus}
use Rattle.dns_update_client.specs.declared.status.UpdateStatus.TheVariants as status
use Rattle.dns_update_client.specs.Status.{refusal_line}
use Rattle.dns_update_client.specs.World.{World, IsCalm, IsSinkCalm}

-- it is told that an object could not be read: by the status and its line; or that line could not be written, or the output wanted
-- memory for it
pub data TellsUnread {S : Type 0} (sink : SinkOf S) (before after : S) : UpdateStatus → Type 0 where
  with_line : TellsUnread sink before after status.ReadFault
  cut_by_fault : Rose (sink.told before).faults (sink.told after).faults → TellsUnread sink before after status.WriteFault
  cut_for_memory : WantedMemory sink before (refusal_line status.ReadFault) after → TellsUnread sink before after status.OutOfMemory

-- no read of a source failed, or it is told that it could not be read
abbrev pub CountsReading : {S : Type 0} → SinkOf S → S → S → Around SourceTold → UpdateStatus → Type 0
CountsReading sink before after source s =
    IsCalm source ⊎ (Rose source.before.faults source.after.faults × TellsUnread sink before after s)

-- no call of a sink failed, or it is told that it could not be written
abbrev pub CountsWriting : Around SinkTold → UpdateStatus → Type 0
CountsWriting sink s = IsSinkCalm sink ⊎ (Rose sink.before.faults sink.after.faults × (s ≡ status.WriteFault))

-- The counts of all objects, by the status. So where it is 0 none rose, and where memory ran out none but one whose line the output
-- wanted memory for.
pub record Counts {S : Type 0} (sink : SinkOf S) (before after : S) (w : World) (s : UpdateStatus) : Type 0 where
  pub script : CountsReading sink before after w.script s
  pub input : CountsReading sink before after w.input s
  pub output : CountsWriting w.output s
  pub out : CountsWriting w.out s
