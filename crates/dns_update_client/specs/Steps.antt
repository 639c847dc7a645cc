-- The steps of the program, in the order of the work, and the causes for which each of them is refused.
use Rattle.std.specs.Prelude.{◌≡◌, ◌≤◌, ℕ, List, length, Some, None, Ok, Err}
use Rattle.std.specs.List.{AllByRecursion}
use Rattle.dns_io.specs.Told.{Rose, WasRead, WasLonger, IsHandedOn}
use Rattle.dns_edges.specs.Edges.{Around, SourceTold, SinkTold}
use Rattle.dns_wire.specs.declared.message.Message.{Message}
use Rattle.dns_wire.specs.Messages.{MessageAt}
use Rattle.dns_wire.specs.MessageBytes.{message_bytes, counted}
use Rattle.dns_words.specs.Writing.{IsUntouched}
use Rattle.dns_update_script.specs.declared.fault.ScriptKind.{ScriptKind}
use Rattle.dns_update_script.specs.declared.fault.ScriptFault.TheVariants.{Refused}
use Rattle.dns_update_script.specs.declared.script.Sending.{Sending}
use Rattle.dns_update_script.specs.Script.{script_of}
use Rattle.dns_update_script.specs.Meant.{meant_by}
use Rattle.dns_update_client.specs.declared.settings.Settings.{Settings}
use Rattle.dns_update_client.specs.declared.status.UpdateStatus.{UpdateStatus}
use Rattle.dns_update_client.specs.declared.status.UpdateStatus.TheVariants as status
use Rattle.dns_update_client.specs.declared.submit_fault.SubmitFault.{SubmitFault}
use Rattle.dns_update_client.specs.Settings.{settings_of}
use Rattle.dns_update_client.specs.Status.{submit_status}
use Rattle.dns_update_client.specs.Exchange.{Answers, StopsAt}
use Rattle.dns_update_client.specs.Faults.{ReadCounts, WriteCounts}
use Rattle.dns_update_client.specs.World.{IsCalm, IsSinkCalm}

-- the greatest length of a script, in bytes
abbrev pub script_bound : ℕ
script_bound = 1048576

-- the script was read to its end, by reads none of which failed, and these are its sendings
pub record LoadsScript (source : Around SourceTold) (sendings : List Sending) : Type 0 where
  pub text : WasRead source.before.left source.after.left (λ text. (length text ≤ script_bound) × (script_of text ≡ Ok sendings))
  pub calm : IsCalm source

-- why there are no sendings: the script could not be read; it is longer than the bound, and one byte more than the bound was
-- read; it was read to its end, and this line is refused; or memory ran out. A read failed in the first case alone.
pub data LoadsNoScript (source : Around SourceTold) : UpdateStatus → Type 0 where
  script_unread : Rose source.before.faults source.after.faults → LoadsNoScript source status.ReadFault
  script_too_long : WasLonger source.before.left source.after.left script_bound → IsCalm source → LoadsNoScript source status.TooLong
  script_refused : (line : ℕ) (kind : ScriptKind)
      → WasRead source.before.left source.after.left (λ text. (length text ≤ script_bound) × (script_of text ≡ Err (Refused line kind)))
      → IsCalm source → LoadsNoScript source (status.Script line kind)
  script_without_memory : IsCalm source → LoadsNoScript source status.OutOfMemory

-- what is written of a message reads as that message, with the counts of its sections
abbrev pub Stands : Message → Type 0
Stands m = MessageAt (message_bytes m) (counted m)

-- all messages were sent and answered, by calls none of which failed, and these are the codes of the replies; where the output had
-- handed on all that it had taken, it has again
pub record Submits (messages : List Message) (input : Around SourceTold) (output : Around SinkTold) (codes : List ℕ) : Type 0 where
  pub answered : Answers messages codes input.before.left input.after.left output.before.taken output.after.taken
  pub stand : AllByRecursion Stands messages
  pub handed : IsHandedOn output.before.taken output.before.flushed → IsHandedOn output.after.taken output.after.flushed
  pub calm_input : IsCalm input
  pub calm_output : IsSinkCalm output

-- one of the messages was not answered, for this cause; all before it were, and none behind it was sent. The count of the input rose
-- where it could not be read, and that of the output where it could not be written; else each stood still.
pub record SubmitsNot (messages : List Message) (input : Around SourceTold) (output : Around SinkTold) (fault : SubmitFault) : Type 0 where
  pub stopped : StopsAt messages fault input.before.left input.after.left output.before.taken output.after.taken
  pub read : ReadCounts input.before.faults input.after.faults fault
  pub written : WriteCounts output.before.faults output.after.faults fault

-- the words are legal, the script was read, and the messages that it means were sent and answered
pub record Converses (words : List (List ℕ)) (script input : Around SourceTold) (output : Around SinkTold) (first_id : ℕ)
    (codes : List ℕ) : Type 0 where
  pub settings : Settings
  pub sendings : List Sending
  pub legal : settings_of words ≡ Some settings
  pub same : first_id ≡ settings.first_id
  pub read : LoadsScript script sendings
  pub submitted : Submits (meant_by sendings first_id) input output codes

-- A refusal, by the first step in the order of the work that was refused. What comes after that step was not done: the objects
-- that it reads or writes are as they were.
pub data IsRefused (words : List (List ℕ)) (script input : Around SourceTold) (output : Around SinkTold) : UpdateStatus → Type 0 where
  at_words : settings_of words ≡ None → IsUntouched script → IsUntouched input → IsUntouched output
      → IsRefused words script input output status.Usage
  at_script : {s : UpdateStatus} → (settings : Settings) → settings_of words ≡ Some settings
      → LoadsNoScript script s → IsUntouched input → IsUntouched output
      → IsRefused words script input output s
  at_messages : (settings : Settings) (sendings : List Sending) → settings_of words ≡ Some settings
      → LoadsScript script sendings → IsUntouched input → IsUntouched output
      → IsRefused words script input output status.OutOfMemory
  at_submit : {fault : SubmitFault} → (settings : Settings) (sendings : List Sending) → settings_of words ≡ Some settings
      → LoadsScript script sendings → SubmitsNot (meant_by sendings settings.first_id) input output fault
      → IsRefused words script input output (submit_status fault)
