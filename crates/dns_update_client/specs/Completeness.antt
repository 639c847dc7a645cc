-- What keeps the program from its work: nothing but a cause that is named above, and want of memory.
use Rattle.std.specs.Prelude.{◌≡◌, ◌≤◌, ◌⊎◌, ℕ, List, ◌++◌, length, Some, IsSome, Ok}
use Rattle.dns_io.specs.Told.{Rose}
use Rattle.dns_wire.specs.declared.message.Message.{Message}
use Rattle.dns_update_script.specs.declared.script.Sending.{Sending}
use Rattle.dns_update_script.specs.Script.{script_of}
use Rattle.dns_update_script.specs.Meant.{meant_by}
use Rattle.dns_update_client.specs.declared.settings.Settings.{Settings}
use Rattle.dns_update_client.specs.declared.status.UpdateStatus.{UpdateStatus}
use Rattle.dns_update_client.specs.declared.status.UpdateStatus.TheVariants as status
use Rattle.dns_update_client.specs.Settings.{settings_of}
use Rattle.dns_update_client.specs.Framed.{frames_of}
use Rattle.dns_update_client.specs.Exchange.{Exchanges}
use Rattle.dns_update_client.specs.Steps.{script_bound}
use Rattle.dns_update_client.specs.World.{World}

-- the script has these sendings, and is within its bound
pub record HasScript (w : World) (sendings : List Sending) : Type 0 where
  pub text : List ℕ
  pub told : w.script.before.left ≡ Some text
  pub short : length text ≤ script_bound
  pub meant : script_of text ≡ Ok sendings

-- each of these messages can be sent, and the input begins with the replies to them, in order
pub record HasReplies (w : World) (messages : List Message) : Type 0 where
  pub replies : List (List ℕ)
  pub codes : List ℕ
  pub rest : List ℕ
  pub told : w.input.before.left ≡ Some (frames_of replies ++ rest)
  pub exchanged : Exchanges messages replies codes

-- no count of faults rose, nor stands at its last value
pub record IsFaultless (w : World) : Type 0 where
  pub script : Rose w.script.before.faults w.script.after.faults → ⊥
  pub input : Rose w.input.before.faults w.input.after.faults → ⊥
  pub output : Rose w.output.before.faults w.output.after.faults → ⊥
  pub out : Rose w.out.before.faults w.out.after.faults → ⊥

-- what the script and the input hold is told at the end, too
pub record IsTold (w : World) : Type 0 where
  pub script : IsSome w.script.after.left
  pub input : IsSome w.input.after.left

-- the words are legal, no line of the script is at fault, each message is answered, and no object failed
pub record IsSound (w : World) : Type 0 where
  pub settings : Settings
  pub sendings : List Sending
  pub legal : settings_of w.words ≡ Some settings
  pub script : HasScript w sendings
  pub replies : HasReplies w (meant_by sendings settings.first_id)
  pub faultless : IsFaultless w
  pub told : IsTold w

-- then the codes are written, or memory ran out
abbrev pub Completes : World → UpdateStatus → Type 0
Completes w s = IsSound w → (s ≡ status.Ok) ⊎ (s ≡ status.OutOfMemory)
