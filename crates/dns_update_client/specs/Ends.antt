-- What the program does: the messages of the script are sent, their replies are read, and a line is written for each.
use Rattle.std.specs.Prelude.{◌≡◌, ℕ, List, true, false}
use Rattle.dns_io.specs.Told.{Rose, GrowsByPrefix}
use Rattle.dns_words.specs.Writing.{IsUntouched, IsWritten}
use Rattle.dns_update_client.specs.declared.status.UpdateStatus.{UpdateStatus}
use Rattle.dns_update_client.specs.declared.status.UpdateStatus.TheVariants as status
use Rattle.dns_update_client.specs.Lines.{code_lines}
use Rattle.dns_update_client.specs.Status.{refusal_line, has_line}
use Rattle.dns_update_client.specs.World.{World}
use Rattle.dns_update_client.specs.Steps.{Converses, IsRefused}

-- each message was answered, and this is the output: a line for each reply, in order
pub record IsAnswered (w : World) (written : List ℕ) : Type 0 where
  pub first_id : ℕ
  pub codes : List ℕ
  pub conversed : Converses w.words w.script w.input w.output first_id codes
  pub text : written ≡ code_lines first_id codes

-- a refusal, by its cause
abbrev pub Refuses : World → UpdateStatus → Type 0
Refuses w s = IsRefused w.words w.script w.input w.output s

-- the output took a front of this text, where it is told afterwards
abbrev pub TookFront : World → List ℕ → Type 0
TookFront w text = (rest : List ℕ) × GrowsByPrefix w.out.before.taken w.out.after.taken text rest

-- some of the bytes were not written, or not handed on: of the line of a refusal, or of the lines of the replies
pub data IsCut (w : World) : Type 0 where
  in_refusal : (s : UpdateStatus) → has_line s ≡ true → Refuses w s → TookFront w (refusal_line s) → IsCut w
  in_lines : (text : List ℕ) → IsAnswered w text → TookFront w text → IsCut w

-- What each status means. Status 0 and each status with a line say that the output took all the bytes, and handed on all that it
-- took. Nothing is written to it before every message is answered, or a step is refused.
pub data Ends (w : World) : UpdateStatus → Type 0 where
  with_lines : (text : List ℕ) → IsAnswered w text → IsWritten w.out text → Ends w status.Ok
  with_refusal : {s : UpdateStatus} → has_line s ≡ true → Refuses w s → IsWritten w.out (refusal_line s) → Ends w s
  without_line : {s : UpdateStatus} → has_line s ≡ false → Refuses w s → IsUntouched w.out → Ends w s
  with_write_fault : Rose w.out.before.faults w.out.after.faults → IsCut w → Ends w status.WriteFault
  cut_for_memory : IsCut w → Ends w status.OutOfMemory
