-- What the program does: what its words ask for, and no other bytes.
use Rattle.std.specs.Prelude.{◌≡◌, ℕ, List, true, false}
use Rattle.dns_io.specs.Told.{Rose, GrowsByPrefix}
use Rattle.dns_words.specs.Writing.{IsUntouched, IsWritten}
use Rattle.dns_audit.specs.declared.status.AuditStatus.{AuditStatus}
use Rattle.dns_audit.specs.declared.status.AuditStatus.TheVariants as status
use Rattle.dns_audit.specs.Status.{refusal_line, has_line}
use Rattle.dns_audit.specs.World.{World}
use Rattle.dns_audit.specs.Steps.{IsDone, IsRefused}

-- the output took a front of this text, where it is told afterwards
abbrev pub TookFront : World → List ℕ → Type 0
TookFront w text = (rest : List ℕ) × GrowsByPrefix w.output.before.taken w.output.after.taken text rest

-- some of the bytes were not written, or not handed on: of the line of a refusal, or of the output
pub data IsCut (w : World) : Type 0 where
  in_refusal : (s : AuditStatus) → has_line s ≡ true → IsRefused w s → TookFront w (refusal_line s) → IsCut w
  in_output : (text : List ℕ) → IsDone w text → TookFront w text → IsCut w

-- What each status means. Status 0 and each status with a line say that the output took all the bytes, and handed on all that it took.
-- Nothing is written to it before all that the words ask for is known and, for another journal, written; or before a step is refused.
pub data Ends (w : World) : AuditStatus → Type 0 where
  with_output : (text : List ℕ) → IsDone w text → IsWritten w.output text → Ends w status.Ok
  with_refusal : {s : AuditStatus} → has_line s ≡ true → IsRefused w s → IsWritten w.output (refusal_line s) → Ends w s
  without_line : {s : AuditStatus} → has_line s ≡ false → IsRefused w s → IsUntouched w.output → Ends w s
  with_write_fault : Rose w.output.before.faults w.output.after.faults → IsCut w → Ends w status.WriteFault
  cut_for_memory : IsCut w → Ends w status.OutOfMemory
