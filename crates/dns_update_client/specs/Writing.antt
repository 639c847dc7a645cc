-- Writing the output, and how the program ends by it.
use Rattle.std.specs.Prelude.{◌≡◌, ℕ, List, true, false, Result}
use Rattle.dns_io.specs.declared.io_fault.IoFault.{IoFault}
use Rattle.dns_edges.specs.Edges.{Around, SinkTold}
use Rattle.dns_words.specs.Writing.{IsUntouched, WritesWhole, ended}
use Rattle.dns_update_client.specs.declared.status.UpdateStatus.{UpdateStatus}
use Rattle.dns_update_client.specs.declared.status.UpdateStatus.TheVariants as status
use Rattle.dns_update_client.specs.Status.{refusal_line, has_line}

-- a status that was meant, where the text was written to its end
abbrev pub after_writing : UpdateStatus → Result (Unit {0}) IoFault → UpdateStatus
after_writing meant result = ended meant status.WriteFault status.OutOfMemory result

-- the end of a call that writes a text and means to end with a status
pub record EndsWriting (output : Around SinkTold) (text : List ℕ) (meant s : UpdateStatus) : Type 0 where
  pub result : Result (Unit {0}) IoFault
  pub written : WritesWhole output text result
  pub status : s ≡ after_writing meant result

-- the end of a refusal: by its line, or by nothing more where it has none
pub data EndsRefusing (output : Around SinkTold) (meant s : UpdateStatus) : Type 0 where
  silent : has_line meant ≡ false → s ≡ meant → IsUntouched output → EndsRefusing output meant s
  by_line : has_line meant ≡ true → EndsWriting output (refusal_line meant) meant s → EndsRefusing output meant s
