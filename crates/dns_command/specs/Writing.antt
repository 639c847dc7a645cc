-- Writing the output, and how the program ends by it.
use Rattle.std.specs.Prelude.{◌≡◌, ◌≢◌, ℕ, List, true, Result}
use Rattle.dns_edges.specs.Edges.{Around, SinkTold}
use Rattle.dns_io.specs.declared.io_fault.IoFault.{IoFault}
use Rattle.dns_command.specs.declared.status.Status.{Status}
use Rattle.dns_command.specs.declared.status.Status.TheVariants as status
use Rattle.dns_command.specs.Status.{refusal_line, is_fault}
use Rattle.dns_words.specs.Writing.{IsUntouched, WritesWhole, ended}

-- a status that was meant, where the text was written to its end
abbrev pub after_writing : Status → Result (Unit {0}) IoFault → Status
after_writing meant result = ended meant status.WriteFault status.OutOfMemory result

-- the end of a call that writes a text and means to end with a status
pub record EndsWriting (output : Around SinkTold) (text : List ℕ) (meant s : Status) : Type 0 where
  pub result : Result (Unit {0}) IoFault
  pub written : WritesWhole output text result
  pub status : s ≡ after_writing meant result

-- the end of a refusal: want of memory is told by nothing more, any other by its line; the line of a fault gives way to want of memory only
-- where the output wanted it for that line
pub data EndsRefusing (output : Around SinkTold) (wants : List ℕ → Type 0) (meant s : Status) : Type 0 where
  silent : meant ≡ status.OutOfMemory → s ≡ status.OutOfMemory → IsUntouched output → EndsRefusing output wants meant s
  by_line : meant ≢ status.OutOfMemory → EndsWriting output (refusal_line meant) meant s
      → (is_fault meant ≡ true → s ≡ status.OutOfMemory → wants (refusal_line meant)) → EndsRefusing output wants meant s
