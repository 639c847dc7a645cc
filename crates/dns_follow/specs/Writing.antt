-- Writing the output, and how the program ends by it.
use Rattle.std.specs.Prelude.{◌≡◌, ◌++◌, ℕ, List, [], true, false, Result}
use Rattle.dns_io.specs.declared.io_fault.IoFault.{IoFault}
use Rattle.dns_edges.specs.Edges.{Around, SinkTold}
use Rattle.dns_words.specs.Writing.{WritesWhole, ended}
use Rattle.dns_follow.specs.declared.status.FollowStatus.{FollowStatus}
use Rattle.dns_follow.specs.declared.status.FollowStatus.TheVariants as status
use Rattle.dns_follow.specs.Status.{refusal_line, has_line}

-- a status that was meant, where the text was written to its end
abbrev pub after_writing : FollowStatus → Result (Unit {0}) IoFault → FollowStatus
after_writing meant result = ended meant status.WriteFault status.OutOfMemory result

-- the end of a call that writes a text and means to end with a status
pub record EndsWriting (output : Around SinkTold) (text : List ℕ) (meant s : FollowStatus) : Type 0 where
  pub result : Result (Unit {0}) IoFault
  pub written : WritesWhole output text result
  pub status : s ≡ after_writing meant result

-- the end of a refusal: by its line behind a text, or by nothing more where it has none, and there is no text
pub data EndsRefusing (output : Around SinkTold) (text : List ℕ) (meant s : FollowStatus) : Type 0 where
  silent : has_line meant ≡ false → s ≡ meant → text ≡ [] → output.after ≡ output.before → EndsRefusing output text meant s
  by_line : has_line meant ≡ true → EndsWriting output (text ++ refusal_line meant) meant s → EndsRefusing output text meant s
