-- How serving ends, whoever serves; and what a list of events tells of its end.
use Rattle.std.specs.Prelude.{◌≡◌, ◌≢◌, ℕ, List}
use Rattle.dns_io.specs.Told.{Rose}
use Rattle.dns_keeper.specs.Keeping.{KeeperOf}
use Rattle.dns_command.specs.declared.status.Status.{Status}
use Rattle.dns_command.specs.declared.status.Status.TheVariants as status
use Rattle.dns_command.specs.Status.{refusal_line}
use Rattle.dns_words.specs.Writing.{IsUntouched, IsWritten}
use Rattle.dns_command.specs.World.{World}
use Rattle.dns_command.specs.Ends.{Ends, TookFront, IsWanted}
use Rattle.dns_command.specs.Completeness.{Completes}
use Rattle.dns_command.specs.Counts.{Counts}

module _ (w : World) (Serves : List ℕ → Type 0) (Refuses : Status → Type 0) where
  -- some of the bytes were not written, or not handed on: of the line of a refusal, or of the two closing lines
  pub data IsCutOf : Type 0 where
    in_refusal : (s : Status) → s ≢ status.OutOfMemory → Refuses s → TookFront w (refusal_line s) → IsCutOf
    in_closing : (text : List ℕ) → Serves text → TookFront w text → IsCutOf

  -- where the line of a fault was cut, the output wanted memory for it
  abbrev pub IsCutOfWanted : IsCutOf → Type 0
  IsCutOfWanted (in_refusal s some refuses took) = IsWanted w s
  IsCutOfWanted (in_closing text serves took) = Unit {0}

  -- what each status means of what serves, with this output, or is refused. Status 0 and each status with a line say that the output took
  -- all the bytes, and handed on all that it took. Status 7 says that the output's count of faults rose, and no other does
  pub data ServingEnds : Status → Type 0 where
    with_closing : (text : List ℕ) → Serves text → IsWritten w.output text → ServingEnds status.Ok
    with_refusal : {s : Status} → s ≢ status.OutOfMemory → Refuses s → IsWritten w.output (refusal_line s) → ServingEnds s
    with_write_fault : Rose w.output.before.faults w.output.after.faults → IsCutOf → ServingEnds status.WriteFault
    cut_for_memory : w.output.after.faults ≡ w.output.before.faults → (cut : IsCutOf) → IsCutOfWanted cut → ServingEnds status.OutOfMemory
    refused_for_memory : Refuses status.OutOfMemory → IsUntouched w.output → ServingEnds status.OutOfMemory

-- what a list of events tells of its end
pub record ListTells {K : Type 0} (keeper : KeeperOf K) (w : World) (s : Status) : Type 0 where
  pub ends : Ends keeper w s
  pub completes : Completes w s
  pub counts : Counts keeper w s
