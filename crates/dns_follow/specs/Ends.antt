-- What the program does: what its words ask for, and no other bytes.
use Rattle.std.specs.Prelude.{◌≡◌, ◌++◌, ℕ, List, [], true, false}
use Rattle.dns_io.specs.Told.{Rose, GrowsByPrefix}
use Rattle.dns_edges.specs.Edges.{SourceOf, ClockOf, SinkOf}
use Rattle.dns_keeper.specs.Keeping.{KeeperOf}
use Rattle.dns_words.specs.Writing.{IsWritten}
use Rattle.dns_follow.specs.declared.status.FollowStatus.{FollowStatus}
use Rattle.dns_follow.specs.declared.status.FollowStatus.TheVariants as status
use Rattle.dns_follow.specs.Status.{refusal_line, has_line}
use Rattle.dns_follow.specs.World.{World, told_around}
use Rattle.dns_follow.specs.Steps.{IsDone, IsRefused}

module _ {K S C O : Type 0} (keeper : KeeperOf K) (source : SourceOf S) (clock : ClockOf C) (sink : SinkOf O) (w : World K S C O) where
  -- the output took a front of this text, where it is told afterwards
  abbrev pub TookFront : List ℕ → Type 0
  TookFront text = (rest : List ℕ) × GrowsByPrefix (sink.told w.output.before).taken (sink.told w.output.after).taken text rest

  -- some of the bytes were not written, or not handed on: of the line of a refusal or what stands before it, or of the output
  pub data IsCut : Type 0 where
    in_refusal : (s : FollowStatus) (text : List ℕ) → has_line s ≡ true
        → IsRefused keeper source clock w s text → TookFront (text ++ refusal_line s) → IsCut
    in_output : (text : List ℕ) → IsDone keeper source clock w text → TookFront text → IsCut

  -- What each status means. Status 0 and each status with a line say that the output took all the bytes, and handed on all that it took.
  -- Nothing is written to it before the journal that is fed was read, or the input was followed to its end, or a step is refused.
  pub data Ends : FollowStatus → Type 0 where
    with_output : (text : List ℕ) → IsDone keeper source clock w text → IsWritten (told_around sink.told w.output) text → Ends status.Ok
    with_refusal : (s : FollowStatus) (text : List ℕ) → has_line s ≡ true → IsRefused keeper source clock w s text
        → IsWritten (told_around sink.told w.output) (text ++ refusal_line s) → Ends s
    without_line : (s : FollowStatus) → has_line s ≡ false → IsRefused keeper source clock w s []
        → sink.told w.output.after ≡ sink.told w.output.before → Ends s
    with_write_fault : Rose (sink.told w.output.before).faults (sink.told w.output.after).faults → IsCut → Ends status.WriteFault
    cut_for_memory : IsCut → Ends status.OutOfMemory
