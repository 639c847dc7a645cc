-- Which counts of faults rose in the top call: those alone of which its status tells.
use Rattle.std.specs.Prelude.{◌≡◌, ◌⊎◌, ℕ}
use Rattle.dns_io.specs.Told.{Rose}
use Rattle.dns_edges.specs.Edges.{SourceOf, ClockOf, SinkOf, SinkTold}
use Rattle.dns_keeper.specs.Keeping.{KeeperOf}
use Rattle.dns_words.specs.Writing.{WantedMemory}
use Rattle.dns_follow.specs.declared.status.FollowStatus.{FollowStatus}
use Rattle.dns_follow.specs.declared.status.FollowStatus.TheVariants as status
use Rattle.dns_follow.specs.Status.{refusal_line}
use Rattle.dns_follow.specs.World.{World}
use Rattle.dns_follow.specs.Ends.{Ends}

-- it is told that the journal or the input failed: by the status that was meant and its line; or that line could not be written, or the
-- output wanted memory for it
pub data TellsFailed {O : Type 0} (sink : SinkOf O) (before after : O) (meant : FollowStatus) : FollowStatus → Type 0 where
  with_line : TellsFailed sink before after meant meant
  cut_by_fault : Rose (sink.told before).faults (sink.told after).faults → TellsFailed sink before after meant status.WriteFault
  cut_for_memory : WantedMemory sink before (refusal_line meant) after → TellsFailed sink before after meant status.OutOfMemory

-- no call of an object failed, or it is told that one did
abbrev pub CountsFailing : {O : Type 0} → SinkOf O → O → O → ℕ → ℕ → FollowStatus → FollowStatus → Type 0
CountsFailing sink before after was now meant s = (now ≡ was) ⊎ (Rose was now × TellsFailed sink before after meant s)

-- no call of the output failed, or it is told that it could not be written
abbrev pub CountsWriting : SinkTold → SinkTold → FollowStatus → Type 0
CountsWriting before after s = (after.faults ≡ before.faults) ⊎ (Rose before.faults after.faults × (s ≡ status.WriteFault))

module _ {K S C O : Type 0} (keeper : KeeperOf K) (source : SourceOf S) (clock : ClockOf C) (sink : SinkOf O) (w : World K S C O) where
  -- The counts of all objects, by the status. So where it is 0 none rose, and where memory ran out none but one whose line the output
  -- wanted memory for.
  pub record Counts (s : FollowStatus) : Type 0 where
    pub journal : CountsFailing sink w.output.before w.output.after
        (keeper.told w.journal.before).faults (keeper.told w.journal.after).faults status.KeeperFault s
    pub input : CountsFailing sink w.output.before w.output.after
        (source.told w.input.before).faults (source.told w.input.after).faults status.ReadFault s
    pub output : CountsWriting (sink.told w.output.before) (sink.told w.output.after) s

  -- a status tells of a fault only where a call of the object that it names failed
  pub record HasCauses (s : FollowStatus) : Type 0 where
    pub read : s ≡ status.ReadFault → Rose (source.told w.input.before).faults (source.told w.input.after).faults
    pub written : s ≡ status.WriteFault → Rose (sink.told w.output.before).faults (sink.told w.output.after).faults
    pub journal : s ≡ status.KeeperFault → Rose (keeper.told w.journal.before).faults (keeper.told w.journal.after).faults

  -- all that is told of the end of the top call
  pub record Tells (s : FollowStatus) : Type 0 where
    pub ends : Ends keeper source clock sink w s
    pub counts : Counts s
    pub causes : HasCauses s
