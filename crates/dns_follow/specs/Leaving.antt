-- What a crash may leave of the journal of a follower.
use Rattle.std.specs.Prelude.{◌⊎◌, ℕ, List, Result, Ok, Err}
use Rattle.dns_wire.specs.declared.record.Record.{Record}
use Rattle.dns_keeper.specs.Keeping.{KeeperOf}
use Rattle.dns_keeper.specs.Crash.{LeavesTold, LeavesNoOther, LeavesWhole}
use Rattle.dns_follow.specs.declared.frame.Frame.{Frame}
use Rattle.dns_follow.specs.declared.answer.Taken.{Taken}
use Rattle.dns_follow.specs.declared.answer.Taken.TheVariants.{Stored}
use Rattle.dns_follow.specs.declared.answer.FollowFault.{FollowFault}
use Rattle.dns_follow.specs.declared.answer.FollowFault.TheVariants.{KeeperFault, OutOfMemory}
use Rattle.dns_follow.specs.Following.{AreOf, Carries, EndsBatch, batch_with}
use Rattle.dns_follow.specs.Seen.{SeenOf, state_of}

-- what might be left before
abbrev pub LeavesSame : {K : Type 0} → KeeperOf K → SeenOf K → SeenOf K → Type 0
LeavesSame keeper before after = LeavesNoOther (keeper.may_leave before.keeper) (keeper.may_leave after.keeper)

-- that, or it with the whole batch that a frame ends, of this moment
abbrev pub LeavesBatch : {K : Type 0} → KeeperOf K → SeenOf K → Frame → ℕ → SeenOf K → Type 0
LeavesBatch keeper before f moment after =
    LeavesSame keeper before after
    ⊎ ((records : List Record) × EndsBatch (state_of keeper before) f × AreOf (batch_with (state_of keeper before) f) records
    × LeavesWhole (keeper.told before.keeper) f.client f.serial moment records
    (keeper.may_leave before.keeper) (keeper.may_leave after.keeper))

-- by what was answered to a frame that carries a row and was taken at a moment: once its batch was stored just what there is; where the
-- keeper was refused that, what might be left before or with the whole batch; else what might be left before
abbrev pub LeavesFrame : {K : Type 0} → KeeperOf K → SeenOf K → Frame → ℕ → SeenOf K → Result Taken FollowFault → Type 0
LeavesFrame keeper before f moment after (Ok (Stored n)) = LeavesTold (keeper.told after.keeper) (keeper.may_leave after.keeper)
LeavesFrame keeper before f moment after (Err KeeperFault) = LeavesBatch keeper before f moment after
LeavesFrame keeper before f moment after (Err OutOfMemory) = LeavesBatch keeper before f moment after
LeavesFrame keeper before f moment after _ = LeavesSame keeper before after

-- so it is for a payload; where memory ran out before it was known what it carries, what might be left before
abbrev pub LeavesTaken : {K : Type 0} → KeeperOf K → SeenOf K → List ℕ → ℕ → SeenOf K → Result Taken FollowFault → Type 0
LeavesTaken keeper before payload moment after (Ok (Stored n)) = LeavesTold (keeper.told after.keeper) (keeper.may_leave after.keeper)
LeavesTaken keeper before payload moment after (Err KeeperFault) =
    (f : Frame) × Carries payload f × LeavesBatch keeper before f moment after
LeavesTaken keeper before payload moment after (Err OutOfMemory) =
    LeavesSame keeper before after ⊎ ((f : Frame) × Carries payload f × LeavesBatch keeper before f moment after)
LeavesTaken keeper before payload moment after _ = LeavesSame keeper before after
