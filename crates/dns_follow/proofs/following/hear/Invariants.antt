-- All payloads so far were taken, and each was longer than nothing.
use Rattle.std.proofs.Common.{◌≤◌, ◌+◌, ◌++◌, length}
use Rattle.dns_follow.proofs.Hearing.{Taking}
use Rattle.dns_follow.proofs.following.hear.Given as goal

abbrev pub invariant-loop-payload : goal.invariant-loop-payload
invariant-loop-payload g l = record {
  taking : Taking g.K.Keeper.keeper l.moment l.fn.follower (l.fn.frames ++ l.piece) l.frames l.follower l.count;
  size : l.count + length l.frames ≤ length l.fn.frames + length l.piece;
}

abbrev pub decreases-loop-payload : goal.decreases-loop-payload
decreases-loop-payload g l = length l.frames
