-- All whole messages so far were taken, and each had two bytes at least.
use Rattle.std.proofs.Common.{◌≡◌, ◌≤◌, ◌+◌, ◌*◌, length}
use Rattle.dns_follow.proofs.Going.{Going}
use Rattle.dns_follow.proofs.following.follow.Given as goal

abbrev pub invariant-loop-turn : goal.invariant-loop-turn
invariant-loop-turn g l = record {
  going : Going g.K.Keeper.keeper g.R.Source.source g.C.Clock.clock l.fn.input l.fn.clock l.fn.follower l.input l.clock l._turn l.frames l.follower l.count;
  size : l.count + length l.frames ≤ 4096 * l._turn;
  named : l.follower.origin ≡ l.fn.follower.origin;
  room : length l.room ≡ 4096;
}
