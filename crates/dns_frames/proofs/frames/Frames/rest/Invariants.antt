-- The bytes that are left have the rest of all.
use Rattle.std.proofs.Common.{◌≡◌, length}
use Rattle.dns_frames.specs.Frames.{frames}
use Rattle.dns_frames.proofs.frames.Frames.rest.Given as goal

abbrev pub invariant-loop-after : goal.invariant-loop-after
invariant-loop-after l = (frames l.left).rest ≡ (frames l.self).rest

abbrev pub decreases-loop-after : goal.decreases-loop-after
decreases-loop-after l = length l.left
