-- None so far is too long.
use Rattle.std.proofs.Common.{◌≡◌, None, take}
use Rattle.dns_follow.specs.Feeding.{too_long}
use Rattle.dns_follow.proofs.sending.too_long.Given as goal

abbrev pub invariant-loop-frame : goal.invariant-loop-frame
invariant-loop-frame l = too_long (take l.frame-index l.frames) ≡ None
