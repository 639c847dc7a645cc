-- The frames so far were sent, and none of them is too long.
use Rattle.std.proofs.Common.{◌≡◌, None, Ok, take}
use Rattle.dns_edges.specs.Edges.{around}
use Rattle.dns_words.specs.Writing.{Writes}
use Rattle.dns_follow.specs.Feeding.{sent_of, too_long}
use Rattle.dns_follow.proofs.sending.put_frames.Given as goal

abbrev pub invariant-loop-frame : goal.invariant-loop-frame
invariant-loop-frame g l = record {
  written : Writes (around g.W.Sink.sink.told l.fn.out l.out) (sent_of (take l.frame-index l.frames)) (Ok tt);
  short : too_long (take l.frame-index l.frames) ≡ None;
}
