-- The first messages were settled, and those of the bytes that are left are to come.
use Rattle.std.proofs.Common.{◌≡◌, ◌+◌, ◌-◌, ◌*◌, ◌≤◌, length}
use Rattle.dns_server_core.specs.FrameRuns.{AddsFront, behind_first, first_asks, first_messages}
use Rattle.dns_server_core.proofs.handler.RequestHandler.handle_frames.Given as goal

abbrev pub invariant-loop-message : goal.invariant-loop-message
invariant-loop-message g l =
    record {
      within : l.messages ≤ l.most;
      goes : AddsFront (g.Self.RequestHandler.serves l.access) l.fn.self (first_asks l.stream l.most l.stream.bytes) l.self
          (first_asks l.stream (l.most - l.messages) l.left) l.fn.replies.items l.replies.items;
      count : l.messages + length (first_messages (l.most - l.messages) l.left) ≡ length (first_messages l.most l.stream.bytes);
      behind : behind_first (l.most - l.messages) l.left ≡ behind_first l.most l.stream.bytes;
      shorter : 2 * l.messages + length l.left ≤ length l.stream.bytes;
    }

abbrev pub decreases-loop-message : goal.decreases-loop-message
decreases-loop-message g l = length l.left
