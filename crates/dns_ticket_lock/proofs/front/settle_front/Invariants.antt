-- So far nothing came, and the messages of the bytes that are left are to come.
use Rattle.std.proofs.Common.{◌≡◌, ◌+◌, ◌-◌, ◌*◌, ◌≤◌, ◌<◌, length}
use Rattle.dns_server_core.specs.FrameRuns.{behind_first, first_messages}
use Rattle.dns_ticket_lock.proofs.Fronts.{Quiet}
use Rattle.dns_ticket_lock.proofs.front.settle_front.Given as goal

abbrev pub invariant-loop-message : goal.invariant-loop-message
invariant-loop-message g l =
    record {
      within : (l.messages ≤ l.most) × (l.messages < 64);
      quiet : Quiet g.K.Keeper.keeper l.access l.ask l.fn.book l.book l.most (l.most - l.messages) l.bytes l.left l.fn.replies.items l.replies.items l.messages;
      count : l.messages + length (first_messages (l.most - l.messages) l.left) ≡ length (first_messages l.most l.bytes);
      behind : behind_first (l.most - l.messages) l.left ≡ behind_first l.most l.bytes;
      shorter : 2 * l.messages + length l.left ≤ length l.bytes;
    }

abbrev pub decreases-loop-message : goal.decreases-loop-message
decreases-loop-message g l = length l.left
