-- The first messages were settled, and those of the bytes that are left are to come.
use Rattle.std.proofs.Common.{◌≡◌, ◌+◌, ◌-◌, ◌*◌, ◌≤◌, [], length}
use Rattle.dns_server_core.specs.FrameRuns.{AddsFront, behind_first, first_asks, first_messages}
use Rattle.dns_ticket_lock.specs.declared.view.Phase.TheVariants.{Idle}
use Rattle.dns_ticket_lock.specs.Rule.{own}
use Rattle.dns_ticket_lock.specs.Settling.{SettledAs}
use Rattle.dns_ticket_lock.proofs.front.settle_turns.Given as goal

abbrev pub invariant-loop-message : goal.invariant-loop-message
invariant-loop-message g l =
    record {
      table : l.seat.table_id ≡ l.fn.seat.table_id;
      idle : (l.seat.me.1 ≡ []) × (l.seat.me.0.phase ≡ Idle) × (length l.seat.me.0.accounts ≡ 1);
      low : (l.seat.me.0.low ≡ l.fn.seat.me.0.low) × (l.seat.me.0.terms ≡ l.fn.seat.me.0.terms);
      seen : length (own l.seat.me.0.accounts).seen ≡ l.seen;
      front : AddsFront (SettledAs g.K.Keeper.keeper l.fn.seat.me.0.terms l.access l.ask.client) (own l.fn.seat.me.0.accounts) (first_asks l.ask l.most l.ask.bytes) (own l.seat.me.0.accounts) (first_asks l.ask (l.most - l.messages) l.left) l.fn.replies.items l.replies.items;
      within : l.messages ≤ l.most;
      count : l.messages + length (first_messages (l.most - l.messages) l.left) ≡ length (first_messages l.most l.ask.bytes);
      behind : behind_first (l.most - l.messages) l.left ≡ behind_first l.most l.ask.bytes;
      shorter : 2 * l.messages + length l.left ≤ length l.ask.bytes;
    }

abbrev pub decreases-loop-message : goal.decreases-loop-message
decreases-loop-message g l = length l.left
