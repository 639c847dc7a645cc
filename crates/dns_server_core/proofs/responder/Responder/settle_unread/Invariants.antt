-- What is left of the connection's bytes has the messages that are left, and the same behind them.
use Rattle.std.proofs.Common.{◌≡◌, ◌+◌, ◌-◌, ◌≤◌, map, length}
use Rattle.dns_server_core.specs.Connections.{message_of, messages_left}
use Rattle.dns_server_core.specs.FrameRuns.{behind_first, first_messages}
use Rattle.dns_server_core.specs.Steps.{messages_in, unread_messages}
use Rattle.dns_server_core.specs.Handing.{HandsFront}
use Rattle.dns_server_core.proofs.responder.Responder.settle_unread.Given as goal

abbrev pub invariant-loop-message : goal.invariant-loop-message
invariant-loop-message g l =
    record {
      front : HandsFront g.H.RequestHandler.serves l.fn.self (unread_messages l.at l.connection) l.self
          (map (message_of l.at l.connection) (first_messages (messages_left l.connection - l.messages) l.left));
      within : l.messages ≤ messages_left l.connection;
      count : l.messages + length (first_messages (messages_left l.connection - l.messages) l.left) ≡ length (messages_in l.connection l.connection.rest);
      behind : behind_first (messages_left l.connection - l.messages) l.left ≡ behind_first (messages_left l.connection) l.connection.rest;
    }

abbrev pub decreases-loop-message : goal.decreases-loop-message
decreases-loop-message g l = length l.left
