-- What one event makes of the open connections, and the messages that it completes.
use Rattle.std.specs.Prelude.{◌≡◌, ℕ, ◌+◌, nat_le, Bool, true, false, List, [], ◌∷◌, ◌++◌, length, map, if◌then◌else◌, Option, Some, None}
use Rattle.std.specs.List.{flat_map, filter_map}
use Rattle.dns_server_core.specs.declared.event.Event.{Event}
use Rattle.dns_server_core.specs.Runs.{Completed}
use Rattle.dns_server_core.specs.declared.session.Heard.{Heard}
use Rattle.dns_server_core.specs.declared.session.Heard.TheVariants.{InTime, Late}
use Rattle.dns_server_core.specs.Events.{moment}
use Rattle.dns_server_core.specs.Connections.{Connection, Turn, Piece, Over, Other, turn_of, is_within, message_of, datagram_by, accepted, messages_left, most_messages}
use Rattle.dns_server_core.specs.FrameRuns.{behind_first, first_messages}

abbrev pub base_by : ℕ → ℕ → List (List ℕ) → ℕ
base_by base at [] = base
base_by base at (m ∷ ms) = at

-- the messages that these bytes of a connection complete: the whole ones at their front, no more than it may still have
abbrev pub messages_in : Connection → List ℕ → List (List ℕ)
messages_in conn bytes = first_messages (messages_left conn) bytes

-- a connection whose unread bytes were these, once the messages that they complete were settled at a moment
abbrev pub fed_by : Connection → ℕ → List ℕ → Connection
fed_by conn at bytes = record {
  number = conn.number;
  peer = conn.peer;
  limit = conn.limit;
  base = base_by conn.base at (messages_in conn bytes);
  rest = behind_first (messages_left conn) bytes;
  taken = conn.taken + length (messages_in conn bytes);
}

-- it had its last message
abbrev pub is_over : Connection → Bool
is_over conn = nat_le most_messages conn.taken

-- a connection is closed behind its last message
abbrev pub unless_over : Connection → Option Connection
unless_over conn = if is_over conn then None else Some conn

abbrev pub moved : Connection → Turn → Option Connection
moved conn (Piece a) = if is_within conn.limit conn.base a.at then unless_over (fed_by conn a.at (conn.rest ++ a.piece)) else None
moved conn Over = None
moved conn Other = Some conn

abbrev pub step : Event → Connection → Option Connection
step e conn = moved conn (turn_of conn.number e)

abbrev pub heard : Connection → Turn → List (List ℕ)
heard conn (Piece a) = if is_within conn.limit conn.base a.at then messages_in conn (conn.rest ++ a.piece) else []
heard conn Over = []
heard conn Other = []

-- a piece that comes at a moment
abbrev pub piece_at : ℕ → List ℕ → Turn
piece_at at piece = Piece (record { at = at; piece = piece })

-- the connection with one more piece of its bytes
abbrev pub with_piece : Connection → List ℕ → Connection
with_piece conn piece =
    record { number = conn.number; peer = conn.peer; limit = conn.limit; base = conn.base; rest = conn.rest ++ piece; taken = conn.taken }

-- a connection hears a piece at a moment: in time, the piece stands behind its unread bytes; past its base and its limit, nothing changes
abbrev pub HearsPiece : Connection → ℕ → List ℕ → Heard → Connection → Type 0
HearsPiece before at piece InTime after = (is_within before.limit before.base at ≡ true) × (after ≡ with_piece before piece)
HearsPiece before at piece (Late since) after = (is_within before.limit before.base at ≡ false) × (since ≡ before.base) × (after ≡ before)

-- the messages that a connection's unread bytes complete
abbrev pub unread_messages : ℕ → Connection → List Completed
unread_messages at conn = map (message_of at conn) (messages_in conn conn.rest)

-- the messages that a turn completes
abbrev pub heard_messages : ℕ → Connection → Turn → List Completed
heard_messages at conn turn = map (message_of at conn) (heard conn turn)

abbrev pub completed_now : Event → List Connection → List Completed
completed_now e connections =
    datagram_by e ++ flat_map (λ conn. map (message_of (moment e) conn) (heard conn (turn_of conn.number e))) connections

abbrev pub open_next : Event → List Connection → List Connection
open_next e connections = filter_map (step e) connections ++ accepted e
