-- Connections by their whole byte lists: which messages a list of events completes, and what it leaves
-- (RFC 1035 4.2.2, RFC 7766 6.2, 8, RFC 9210 4.2).
use Rattle.std.specs.Prelude.{ℕ, ◌+◌, ◌-◌, min, List, [], ◌∷◌, ◌++◌, length, take, drop, map, nat_lt, nat_le, if◌then◌else◌, zero, suc, Bool, true, false, not, is_err, ◌==◌, ◌&&◌, ◌||◌, Option, Some, None, slice_index}
use Rattle.std.specs.List.{flat_map, filter_map}
use Rattle.dns_io.specs.declared.peer.Peer.{Peer}
use Rattle.dns_io.specs.declared.peer.Protocol.TheVariants.{Udp, Tcp}
use Rattle.dns_edges.specs.Listening.{Arrival}
use Rattle.dns_frames.specs.Frames.{frames}
use Rattle.dns_server_core.specs.declared.event.Event.{Event}
use Rattle.dns_server_core.specs.declared.event.Event.TheVariants.{Accepted, Bytes, Ended, Datagram, Tick, Stop}
use Rattle.dns_server_core.specs.declared.event.Receiver.TheVariants as to
use Rattle.dns_book.specs.Sources.{sanitized}
use Rattle.dns_server_core.specs.Events.{moment, last_moment, number_in, last_number, has_stop}
use Rattle.dns_server_core.specs.Runs.{Completed}

-- how many messages a connection may have: the last of them is settled like the others, and then the connection is closed (RFC 9210 4.2)
abbrev pub most_messages : ℕ
most_messages = 100

-- a connection: its number, the other end, for how many milliseconds it may stay without a whole message (0 is without limit), the moment
-- of its acceptance or of the last piece that completed a message, the bytes that are not yet a message, and how many messages were
-- completed since its acceptance
pub record Connection : Type 0 where
  pub number : ℕ
  pub peer : Peer
  pub limit : ℕ
  pub base : ℕ
  pub rest : List ℕ
  pub taken : ℕ

-- how many more messages it may have
abbrev pub messages_left : Connection → ℕ
messages_left c = most_messages - c.taken

-- a connection that is accepted at a moment: this is its base, and nothing came yet
abbrev pub new_connection : ℕ → Peer → ℕ → ℕ → Connection
new_connection number peer limit at = record { number = number; peer = peer; limit = limit; base = at; rest = []; taken = 0 }

-- what a server keeps from one list to the next: the last moment that it took (0 at first), the greatest number that it
-- accepted (none at first), whether it was stopped, and the open connections
pub record Kept : Type 0 where
  pub last : ℕ
  pub greatest : Option ℕ
  pub stopped : Bool
  pub connections : List Connection

-- what a server keeps to which nothing has happened yet
abbrev pub new_kept : Kept
new_kept = record { last = 0; greatest = None; stopped = false; connections = [] }

-- what an event is to one connection: a piece of its bytes, its end, or nothing
pub data Turn : Type 0 where
  Piece : Arrival → Turn
  Over : Turn
  Other : Turn

abbrev pub turn_of : ℕ → Event → Turn
turn_of number (Accepted at conn peer limit) = Other
turn_of number (Bytes at conn piece) = if conn == number then Piece (record { at = at; piece = piece }) else Other
turn_of number (Ended at conn) = if conn == number then Over else Other
turn_of number (Datagram at peer bytes) = Other
turn_of number (Tick at) = Other
turn_of number (Stop at) = Other

-- a connection's byte events: those before its first end
abbrev pub heading : Turn → List Arrival → List Arrival
heading (Piece arrival) rest = arrival ∷ rest
heading Over rest = []
heading Other rest = rest

abbrev pub byte_events : ℕ → List Event → List Arrival
byte_events number [] = []
byte_events number (e ∷ es) = heading (turn_of number e) (byte_events number es)

-- whether there is an end of the connection
abbrev pub ending : Turn → Bool → Bool
ending (Piece arrival) rest = rest
ending Over rest = true
ending Other rest = rest

abbrev pub is_ended : ℕ → List Event → Bool
is_ended number [] = false
is_ended number (e ∷ es) = ending (turn_of number e) (is_ended number es)

-- a connection as it began, and all events after that
pub record Start : Type 0 where
  pub connection : Connection
  pub later : List Event

-- a source that is served
abbrev pub is_safe : Peer → Bool
is_safe peer = not (is_err (sanitized peer))

-- the connection that an event begins: one accepted from a safe peer
abbrev pub accepted : Event → List Connection
accepted (Accepted at conn peer limit) = if is_safe peer then new_connection conn peer limit at ∷ [] else []
accepted (Bytes at conn piece) = []
accepted (Ended at conn) = []
accepted (Datagram at peer bytes) = []
accepted (Tick at) = []
accepted (Stop at) = []

abbrev pub starts_in : List Event → List Start
starts_in [] = []
starts_in (e ∷ es) = map (λ c. record { connection = c; later = es }) (accepted e) ++ starts_in es

-- all connections that there are: those kept, which begin with the list, and those that it accepts
abbrev pub starts : List Connection → List Event → List Start
starts connections events = map (λ c. record { connection = c; later = events }) connections ++ starts_in events

-- a connection's bytes through its first i pieces: what was left of earlier ones, and then these
unfoldable pub total : Connection → List Arrival → ℕ → List ℕ
total c pieces i = c.rest ++ flat_map (λ p. p.piece) (take i pieces)

-- how many whole messages these are, of which the connection has no more than it may have
unfoldable pub whole : Connection → List Arrival → ℕ → ℕ
whole c pieces i = min (messages_left c) (length (frames (total c pieces i)).messages)

-- it may have more behind these
abbrev pub may_go_on : Connection → List Arrival → ℕ → Bool
may_go_on c pieces i = nat_lt (whole c pieces i) (messages_left c)

-- the moment of the piece behind the first i
unfoldable pub moment_at : List Arrival → ℕ → ℕ
moment_at pieces i = slice_index (map (λ p. p.at) pieces) i

-- the connection's base behind the first pieces: the moment of the last of them that completed a message
unfoldable pub base : Connection → List Arrival → ℕ → ℕ
base c pieces zero = c.base
base c pieces (suc i) = if nat_lt (whole c pieces i) (whole c pieces (suc i)) then moment_at pieces i else base c pieces i

-- a moment is not past a base and a limit; a limit of 0 is none
abbrev pub is_within : ℕ → ℕ → ℕ → Bool
is_within limit base at = (limit == 0) || nat_le at (base + limit)

-- each of the first pieces came in time: none behind the last message that the connection may have, and none past the base behind those
-- before it, and the limit
unfoldable pub in_time : Connection → List Arrival → ℕ → Bool
in_time c pieces zero = true
in_time c pieces (suc i) = in_time c pieces i && (may_go_on c pieces i && is_within c.limit (base c pieces i) (moment_at pieces i))

-- the messages that the piece behind the first ones completes, where all through it are in time
unfoldable pub completed : Connection → List Arrival → ℕ → List (List ℕ)
completed c pieces i =
    if in_time c pieces (suc i)
    then drop (whole c pieces i) (take (whole c pieces (suc i)) (frames (total c pieces (suc i))).messages)
    else []

-- the messages that one more event completes
abbrev pub completed_with : Turn → Connection → Bool → List Arrival → List (List ℕ)
completed_with (Piece arrival) c ended pieces = if ended then [] else completed c (pieces ++ arrival ∷ []) (length pieces)
completed_with Over c ended pieces = []
completed_with Other c ended pieces = []

-- the messages of one connection that an event completes
abbrev pub completed_by : Event → Start → List (List ℕ)
completed_by e s = completed_with (turn_of s.connection.number e) s.connection
    (is_ended s.connection.number s.later) (byte_events s.connection.number s.later)

-- a message of a connection, whose reply goes there
abbrev pub message_on : ℕ → Peer → ℕ → List ℕ → Completed
message_on number peer at message =
    record { to = to.Conn number; ask = record { bytes = message; source = peer; protocol = Tcp; at = at; client = 0 } }

abbrev pub message_of : ℕ → Connection → List ℕ → Completed
message_of at c = message_on c.number c.peer at

-- the message that a datagram is, whose reply goes to its sender
abbrev pub datagram_by : Event → List Completed
datagram_by (Accepted at conn peer limit) = []
datagram_by (Bytes at conn piece) = []
datagram_by (Ended at conn) = []
datagram_by (Datagram at peer bytes) =
    record { to = to.Peer peer; ask = record { bytes = bytes; source = peer; protocol = Udp; at = at; client = 0 } } ∷ []
datagram_by (Tick at) = []
datagram_by (Stop at) = []

-- the messages that an event completes behind these events
abbrev pub completed_at : List Connection → List Event → Event → List Completed
completed_at connections before e =
    datagram_by e ++ flat_map (λ s. map (message_of (moment e) s.connection) (completed_by e s)) (starts connections before)

abbrev pub done_from : List Connection → List Event → List Event → List Completed
done_from connections before [] = []
done_from connections before (e ∷ es) = completed_at connections before e ++ done_from connections (before ++ e ∷ []) es

-- the messages that a list of events completes, event by event
abbrev pub done : Kept → List Event → List Completed
done kept events = done_from kept.connections [] events

-- a connection as its pieces left it
abbrev pub left_by : Connection → List Arrival → Connection
left_by c pieces = record {
  number = c.number;
  peer = c.peer;
  limit = c.limit;
  base = base c pieces (length pieces);
  rest = (frames (total c pieces (length pieces))).rest;
  taken = c.taken + whole c pieces (length pieces);
}

-- a connection that is open at the end, whose last moment is this: neither an end of it nor a stop came, all its pieces
-- were in time, it may have more messages, and the last moment is in time
unfoldable pub left_at : ℕ → Start → Option Connection
left_at last s = if is_ended s.connection.number s.later || has_stop s.later then None
    else if in_time s.connection (byte_events s.connection.number s.later) (length (byte_events s.connection.number s.later))
    && (may_go_on s.connection (byte_events s.connection.number s.later) (length (byte_events s.connection.number s.later))
    && is_within s.connection.limit
    (base s.connection (byte_events s.connection.number s.later) (length (byte_events s.connection.number s.later))) last)
    then Some (left_by s.connection (byte_events s.connection.number s.later)) else None

-- what is kept after a list
abbrev pub after : Kept → List Event → Kept
after kept events = record {
  last = last_moment kept.last events;
  greatest = last_number kept.greatest (flat_map number_in events);
  stopped = kept.stopped || has_stop events;
  connections = filter_map (left_at (last_moment kept.last events)) (starts kept.connections events);
}
