-- Whose the events, the messages and the replies are.
use Rattle.std.specs.Prelude.{ℕ, List, map, Bool, true, false, ◌==◌, ◌&&◌, Option, Some, None}
use Rattle.std.specs.List.{filter}
use Rattle.dns_io.specs.declared.peer.Peer.{Peer}
use Rattle.dns_io.specs.declared.peer.Ip.{Ip}
use Rattle.dns_io.specs.declared.peer.Ip.TheVariants.{V4, V6}
use Rattle.dns_server_core.specs.declared.event.Event.{Event}
use Rattle.dns_server_core.specs.declared.event.Event.TheVariants.{Accepted, Bytes, Ended, Datagram, Tick, Stop}
use Rattle.dns_server_core.specs.declared.event.Out.{Out}
use Rattle.dns_server_core.specs.declared.event.Receiver.{Receiver}
use Rattle.dns_server_core.specs.declared.event.Receiver.TheVariants as to
use Rattle.dns_server_core.specs.Runs.{Completed}

abbrev pub is_one_address : Ip → Ip → Bool
is_one_address (V4 a) (V4 b) = a == b
is_one_address (V4 a) (V6 b) = false
is_one_address (V6 a) (V4 b) = false
is_one_address (V6 a) (V6 b) = a == b

abbrev pub is_one_peer : Peer → Peer → Bool
is_one_peer a b = is_one_address a.ip b.ip && (a.port == b.port)

-- two receivers are one: the same connection, or the same sender of datagrams
abbrev pub is_one : Receiver → Receiver → Bool
is_one (to.Conn a) (to.Conn b) = a == b
is_one (to.Conn a) (to.Peer b) = false
is_one (to.Peer a) (to.Conn b) = false
is_one (to.Peer a) (to.Peer b) = is_one_peer a b

-- whose an event is: what is accepted, brings bytes and ends is a connection's, and a datagram is its sender's; that time
-- passes and that the server stops is nobody's
abbrev pub owner_of : Event → Option Receiver
owner_of (Accepted at conn peer limit) = Some (to.Conn conn)
owner_of (Bytes at conn piece) = Some (to.Conn conn)
owner_of (Ended at conn) = Some (to.Conn conn)
owner_of (Datagram at peer bytes) = Some (to.Peer peer)
owner_of (Tick at) = None
owner_of (Stop at) = None

-- nobody's, or this receiver's
abbrev pub is_no_others : Receiver → Option Receiver → Bool
is_no_others receiver None = true
is_no_others receiver (Some owner) = is_one receiver owner

-- events without those of other receivers
abbrev pub without_others : Receiver → List Event → List Event
without_others receiver events = filter (λ e. is_no_others receiver (owner_of e)) events

-- the messages whose replies go to a receiver
abbrev pub messages_to : Receiver → List Completed → List Completed
messages_to receiver messages = filter (λ c. is_one receiver c.to) messages

-- what is sent to a receiver
abbrev pub sent_for : Receiver → List Out → List Out
sent_for receiver outs = filter (λ o. is_one receiver o.to) outs

-- the bytes that a receiver gets, reply by reply
abbrev pub replies_to : Receiver → List Out → List (List ℕ)
replies_to receiver outs = map (λ o. o.bytes) (sent_for receiver outs)
