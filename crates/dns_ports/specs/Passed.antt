-- What passed through a socket of datagrams, as it is read off the calls of its network.
use Rattle.std.specs.Prelude.{◌≡◌, ◌<◌, ◌^◌, ℕ, List, [], ◌∷◌, ◌++◌, take, nat_eq, if◌then◌else◌, true, Option, Some, None, Result, Ok, Err}
use Rattle.std.specs.Net.Socket.{socket_ip, socket_port}
use Rattle.std.specs.declared.net.socket_addr.SocketAddr.{SocketAddr}
use Rattle.dns_io.specs.declared.io_fault.IoFault.{IoFault}
use Rattle.dns_io.specs.declared.peer.Peer.{Peer}
use Rattle.dns_edges.specs.Edges.{moment_from}
use Rattle.dns_network.specs.Calls.{Noted}
use Rattle.dns_network.specs.Words.{is_stopped}
use Rattle.dns_network.specs.declared.call.Call.{Call}
use Rattle.dns_network.specs.declared.call.Call.TheVariants as call
use Rattle.dns_network.specs.declared.call.Reading.{Reading}
use Rattle.dns_network.specs.declared.refused.Refused.{Refused}
use Rattle.dns_ports.specs.Addresses.{ip_of}
use Rattle.dns_ports.specs.Ports.{Datagram, Reply, UdpTold, came_into}
use Rattle.dns_ports.specs.declared.port.Arrived.{Arrived}

-- the peer at a socket address
abbrev pub peer_of : SocketAddr → Peer
peer_of address = record { ip = ip_of (socket_ip address); port = socket_port address }

-- what passed: the last moment that was read, a datagram that came and of which no moment was read yet, the datagrams that were received,
-- and the replies that went out whole, each in order
pub record Passed : Type 0 where
  pub moment : ℕ
  pub came : Option (List ℕ × Peer)
  pub received : List Datagram
  pub taken : List Reply

-- a reading of the system's time is the moment, and one that is refused leaves the last one
abbrev pub read_moment : ℕ → Result Reading Refused → ℕ
read_moment last (Ok reading) = moment_from 0 reading.wall
read_moment last (Err refused) = last

-- a datagram, at this moment
abbrev pub dated : ℕ → Option (List ℕ × Peer) → List Datagram
dated moment None = []
dated moment (Some came) = (came.0, came.1, moment) ∷ []

-- a reply that was to have so many bytes, where so many went out
abbrev pub if_whole : ℕ → ℕ → Reply → List Reply
if_whole handed count reply = if nat_eq count handed then reply ∷ [] else []

-- what passed behind one call more, and the bytes that it moved. A datagram is received at the moment that is read next behind it
abbrev pub passed_by : Passed → Call → List ℕ → Passed
passed_by s (call.Received (Ok whom)) bytes =
    record s { came = Some (bytes, peer_of whom); received = s.received ++ dated s.moment s.came }
passed_by s (call.Clock given) bytes = record s {
  moment = read_moment s.moment given;
  came = None;
  received = s.received ++ dated (read_moment s.moment given) s.came;
}
passed_by s (call.Sent to handed (Ok count)) bytes = record s { taken = s.taken ++ if_whole handed count (bytes, peer_of to) }
passed_by s other bytes = s

abbrev pub passed_from : Passed → List Noted → Passed
passed_from s [] = s
passed_from s (c ∷ calls) = passed_from (passed_by s c.0 c.1) calls

abbrev pub none_passed : Passed
none_passed = record { moment = 0; came = None; received = []; taken = [] }

abbrev pub passed : List Noted → Passed
passed = passed_from none_passed

-- what passed behind a receive that gave so many bytes of the room, and their sender, where something came
abbrev pub came_by : Passed → List ℕ → Result (Option (ℕ × SocketAddr)) IoFault → Passed
came_by s room (Ok (Some came)) =
    record s { came = Some (take came.0 room, peer_of came.1); received = s.received ++ dated s.moment s.came }
came_by s room (Ok None) = s
came_by s room (Err fault) = s

-- what passed behind a reading of the clock that gave this moment
abbrev pub dated_by : Passed → ℕ → Passed
dated_by s moment = record s { moment = moment; came = None; received = s.received ++ dated moment s.came }

-- the datagram that a receive gave
abbrev pub heard_in : List ℕ → Result (Option Arrived) IoFault → Option Datagram
heard_in room (Ok came) = came_into room came
heard_in room (Err fault) = None

-- what passed behind a receive that gave this datagram at its moment, or none
abbrev pub heard_by : Passed → Option Datagram → Passed
heard_by s None = s
heard_by s (Some datagram) = record s { moment = datagram.2; received = s.received ++ datagram ∷ [] }

-- what passed behind a sending of this reply
abbrev pub handed_by : Passed → Reply → Result (Unit {0}) IoFault → Passed
handed_by s reply (Ok done) = record s { taken = s.taken ++ reply ∷ [] }
handed_by s reply (Err fault) = s

-- each datagram that came has its moment, and the last one that was read is this
pub record IsRead (s : Passed) (last : ℕ) : Type 0 where
  pub none : s.came ≡ None
  pub read : s.moment ≡ last
  pub bound : last < 2 ^ 47

-- a socket: the calls of its network, and how many of its own failed
pub record SocketSeen : Type 0 where
  pub calls : List Noted
  pub faults : ℕ

-- what it tells: what passed, and not what is left
abbrev pub socket_told : SocketSeen → UdpTold
socket_told s = record {
  left = None;
  received = Some (passed s.calls).received;
  taken = Some (passed s.calls).taken;
  faults = s.faults;
}

-- nothing more comes only where the token was seen stopped
abbrev pub IfStopped : {A : Type 0} → List Noted → Result (Option A) IoFault → Type 0
IfStopped calls (Ok None) = is_stopped calls ≡ true
IfStopped calls (Ok (Some it)) = Unit {0}
IfStopped calls (Err fault) = Unit {0}
