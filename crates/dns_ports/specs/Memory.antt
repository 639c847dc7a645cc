-- What the socket, the listener and the hub in memory do at each call.
use Rattle.std.specs.Prelude.{◌≡◌, ◌≤◌, ◌<◌, ◌^◌, ◌+◌, ◌-◌, ℕ, zero, suc, nat_eq, if◌then◌else◌, List, [], ◌∷◌, ◌++◌, length, drop, Option, Some, None, Result, Err, MatchBool, MatchResult}
use Rattle.dns_io.specs.Told.{one_more}
use Rattle.dns_edges.specs.Memory.{SourceState, SinkState, ClockState, next_fails}
use Rattle.dns_io.specs.declared.io_fault.IoFault.{IoFault}
use Rattle.dns_io.specs.declared.io_fault.IoFault.TheVariants.{Failed, OutOfMemory}
use Rattle.dns_io.specs.declared.peer.Peer.{Peer}
use Rattle.dns_ports.specs.Ports.{Datagram, Reply, UdpTold, TcpTold, HubTold, IsFreshSocket, IsFreshListener, came_into}
use Rattle.dns_ports.specs.declared.hub.Opening.{Opening}
use Rattle.dns_ports.specs.declared.hub.Opening.TheVariants.{Socket, Listeners}
use Rattle.dns_ports.specs.declared.port.Accepted.{Accepted}
use Rattle.dns_ports.specs.declared.port.Arrived.{Arrived}

-- the first item, where there is one
abbrev pub first_of : {A : Type 0} → List A → Option A
first_of [] = None
first_of (item ∷ items) = Some item

-- it may arrive: its bytes fit a datagram, and it comes at a moment
pub record MayArrive (datagram : Datagram) : Type 0 where
  pub size : length datagram.0 ≤ 65535
  pub moment : datagram.2 < 2 ^ 47

-- a socket in memory: the datagrams left and received, the answers that it took, the numbers of the receives and of the
-- answers that fail, how many receives and how many answers there were, and how many of both failed
pub record UdpState : Type 0 where
  pub left : List Datagram
  pub received : List Datagram
  pub taken : List Reply
  pub failing_receives : List ℕ
  pub failing_answers : List ℕ
  pub receives : ℕ
  pub answers : ℕ
  pub faults : ℕ

-- what it tells
abbrev pub udp_told : UdpState → UdpTold
udp_told s = record { left = Some s.left; received = Some s.received; taken = Some s.taken; faults = s.faults }

-- a socket at which these datagrams arrive
abbrev pub udp_of : List Datagram → List ℕ → List ℕ → UdpState
udp_of datagrams receives answers = record {
  left = datagrams;
  received = [];
  taken = [];
  failing_receives = receives;
  failing_answers = answers;
  receives = 0;
  answers = 0;
  faults = 0;
}

-- the socket after a receive that failed
abbrev pub failed_receive : UdpState → UdpState
failed_receive s = record s { receives = one_more s.receives; faults = one_more s.faults }

-- the socket after it was given one receive more
abbrev pub asked : UdpState → UdpState
asked s = record s { receives = one_more s.receives }

-- the socket after the first of these datagrams, which are left, was received
abbrev pub received_from : List Datagram → UdpState → UdpState
received_from [] s = s
received_from (datagram ∷ rest) s = record s { left = rest; received = s.received ++ datagram ∷ [] }

-- what a receive answers, and leaves
abbrev pub ReceivesNext : UdpState → Result (Option Arrived) IoFault → UdpState → List ℕ → Type 0
ReceivesNext before result after room =
    MatchBool (next_fails before.failing_receives before.receives)
    ((result ≡ Err Failed) × (after ≡ failed_receive before))
    (MatchResult result (λ came. (came_into room came ≡ first_of before.left)
    × (after ≡ received_from before.left (asked before))) (λ fault. ⊥))

-- the socket after an answer that failed
abbrev pub failed_answer : UdpState → UdpState
failed_answer s = record s { answers = one_more s.answers; faults = one_more s.faults }

-- the socket after an answer by which it took these replies
abbrev pub answer_of : UdpState → List Reply → UdpState
answer_of s replies = record s { taken = s.taken ++ replies; answers = one_more s.answers }

-- what an answer answers, and leaves
abbrev pub AnswersNext : UdpState → Reply → Result (Unit {0}) IoFault → UdpState → Type 0
AnswersNext before reply result after =
    MatchBool (next_fails before.failing_answers before.answers)
    ((result ≡ Err Failed) × (after ≡ failed_answer before))
    (MatchResult result (λ done. after ≡ answer_of before (reply ∷ [])) (λ fault. (fault ≡ OutOfMemory) × (after ≡ answer_of before [])))

-- a connection in memory
abbrev pub Connection : Type 0
Connection = Accepted SourceState SinkState ClockState

-- a listener in memory: the connections left, accepted and given back, each as it was then, how many are lent, the numbers
-- of the accepts that fail, how many accepts there were, and how many of them failed
pub record TcpState : Type 0 where
  pub left : List Connection
  pub accepted : List Connection
  pub ended : List Connection
  pub lent : ℕ
  pub failing_accepts : List ℕ
  pub accepts : ℕ
  pub faults : ℕ

-- what it tells
abbrev pub tcp_told : TcpState → TcpTold SourceState SinkState ClockState
tcp_told s = record { left = Some s.left; accepted = Some s.accepted; ended = Some s.ended; lent = s.lent; faults = s.faults }

-- a listener to which these connections come
abbrev pub tcp_of : List Connection → List ℕ → TcpState
tcp_of connections accepts = record {
  left = connections;
  accepted = [];
  ended = [];
  lent = 0;
  failing_accepts = accepts;
  accepts = 0;
  faults = 0;
}

-- the listener after an accept that failed
abbrev pub failed_accept : TcpState → TcpState
failed_accept s = record s { accepts = one_more s.accepts; faults = one_more s.faults }

-- the listener after an accept of the first of these connections, which are left
abbrev pub accept_from : List Connection → TcpState → TcpState
accept_from [] s = record s { accepts = one_more s.accepts }
accept_from (connection ∷ rest) s = record s {
  left = rest;
  accepted = s.accepted ++ connection ∷ [];
  lent = s.lent + 1;
  accepts = one_more s.accepts;
}

-- what an accept answers, and leaves
abbrev pub AcceptsNext : TcpState → Result (Option Connection) IoFault → TcpState → Type 0
AcceptsNext before result after =
    MatchBool (next_fails before.failing_accepts before.accepts)
    ((result ≡ Err Failed) × (after ≡ failed_accept before))
    (MatchResult result (λ given. (given ≡ first_of before.left) × (after ≡ accept_from before.left before))
    (λ fault. (fault ≡ OutOfMemory) × (after ≡ accept_from [] before)))

-- the listener after it took back a connection
abbrev pub taken_back : TcpState → Connection → TcpState
taken_back s connection = record s { ended = s.ended ++ connection ∷ []; lent = s.lent - 1 }

-- a hub in memory: the sockets and the listeners that it holds, the openings that succeeded, the ports that it got back, how
-- many are lent, the numbers of the openings that fail, how many openings there were, the count of faults, and how many openings
-- succeeded and failed
pub record HubState : Type 0 where
  pub sockets : List UdpState
  pub listeners : List TcpState
  pub openings : List Opening
  pub closed_udp : List UdpState
  pub closed_tcp : List TcpState
  pub lent_udp : ℕ
  pub lent_tcp : ℕ
  pub failing_openings : List ℕ
  pub calls : ℕ
  pub faults : ℕ
  pub opened_calls : ℕ
  pub failed_calls : ℕ

-- what it tells
abbrev pub hub_told : HubState → HubTold UdpState TcpState
hub_told s = record {
  openings = Some s.openings;
  closed_udp = Some s.closed_udp;
  closed_tcp = Some s.closed_tcp;
  lent_udp = s.lent_udp;
  lent_tcp = s.lent_tcp;
  faults = s.faults;
  opened_calls = s.opened_calls;
  failed_calls = s.failed_calls;
}

-- a socket, and a listener, that were not used yet
abbrev pub IsUnusedUdp : UdpState → Type 0
IsUnusedUdp s = IsFreshSocket (udp_told s)

abbrev pub IsUnusedTcp : TcpState → Type 0
IsUnusedTcp s = IsFreshListener (tcp_told s)

-- a hub of these ports
abbrev pub hub_of : List UdpState → List TcpState → List ℕ → HubState
hub_of sockets listeners openings = record {
  sockets = sockets;
  listeners = listeners;
  openings = [];
  closed_udp = [];
  closed_tcp = [];
  lent_udp = 0;
  lent_tcp = 0;
  failing_openings = openings;
  calls = 0;
  faults = 0;
  opened_calls = 0;
  failed_calls = 0;
}

-- the next socket, or one that holds nothing
abbrev pub next_socket : List UdpState → UdpState
next_socket [] = udp_of [] [] []
next_socket (socket ∷ sockets) = socket

-- the next listener, or one that holds nothing
abbrev pub next_listener : List TcpState → TcpState
next_listener [] = tcp_of [] []
next_listener (listener ∷ listeners) = listener

-- the next listeners, so many
abbrev pub next_listeners : ℕ → List TcpState → List TcpState
next_listeners zero listeners = []
next_listeners (suc count) listeners = next_listeners count listeners ++ next_listener (drop count listeners) ∷ []

-- the hub after an opening that failed
abbrev pub failed_opening : HubState → HubState
failed_opening s = record s { calls = one_more s.calls; faults = one_more s.faults; failed_calls = one_more s.failed_calls }

-- the hub after an opening that found no memory
abbrev pub called : HubState → HubState
called s = record s { calls = one_more s.calls }

-- the hub after it opened a socket at this address
abbrev pub socket_opened : HubState → Peer → HubState
socket_opened s at = record (called s) {
  sockets = drop 1 s.sockets;
  openings = s.openings ++ Socket at ∷ [];
  lent_udp = s.lent_udp + 1;
  opened_calls = one_more s.opened_calls;
}

-- the hub after it opened listeners of this address
abbrev pub listeners_opened : HubState → Peer → ℕ → ℕ → HubState
listeners_opened s at limit workers = record (called s) {
  listeners = drop workers s.listeners;
  openings = s.openings ++ Listeners at limit workers ∷ [];
  lent_tcp = s.lent_tcp + workers;
  opened_calls = one_more s.opened_calls;
}

-- what the opening of a socket answers, and leaves
abbrev pub OpensSocket : HubState → Peer → Result UdpState IoFault → HubState → Type 0
OpensSocket before at result after =
    MatchBool (next_fails before.failing_openings before.calls)
    ((result ≡ Err Failed) × (after ≡ failed_opening before))
    (MatchResult result (λ port. (port ≡ next_socket before.sockets) × (after ≡ socket_opened before at))
    (λ fault. (fault ≡ OutOfMemory) × (after ≡ called before)))

-- what the opening of listeners answers, and leaves, by the list of the ports that it gives
abbrev pub OpensListeners : {V : Type 0} → (V → List TcpState) → HubState → Peer → ℕ → ℕ → Result V IoFault → HubState → Type 0
OpensListeners given before at limit workers result after =
    MatchBool (next_fails before.failing_openings before.calls)
    ((result ≡ Err Failed) × (after ≡ failed_opening before))
    (MatchResult result (λ ports. (given ports ≡ next_listeners workers before.listeners)
    × (after ≡ listeners_opened before at limit workers)) (λ fault. (fault ≡ OutOfMemory) × (after ≡ called before)))

-- the count of faults after a port with this count was taken back
abbrev pub faults_behind : ℕ → ℕ → ℕ
faults_behind faults port = if nat_eq port 0 then faults else one_more faults

-- the hub after it took back a socket
abbrev pub socket_closed : HubState → UdpState → HubState
socket_closed s port = record s {
  closed_udp = s.closed_udp ++ port ∷ [];
  lent_udp = s.lent_udp - 1;
  faults = faults_behind s.faults port.faults;
}

-- the hub after it took back a listener
abbrev pub listener_closed : HubState → TcpState → HubState
listener_closed s port = record s {
  closed_tcp = s.closed_tcp ++ port ∷ [];
  lent_tcp = s.lent_tcp - 1;
  faults = faults_behind s.faults port.faults;
}
