-- What arrives at a port, and what a call of a port or a hub does to what it tells of itself.
use Rattle.std.specs.Prelude.{◌≡◌, ◌≤◌, ◌<◌, ◌+◌, ◌^◌, ℕ, List, [], ◌∷◌, take, Option, Some, None, IfSome, Result, Ok, Err, IfOk, OnOk, OnErr}
use Rattle.dns_io.specs.declared.io_fault.IoFault.{IoFault}
use Rattle.dns_io.specs.Told.{Told, Keeps, Takes, Grows, Rose, one_more, counted}
use Rattle.dns_io.specs.declared.peer.Peer.{Peer}
use Rattle.dns_edges.specs.Edges.{SourceOf, SinkOf, ClockOf, HasCause}
use Rattle.dns_ports.specs.declared.port.Accepted.{Accepted}
use Rattle.dns_ports.specs.declared.port.Arrived.{Arrived}
use Rattle.dns_ports.specs.declared.hub.Opening.{Opening}

-- a datagram: its bytes, its sender, and the moment at which it came
abbrev pub Datagram : Type 0
Datagram = List ℕ × Peer × ℕ

-- a reply: its bytes, and its receiver
abbrev pub Reply : Type 0
Reply = List ℕ × Peer

-- the datagram that came into a room, where one came
abbrev pub came_into : List ℕ → Option Arrived → Option Datagram
came_into room None = None
came_into room (Some arrived) = Some (take arrived.len room, arrived.from, arrived.at)

-- the next of what was left was given, and none exactly where none was left
abbrev pub GivesNext : {A : Type 0} → Option (List A) → Option (List A) → Option A → Type 0
GivesNext before now None = Told (λ left rest. (left ≡ []) × (rest ≡ [])) before now
GivesNext before now (Some item) = Takes before now (item ∷ [])

-- what was given was added at the end, where something was
abbrev pub GrowsBy : {A : Type 0} → Option (List A) → Option (List A) → Option A → Type 0
GrowsBy before now None = Keeps before now
GrowsBy before now (Some item) = Grows before now (item ∷ [])

-- how many items a call gave
abbrev pub given_by : {A E : Type 0} → Result (Option A) E → ℕ
given_by (Ok (Some item)) = 1
given_by (Ok None) = 0
given_by (Err fault) = 0

-- how many a call gave that gives so many where it does not fail
abbrev pub if_given : {A E : Type 0} → ℕ → Result A E → ℕ
if_given count (Ok given) = count
if_given count (Err fault) = 0

-- how many calls gave what was asked for, after one with this result
abbrev pub made_by : {A E : Type 0} → ℕ → Result A E → ℕ
made_by count (Ok given) = one_more count
made_by count (Err fault) = count

-- it is empty, where it is told
abbrev pub IsEmpty : {A : Type 0} → Option (List A) → Type 0
IsEmpty None = Unit {0}
IsEmpty (Some items) = items ≡ []

-- a socket: the datagrams that are left and those that were received, the answers that it took, each in order, where they are told, and
-- how many calls failed
pub record UdpTold : Type 0 where
  pub left : Option (List Datagram)
  pub received : Option (List Datagram)
  pub taken : Option (List Reply)
  pub faults : ℕ

-- one receive, and the room as it left it: the next datagram stands at its front, none exactly where none is left; after an error none
-- was taken. It is counted once where it failed, and else not
pub record Receives (before after : UdpTold) (room : List ℕ) (result : Result (Option Arrived) IoFault) : Type 0 where
  pub size : IfOk result (λ came. IfSome came (λ arrived. arrived.len ≤ 65535))
  pub moment : IfOk result (λ came. IfSome came (λ arrived. arrived.at < 2 ^ 47))
  pub given : IfOk result (λ came. GivesNext before.left after.left (came_into room came))
  pub grows : IfOk result (λ came. GrowsBy before.received after.received (came_into room came))
  pub kept : OnErr result (Keeps before.left after.left)
  pub unreceived : OnErr result (Keeps before.received after.received)
  pub unanswered : Keeps before.taken after.taken
  pub counted : after.faults ≡ counted before.faults result

-- one answer: it was taken; after an error none was. It is counted once where it failed, and else not
pub record Answers (before after : UdpTold) (reply : Reply) (result : Result (Unit {0}) IoFault) : Type 0 where
  pub grows : OnOk result (Grows before.taken after.taken (reply ∷ []))
  pub kept : OnErr result (Keeps before.taken after.taken)
  pub unread : Keeps before.left after.left
  pub unreceived : Keeps before.received after.received
  pub counted : after.faults ≡ counted before.faults result

-- a listener: the connections that are left, those that were accepted and those that were given back, each as it was then, in order,
-- where they are told, how many were accepted and not given back, and how many calls failed
pub record TcpTold (In Out Time : Type 0) : Type 0 where
  pub left : Option (List (Accepted In Out Time))
  pub accepted : Option (List (Accepted In Out Time))
  pub ended : Option (List (Accepted In Out Time))
  pub lent : ℕ
  pub faults : ℕ

-- one accept: the next connection was given, none exactly where none is left; after an error none was taken
pub record Accepts {In Out Time : Type 0} (before after : TcpTold In Out Time)
    (result : Result (Option (Accepted In Out Time)) IoFault) : Type 0 where
  pub given : IfOk result (GivesNext before.left after.left)
  pub grows : IfOk result (GrowsBy before.accepted after.accepted)
  pub kept : OnErr result (Keeps before.left after.left)
  pub unaccepted : OnErr result (Keeps before.accepted after.accepted)
  pub unended : Keeps before.ended after.ended
  pub lends : after.lent ≡ before.lent + given_by result
  pub cause : HasCause before.faults after.faults result

-- a connection was given back
pub record TakesBack {In Out Time : Type 0} (before after : TcpTold In Out Time) (connection : Accepted In Out Time) : Type 0 where
  pub grows : Grows before.ended after.ended (connection ∷ [])
  pub kept : Keeps before.left after.left
  pub unaccepted : Keeps before.accepted after.accepted
  pub lends : after.lent + 1 ≡ before.lent
  pub calm : after.faults ≡ before.faults

-- what is known of a listener and of the parts of its connections
pub record ListenerOf (T In Out Time : Type 0) : Type 1 where
  pub told : T → TcpTold In Out Time
  pub input : SourceOf In
  pub output : SinkOf Out
  pub time : ClockOf Time

abbrev pub listener_of : {T In Out Time : Type 0} → (T → TcpTold In Out Time)
    → SourceOf In → SinkOf Out → ClockOf Time → ListenerOf T In Out Time
listener_of told input output time = record { told = told; input = input; output = output; time = time }

-- a hub: the openings that succeeded, the sockets and the listeners that were taken back, each as it was then, in order, where they are
-- told, how many of each were opened and not taken back, and its count of faults; and, whatever the hub is over, how many openings
-- succeeded and how many failed
pub record HubTold (Udp Tcp : Type 0) : Type 0 where
  pub openings : Option (List Opening)
  pub closed_udp : Option (List Udp)
  pub closed_tcp : Option (List Tcp)
  pub lent_udp : ℕ
  pub lent_tcp : ℕ
  pub faults : ℕ
  pub opened_calls : ℕ
  pub failed_calls : ℕ

-- an opening of this kind, which gives so many sockets and so many listeners where it succeeds; after an error none was opened. It is
-- counted once among those that succeeded, or among those that failed, and in neither where it wanted memory
pub record Opens {A Udp Tcp : Type 0} (before after : HubTold Udp Tcp) (opening : Opening) (sockets listeners : ℕ)
    (result : Result A IoFault) : Type 0 where
  pub grows : OnOk result (Grows before.openings after.openings (opening ∷ []))
  pub kept : OnErr result (Keeps before.openings after.openings)
  pub udp_kept : Keeps before.closed_udp after.closed_udp
  pub tcp_kept : Keeps before.closed_tcp after.closed_tcp
  pub udp_lent : after.lent_udp ≡ before.lent_udp + if_given sockets result
  pub tcp_lent : after.lent_tcp ≡ before.lent_tcp + if_given listeners result
  pub cause : HasCause before.faults after.faults result
  pub made : after.opened_calls ≡ made_by before.opened_calls result
  pub failing : after.failed_calls ≡ counted before.failed_calls result

-- the count of a hub that took back a port with this count: it rose where that is above 0, and only there
pub record CountsPort (port before now : ℕ) : Type 0 where
  pub later : before ≤ now
  pub raised : 0 < port → Rose before now
  pub calm : port ≡ 0 → now ≡ before

-- a socket with this count was taken back, which is no opening
pub record ClosesSocket {Udp Tcp : Type 0} (before after : HubTold Udp Tcp) (socket : Udp) (faults : ℕ) : Type 0 where
  pub grows : Grows before.closed_udp after.closed_udp (socket ∷ [])
  pub kept : Keeps before.openings after.openings
  pub tcp_kept : Keeps before.closed_tcp after.closed_tcp
  pub udp_lent : after.lent_udp + 1 ≡ before.lent_udp
  pub tcp_lent : after.lent_tcp ≡ before.lent_tcp
  pub cause : CountsPort faults before.faults after.faults
  pub none_made : after.opened_calls ≡ before.opened_calls
  pub none_failed : after.failed_calls ≡ before.failed_calls

-- a listener with this count was taken back, which is no opening
pub record ClosesListener {Udp Tcp : Type 0} (before after : HubTold Udp Tcp) (listener : Tcp) (faults : ℕ) : Type 0 where
  pub grows : Grows before.closed_tcp after.closed_tcp (listener ∷ [])
  pub kept : Keeps before.openings after.openings
  pub udp_kept : Keeps before.closed_udp after.closed_udp
  pub udp_lent : after.lent_udp ≡ before.lent_udp
  pub tcp_lent : after.lent_tcp + 1 ≡ before.lent_tcp
  pub cause : CountsPort faults before.faults after.faults
  pub none_made : after.opened_calls ≡ before.opened_calls
  pub none_failed : after.failed_calls ≡ before.failed_calls

-- a port that was not used yet: nothing came to it, it took nothing, and no call failed
pub record IsFreshSocket (told : UdpTold) : Type 0 where
  pub none_came : IsEmpty told.received
  pub none_taken : IsEmpty told.taken
  pub no_fault : told.faults ≡ 0

pub record IsFreshListener {In Out Time : Type 0} (told : TcpTold In Out Time) : Type 0 where
  pub none_came : IsEmpty told.accepted
  pub none_ended : IsEmpty told.ended
  pub no_fault : told.faults ≡ 0
