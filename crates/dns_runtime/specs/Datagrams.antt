-- What sockets of datagrams and runtimes tell of themselves, and what a call of one does to that.
use Rattle.std.specs.Prelude.{◌≡◌, ℕ, ◌≤◌, List, [], ◌∷◌, length, take, Option, Result, IfOk, OnErr}
use Rattle.dns_io.specs.Told.{Told, Keeps, Grows}
use Rattle.dns_io.specs.declared.io_fault.IoFault.{IoFault}
use Rattle.dns_io.specs.declared.peer.Peer.{Peer}
use Rattle.dns_edges.specs.Edges.{HasCause}

-- the next datagram came from this sender, and these are its bytes, as far as there was room
abbrev pub TakesDatagram : ℕ → Option (List (List ℕ × Peer)) → Option (List (List ℕ × Peer)) → List ℕ → Peer → Type 0
TakesDatagram room before now bytes sender =
    Told (λ left rest. (whole : List ℕ) × (left ≡ (whole, sender) ∷ rest) × (bytes ≡ take room whole)) before now

-- a socket: the datagrams that are left, each with its sender, and those that were sent, each with its receiver, where they are told,
-- and how many calls failed
pub record SocketTold : Type 0 where
  pub left : Option (List (List ℕ × Peer))
  pub sent : Option (List (List ℕ × Peer))
  pub faults : ℕ

-- one receiving, and the room as it left it: the next datagram stands at its front, as far as there was room; after an error none was
-- taken
pub record Receives (before after : SocketTold) (room : List ℕ) (result : Result (ℕ × Peer) IoFault) : Type 0 where
  pub count : IfOk result (λ came. came.0 ≤ length room)
  pub given : IfOk result (λ came. TakesDatagram (length room) before.left after.left (take came.0 room) came.1)
  pub kept : OnErr result (Keeps before.left after.left)
  pub unsent : Keeps before.sent after.sent
  pub cause : HasCause before.faults after.faults result

-- one sending of these bytes: some from their front went as one datagram; after an error none was sent
pub record Sends (before after : SocketTold) (bytes : List ℕ) (to : Peer) (result : Result ℕ IoFault) : Type 0 where
  pub count : IfOk result (λ n. n ≤ length bytes)
  pub grows : IfOk result (λ n. Grows before.sent after.sent ((take n bytes, to) ∷ []))
  pub kept : OnErr result (Keeps before.sent after.sent)
  pub unread : Keeps before.left after.left
  pub cause : HasCause before.faults after.faults result

-- what is known of a runtime: how many calls failed, what a handle of it is, and what connecting to a server, from an address where one
-- is given, within a limit in milliseconds where there is one, and binding an address, for talking to a server, may answer, and how they
-- may leave it
pub record RuntimeOf (P Handle Udp Tcp : Type 0) : Type 1 where
  pub faults : P → ℕ
  pub handles : P → Handle → Type 0
  pub connects : P → Peer → Option Peer → Option ℕ → Result Tcp IoFault → P → Type 0
  pub binds : P → Peer → Peer → Result Udp IoFault → P → Type 0
