-- What the socket in memory does at each call.
use Rattle.std.specs.Prelude.{◌≡◌, ℕ, List, [], ◌∷◌, ◌++◌, length, Some, Result, Err, MatchBool, MatchResult}
use Rattle.dns_io.specs.Told.{one_more}
use Rattle.dns_edges.specs.Memory.{next_fails}
use Rattle.dns_io.specs.declared.io_fault.IoFault.{IoFault}
use Rattle.dns_io.specs.declared.io_fault.IoFault.TheVariants.{Failed, OutOfMemory}
use Rattle.dns_io.specs.declared.peer.Peer.{Peer}
use Rattle.dns_runtime.specs.Datagrams.{SocketTold}

-- a socket in memory: the datagrams left, those that were sent, the numbers of the calls that fail, how many calls there
-- were, and how many of them failed
pub record SocketState : Type 0 where
  pub left : List (List ℕ × Peer)
  pub sent : List (List ℕ × Peer)
  pub failing : List ℕ
  pub calls : ℕ
  pub faults : ℕ

-- what it tells
abbrev pub socket_told : SocketState → SocketTold
socket_told s = record { left = Some s.left; sent = Some s.sent; faults = s.faults }

-- the socket after a call
abbrev pub called : SocketState → SocketState
called s = record s { calls = one_more s.calls }

-- the socket after a call that failed
abbrev pub raised : SocketState → SocketState
raised s = record s { calls = one_more s.calls; faults = one_more s.faults }

-- the next datagram comes, whatever of it there is room for; none left is a fault
abbrev pub ReceivesFirst : SocketState → Result (ℕ × Peer) IoFault → SocketState → List (List ℕ × Peer) → Type 0
ReceivesFirst before result after [] = (result ≡ Err Failed) × (after ≡ raised before)
ReceivesFirst before result after (datagram ∷ rest) = MatchResult result (λ came. (came.1 ≡ datagram.1) × (after ≡ record (called before) { left = rest })) (λ fault. ⊥)

-- what a receiving answers, and leaves
abbrev pub ReceivesNext : SocketState → Result (ℕ × Peer) IoFault → SocketState → Type 0
ReceivesNext before result after =
    MatchBool (next_fails before.failing before.calls)
    ((result ≡ Err Failed) × (after ≡ raised before))
    (ReceivesFirst before result after before.left)

-- what a sending answers, and leaves
abbrev pub SendsNext : SocketState → List ℕ → Peer → Result ℕ IoFault → SocketState → Type 0
SendsNext before bytes to result after =
    MatchBool (next_fails before.failing before.calls)
    ((result ≡ Err Failed) × (after ≡ raised before))
    (MatchResult result
    (λ count. (count ≡ length bytes) × (after ≡ record (called before) { sent = before.sent ++ (bytes, to) ∷ [] }))
    (λ fault. (fault ≡ OutOfMemory) × (after ≡ called before)))
