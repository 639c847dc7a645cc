-- What the source of packets in memory does at each call.
use Rattle.std.specs.Prelude.{◌≡◌, ℕ, List, [], ◌∷◌, Option, Some, None, Result, Ok, Err, MatchBool}
use Rattle.dns_io.specs.Told.{one_more}
use Rattle.dns_edges.specs.Memory.{next_fails}
use Rattle.dns_io.specs.declared.io_fault.IoFault.{IoFault}
use Rattle.dns_io.specs.declared.io_fault.IoFault.TheVariants.{Failed}
use Rattle.dns_multicast.specs.declared.packet.Packet.{Packet}
use Rattle.dns_multicast.specs.Polls.{PacketsTold}
use Rattle.dns_transport.specs.declared.poll.Poll.{Poll}
use Rattle.dns_transport.specs.declared.poll.Poll.TheVariants.{Ready, Pending}

-- a source in memory: the packets left, the numbers of the calls that fail and of those that find nothing yet, how many
-- calls there were, and how many of them failed
pub record PacketsState : Type 0 where
  pub left : List Packet
  pub failing : List ℕ
  pub pending : List ℕ
  pub calls : ℕ
  pub faults : ℕ

-- what it tells
abbrev pub packets_told : PacketsState → PacketsTold
packets_told s = record { left = Some s.left; faults = s.faults }

-- the source after a call
abbrev pub called : PacketsState → PacketsState
called s = record s { calls = one_more s.calls }

-- the first packet is given, or the end where there is none
abbrev pub GivesFirst : List Packet → Poll (Option (Result Packet IoFault)) → List Packet → Type 0
GivesFirst [] result rest = (result ≡ Ready None) × (rest ≡ [])
GivesFirst (packet ∷ packets) result rest = (result ≡ Ready (Some (Ok packet))) × (rest ≡ packets)

-- what a call answers, and leaves
abbrev pub PacketNext : PacketsState → Poll (Option (Result Packet IoFault)) → PacketsState → Type 0
PacketNext before result after =
    MatchBool (next_fails before.failing before.calls)
    ((result ≡ Ready (Some (Err Failed))) × (after ≡ record (called before) { faults = one_more before.faults }))
    (MatchBool (next_fails before.pending before.calls)
    ((result ≡ Pending) × (after ≡ called before))
    (GivesFirst before.left result after.left × (after ≡ record (called before) { left = after.left })))
