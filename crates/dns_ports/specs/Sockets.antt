-- What the ports over the operating system count, what an error of a call means to them, and how long they wait.
use Rattle.std.specs.Prelude.{◌≡◌, ◌<◌, ◌≤◌, ◌+◌, ◌-◌, ◌*◌, ◌^◌, ℕ, nat_eq, if◌then◌else◌, min, List, length, None, Option, Result, Ok, Err}
use Rattle.std.specs.Io.KnownBytes.{ReadConsumes, Keeps as KeepsKnown}
use Rattle.std.specs.declared.io.ErrorKind.{ErrorKind}
use Rattle.std.specs.declared.io.ErrorKind.TheVariants as kind
use Rattle.dns_io.specs.declared.io_fault.IoFault.{IoFault}
use Rattle.dns_io.specs.declared.io_fault.IoFault.TheVariants.{Failed, OutOfMemory}
use Rattle.dns_io.specs.Told.{counted}
use Rattle.dns_io.specs.Faults.{fault_of}
use Rattle.dns_edges.specs.Edges.{SourceTold, SinkTold, wanted}
use Rattle.dns_network.specs.declared.refused.Refused.{Refused}
use Rattle.dns_network.specs.declared.refused.Refused.TheVariants as refusal
use Rattle.dns_ports.specs.Passed.{SocketSeen}
use Rattle.dns_ports.specs.Ports.{TcpTold, HubTold}
use Rattle.dns_ports.specs.declared.stop_token.Waited.{Waited}
use Rattle.dns_ports.specs.declared.stop_token.Waited.TheVariants.{Came, Stopped}

-- a listener: how many connections are lent, and how many calls failed
pub record ListenerCounts : Type 0 where
  pub lent : ℕ
  pub faults : ℕ

-- a hub: how many sockets and how many listeners are lent, its count of faults, and how many openings succeeded and failed
pub record HubCounts : Type 0 where
  pub lent_udp : ℕ
  pub lent_tcp : ℕ
  pub faults : ℕ
  pub opened_calls : ℕ
  pub failed_calls : ℕ

-- what is sent over a connection: how many writes failed, and how many wanted memory
pub record OutputCounts : Type 0 where
  pub faults : ℕ
  pub wants : ℕ

-- what is told of a listener and of a hub: their counts alone. The two directions of a connection are their counts, and its clock is its
-- last reading
abbrev pub untold_listener : ListenerCounts → TcpTold ℕ OutputCounts ℕ
untold_listener p = record { left = None; accepted = None; ended = None; lent = p.lent; faults = p.faults }

abbrev pub untold_hub : HubCounts → HubTold SocketSeen ListenerCounts
untold_hub h = record {
  openings = None;
  closed_udp = None;
  closed_tcp = None;
  lent_udp = h.lent_udp;
  lent_tcp = h.lent_tcp;
  faults = h.faults;
  opened_calls = h.opened_calls;
  failed_calls = h.failed_calls;
}

abbrev pub untold_input : ℕ → SourceTold
untold_input faults = record { left = None; faults = faults }

abbrev pub untold_output : OutputCounts → SinkTold
untold_output o = record { taken = None; flushed = None; faults = o.faults }

-- a read raises the count by one where it fails, and else not
abbrev pub ReadsCounted : ℕ → ℕ → Result (List ℕ) IoFault → ℕ → Type 0
ReadsCounted before room given after = after ≡ counted before given

-- so does a write, and one that wants memory the other count
abbrev pub WritesCounted : OutputCounts → List ℕ → Result ℕ IoFault → OutputCounts → Type 0
WritesCounted before bytes result after = (after.faults ≡ counted before.faults result) × (after.wants ≡ wanted before.wants result)

-- whether an accept is made again after an error of this kind, or the fault that it answers. It goes on where it was
-- interrupted, where a wait ended with nothing, and where one peer is gone, or cannot be reached, which says nothing of the others
-- (accept(2))
abbrev pub arrival_after : ErrorKind → Result (Unit {0}) IoFault
arrival_after kind.Interrupted = Ok tt
arrival_after kind.WouldBlock = Ok tt
arrival_after kind.TimedOut = Ok tt
arrival_after kind.ConnectionAborted = Ok tt
arrival_after kind.ConnectionReset = Ok tt
arrival_after kind.ConnectionRefused = Ok tt
arrival_after kind.HostUnreachable = Ok tt
arrival_after kind.NetworkUnreachable = Ok tt
arrival_after kind.NetworkDown = Ok tt
arrival_after other = Err (fault_of other)

-- whether the next connection is taken where one was accepted and could not be made ready, or the fault that the accept answers: the
-- peer may have closed it by then
abbrev pub ready_after : ErrorKind → Result (Unit {0}) IoFault
ready_after kind.NotConnected = Ok tt
ready_after kind.InvalidInput = Ok tt
ready_after other = arrival_after other

-- the fault for a call that a network refused: want of means is want of memory, and whatever else a failed call
abbrev pub fault_for : Refused → IoFault
fault_for refusal.Wanting = OutOfMemory
fault_for other = Failed

-- whether a sending of a datagram is made again, or the fault that it answers
abbrev pub sending_after : Refused → Result (Unit {0}) IoFault
sending_after refusal.Interrupted = Ok tt
sending_after other = Err (fault_for other)

-- a datagram goes out whole, or the sending failed
abbrev pub sent_whole : ℕ → ℕ → Result (Unit {0}) IoFault
sent_whole sent size = if nat_eq sent size then Ok tt else Err Failed

-- how many waits are left after one ended with nothing: behind the last one the call fails
abbrev pub waits_behind : ℕ → Result ℕ IoFault
waits_behind left = if nat_eq (left - 1) 0 then Err Failed else Ok (left - 1)

-- how many waits are left to a read or a write of a connection after an error of this kind, or the fault that it answers. One that was
-- interrupted waited for nothing
abbrev pub waits_after : ErrorKind → ℕ → Result ℕ IoFault
waits_after kind.Interrupted left = Ok left
waits_after kind.WouldBlock left = waits_behind left
waits_after kind.TimedOut left = waits_behind left
waits_after other left = Err (fault_of other)

-- this holds of what came, where something came before the token was stopped
abbrev pub IfCame : {T : Type 0} → Waited T → (T → Type 0) → Type 0
IfCame (Came it) P = P it
IfCame (Stopped seen) P = Unit {0}

-- what a read of a connection did, which waited for a byte: it gave some, or none at the end; or the token was stopped, or it failed,
-- and nothing was read
abbrev pub ReadsWaiting : Option (List ℕ) → Option (List ℕ) → Result (Waited ℕ) IoFault → List ℕ → Type 0
ReadsWaiting before after (Ok (Came count)) room = (count ≤ length room) × ReadConsumes {E = IoFault} before after (Ok count) room
ReadsWaiting before after (Ok (Stopped seen)) room = KeepsKnown before after
ReadsWaiting before after (Err fault) room = KeepsKnown before after

-- the answer of such a read: a connection ends where its token is stopped
abbrev pub heard : Result (Waited ℕ) IoFault → Result ℕ IoFault
heard (Ok (Came count)) = Ok count
heard (Ok (Stopped seen)) = Ok 0
heard (Err fault) = Err fault

-- how long one wait is at a port, in milliseconds, and at most at a connection
abbrev pub one_wait : ℕ
one_wait = 100

-- how the reads and the writes of a connection wait, in milliseconds, and in numbers of waits: so many that the limit is over, and no
-- more than are needed; without a limit a read goes on, and a write gives up after 5 seconds
pub record WaitsFor (limit wait reads writes : ℕ) : Type 0 where
  pub some : 0 < wait
  pub most : wait ≤ one_wait
  pub whole : wait ≡ (if nat_eq limit 0 then one_wait else min limit one_wait)
  pub endless : limit ≡ 0 → (reads ≡ 2 ^ 64 - 1) × (wait * writes ≡ 5000)
  pub long : 0 < limit → limit ≤ wait * reads
  pub short : 0 < limit → wait * reads < limit + wait
  pub alike : 0 < limit → writes ≡ reads
