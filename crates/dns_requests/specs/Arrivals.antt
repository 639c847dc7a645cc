-- What a connection brings in, read by read (RFC 1035 4.2.2, RFC 7766 6.2, 8, RFC 9210 4.2).
use Rattle.std.specs.Prelude.{◌≡◌, ◌⊎◌, ℕ, ◌≤◌, zero, suc, true, List, [], ◌++◌, length, map, Ok, Err}
use Rattle.std.specs.List.{AllByRecursion}
use Rattle.dns_io.specs.declared.peer.Peer.{Peer}
use Rattle.dns_io.specs.declared.peer.Protocol.TheVariants.{Tcp}
use Rattle.dns_io.specs.declared.io_fault.IoFault.TheVariants as io
use Rattle.dns_io.specs.Told.{Takes, EndsAt, Rose}
use Rattle.dns_edges.specs.Listening.{Arrival, IsPiece, Listens, bytes_of, room}
use Rattle.dns_edges.specs.Edges.{SourceOf, ClockOf}
use Rattle.dns_book.specs.declared.ask.Ask.{Ask}
use Rattle.dns_requests.specs.declared.serve_fault.ServeFault.{ServeFault}
use Rattle.dns_requests.specs.declared.serve_fault.ServeFault.TheVariants.{Read, OutOfMemory}
use Rattle.dns_server_core.specs.Connections.{Connection, completed, in_time, moment_at, most_messages, new_connection}
use Rattle.dns_server_core.specs.FrameRuns.{first_messages}

-- a connection at its first reading, from which its time runs
abbrev pub opened : Peer → ℕ → ℕ → Connection
opened peer limit began = new_connection 0 peer limit began

-- a message of a connection, as it is handed over
abbrev pub ask_at : Peer → ℕ → List ℕ → Ask
ask_at peer at message = record { bytes = message; source = peer; protocol = Tcp; at = at; client = 0 }

-- the messages that the first reads complete, each with the reading of the read that completes it
unfoldable pub asks_through : Connection → List Arrival → ℕ → List Ask
asks_through c arrivals zero = []
asks_through c arrivals (suc i) = asks_through c arrivals i ++ map (ask_at c.peer (moment_at arrivals i)) (completed c arrivals i)

-- those of all
abbrev pub asks_of : Connection → List Arrival → List Ask
asks_of c arrivals = asks_through c arrivals (length arrivals)

-- what was read, each read in time, and none behind the last message that a connection may have: the first reading of the clock, and
-- then the reads, a reading behind each of them. However their bytes were cut, the messages are the first frames of all of them
pub record Hears {S C : Type 0} (source : SourceOf S) (clock : ClockOf C) (peer : Peer) (limit : ℕ) (s : S) (c : C) (heard : S)
    (ticked : C) : Type 0 where
  pub began : ℕ
  pub arrivals : List Arrival
  pub pieces : AllByRecursion (λ a. IsPiece a.piece) arrivals
  pub in_time : in_time (opened peer limit began) arrivals (length arrivals) ≡ true
  pub started : C
  pub first : clock.ticks c began started
  pub made : Listens source clock s started arrivals heard ticked
  pub taken : Takes (source.told s).left (source.told heard).left (bytes_of arrivals)
  pub calm : (source.told heard).faults ≡ (source.told s).faults
  pub messages : map (λ a. a.bytes) (asks_of (opened peer limit began) arrivals) ≡ first_messages most_messages (bytes_of arrivals)

-- the messages of what was read
abbrev pub heard : {S C : Type 0} → {source : SourceOf S} → {clock : ClockOf C}
    → {peer : Peer} → {limit : ℕ} → {s : S} → {c : C} → {source_now : S} → {clock_now : C}
    → Hears source clock peer limit s c source_now clock_now → List Ask
heard {peer = peer} {limit = limit} h = asks_of (opened peer limit h.began) h.arrivals

-- one read that was made: these bytes were taken, none only at the end
pub record Receives {S : Type 0} (source : SourceOf S) (before after : S) (piece : List ℕ) : Type 0 where
  pub most : length piece ≤ room
  pub made : source.reads before room (Ok piece) after
  pub taken : Takes (source.told before).left (source.told after).left piece
  pub end : EndsAt (source.told before).left (source.told after).left (length piece)
  pub calm : (source.told after).faults ≡ (source.told before).faults

-- no bytes came: the read that was made failed, or found no memory, if one was made at all
abbrev pub ReceivesNot : {S : Type 0} → SourceOf S → S → S → ServeFault → Type 0
ReceivesNot source before after Read =
    source.reads before room (Err io.Failed) after × Rose (source.told before).faults (source.told after).faults
ReceivesNot source before after OutOfMemory =
    ((after ≡ before) ⊎ source.reads before room (Err io.OutOfMemory) after) × ((source.told after).faults ≡ (source.told before).faults)
ReceivesNot source before after _ = ⊥
