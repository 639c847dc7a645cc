-- What the worker of a listener does with the connections that come in (RFC 1035 4.2.2, RFC 7766).
use Rattle.std.specs.Prelude.{◌≡◌, ℕ, Bool, ◌^◌, ◌≤◌, true, false, List, [], ◌∷◌, map, Option, None, Some, Result, Ok, Err}
use Rattle.std.specs.List.{sum_by}
use Rattle.dns_io.specs.declared.io_fault.IoFault.{IoFault}
use Rattle.dns_io.specs.declared.io_fault.IoFault.TheVariants as io
use Rattle.dns_io.specs.Told.{Grows, Keeps, Rose, Takes}
use Rattle.dns_edges.specs.Edges.{SourceOf, SinkOf, ClockOf}
use Rattle.dns_book.specs.declared.ask.Ask.{Ask}
use Rattle.dns_book.specs.declared.ask.Settled.{Settled}
use Rattle.dns_ports.specs.Ports.{ListenerOf}
use Rattle.dns_ports.specs.declared.port.Accepted.{Accepted}
use Rattle.dns_server_core.specs.Connections.{is_safe}
use Rattle.dns_requests.specs.declared.serve_fault.ServeFault.{ServeFault}
use Rattle.dns_requests.specs.declared.serve_fault.ServeFault.TheVariants.{OutOfMemory}
use Rattle.dns_requests.specs.Ends.{Ends}
use Rattle.dns_server.specs.Sockets.{IsAtEnd, Post}

-- an accepted connection: as it came, as it was handed back, and the answer of serving it, where it was served
pub record HandedBack (R W C : Type 0) : Type 0 where
  pub came : Accepted R W C
  pub back : Accepted R W C
  pub answer : Option (Result ℕ ServeFault)

-- 1 where serving it found no memory
abbrev pub unmet_by : Option (Result ℕ ServeFault) → ℕ
unmet_by (Some (Err OutOfMemory)) = 1
unmet_by _ = 0

-- how many found no memory
abbrev pub unmet : {R W C : Type 0} → List (HandedBack R W C) → ℕ
unmet = sum_by (λ one. unmet_by one.answer)

-- the meanings of a handler, and of the source, the sink and the clock of a connection
module _ {H R W C : Type 0} (serves : H → Ask → Settled → H → Type 0) (skips : H → H → Type 0) (source : SourceOf R)
    (sink : SinkOf W) (clock : ClockOf C) (limit : ℕ) where
  -- a connection from a safe peer was served, with this answer, under the limit and at most 2^32 reads
  pub record IsServed (before : H) (came back : Accepted R W C) (answer : Result ℕ ServeFault) (after : H) : Type 0 where
    pub safe : is_safe came.peer ≡ true
    pub peer : back.peer ≡ came.peer
    pub ends : Ends serves skips source sink clock (record { peer = came.peer; limit = limit; reads = 2 ^ 32 })
        (record { handler = before; source = came.input; sink = came.output; clock = came.time })
        (record { handler = after; source = back.input; sink = back.output; clock = back.time }) answer
    pub unflushed : Keeps (sink.told came.output).flushed (sink.told back.output).flushed
    pub source_later : (source.told came.input).faults ≤ (source.told back.input).faults
    pub sink_later : (sink.told came.output).faults ≤ (sink.told back.output).faults

  -- a connection was served with some answer; the flag says that memory was found for it
  pub record Serves (before : H) (came : Accepted R W C) (after : H) (back : Accepted R W C) (found : Bool) : Type 0 where
    pub answer : Result ℕ ServeFault
    pub served : IsServed before came back answer after
    pub met : found ≡ true → unmet_by (Some answer) ≡ 0

  -- one from a peer that is not safe was left alone
  pub record IsUntouched (before : H) (came back : Accepted R W C) (after : H) : Type 0 where
    pub unsafe : is_safe came.peer ≡ false
    pub same : back ≡ came
    pub still : after ≡ before

  -- what became of a connection, by the answer of serving it
  abbrev pub TreatsBy : H → Accepted R W C → Accepted R W C → Option (Result ℕ ServeFault) → H → Type 0
  TreatsBy before came back None after = IsUntouched before came back after
  TreatsBy before came back (Some answer) after = IsServed before came back answer after

  -- one connection after the other
  abbrev pub Run : H → List (HandedBack R W C) → H → Type 0
  Run before [] after = after ≡ before
  Run before (one ∷ others) after = (between : H) × TreatsBy before one.came one.back one.answer between × Run between others after

-- the meanings of a handler, and of a listener and its connections
module _ {H T R W C : Type 0} (serves : H → Ask → Settled → H → Type 0) (skips : H → H → Type 0) (listener : ListenerOf T R W C)
    (limit : ℕ) (before after : Post H T) where
  -- no accepting failed
  abbrev pub IsCalm : Type 0
  IsCalm = (listener.told after.port).faults ≡ (listener.told before.port).faults

  -- a connection was served or left alone, and handed back; the flag says that memory was found for it
  pub record Attends (came : Accepted R W C) (found : Bool) : Type 0 where
    pub back : Accepted R W C
    pub answer : Option (Result ℕ ServeFault)
    pub treated : TreatsBy serves skips listener.input listener.output listener.time limit before.handler came back answer after.handler
    pub unread : Keeps (listener.told before.port).left (listener.told after.port).left
    pub unaccepted : Keeps (listener.told before.port).accepted (listener.told after.port).accepted
    pub handed : Grows (listener.told before.port).ended (listener.told after.port).ended (back ∷ [])
    pub calm : IsCalm
    pub met : found ≡ true → unmet_by answer ≡ 0

  -- each connection that was accepted was served or left alone, and handed back
  pub record Attending : Type 0 where
    pub handled : List (HandedBack R W C)
    pub run : Run serves skips listener.input listener.output listener.time limit before.handler handled after.handler
    pub came : Takes (listener.told before.port).left (listener.told after.port).left (map (λ one. one.came) handled)
    pub noted : Grows (listener.told before.port).accepted (listener.told after.port).accepted (map (λ one. one.came) handled)
    pub handed : Grows (listener.told before.port).ended (listener.told after.port).ended (map (λ one. one.back) handled)
    pub later : (listener.told before.port).faults ≤ (listener.told after.port).faults

  -- why a worker ends, by its answer: nothing is left, and memory was found for all; or an accepting failed. Where it did not end by
  -- that, none failed, and what was served counted nothing here
  abbrev pub EndsBy : List (HandedBack R W C) → Result (Unit {0}) IoFault → Type 0
  EndsBy handled (Ok done) = IsAtEnd (listener.told after.port).left × (unmet handled ≡ 0) × IsCalm
  EndsBy handled (Err io.Failed) = Rose (listener.told before.port).faults (listener.told after.port).faults
  EndsBy handled (Err io.OutOfMemory) = IsCalm

  -- what a listener's worker did, with its answer
  pub record WorksListener (result : Result (Unit {0}) IoFault) : Type 0 where
    pub work : Attending
    pub ends : EndsBy work.handled result
