-- What the worker of a socket does with the datagrams that come in (RFC 1035 4.2.1).
use Rattle.std.specs.Prelude.{◌≡◌, ◌⊎◌, ◌+◌, ℕ, zero, suc, Bool, true, false, List, [], ◌∷◌, map, Option, None, Some, IsSome, IfSome, Result, Ok, Err}
use Rattle.std.specs.List.{flat_map, sum_by}
use Rattle.dns_io.specs.declared.io_fault.IoFault.{IoFault}
use Rattle.dns_io.specs.declared.io_fault.IoFault.TheVariants.{Failed, OutOfMemory}
use Rattle.dns_io.specs.declared.peer.Peer.{Peer}
use Rattle.dns_io.specs.declared.peer.Protocol.TheVariants.{Udp}
use Rattle.dns_io.specs.Told.{Grows, Keeps, Takes, one_more}
use Rattle.dns_book.specs.declared.ask.Ask.{Ask}
use Rattle.dns_book.specs.declared.ask.Settled.{Settled}
use Rattle.dns_ports.specs.Ports.{Datagram, Reply, UdpTold}

-- what became of a datagram: it was settled, and the socket took its reply, where one was owed; or the socket refused the reply;
-- or no memory was found to settle it
pub data Fate : Type 0 where
  Answered : Settled → Fate
  Refused : Settled → IoFault → Fate
  Skipped : Fate

-- a datagram that was received, and what became of it
pub record Handled : Type 0 where
  pub datagram : Datagram
  pub fate : Fate

-- a datagram as it is handed over
abbrev pub ask_for : Datagram → Ask
ask_for d = record { bytes = d.0; source = d.1; protocol = Udp; at = d.2; client = 0 }

-- a reply that was taken for this peer, where one was owed
abbrev pub answer_to : Peer → Option (List ℕ) → List Reply
answer_to peer None = []
answer_to peer (Some bytes) = (bytes, peer) ∷ []

-- what the socket took for it
abbrev pub taken_by : Peer → Fate → List Reply
taken_by peer (Answered settled) = answer_to peer settled.reply
taken_by peer (Refused settled fault) = []
taken_by peer Skipped = []

-- the replies that a socket took, in order, each for the sender of its datagram
abbrev pub answers_of : List Handled → List Reply
answers_of = flat_map (λ one. taken_by one.datagram.1 one.fate)

-- 1 where the socket failed to take the reply
abbrev pub failed_by : Fate → ℕ
failed_by (Answered settled) = 0
failed_by (Refused settled Failed) = 1
failed_by (Refused settled OutOfMemory) = 0
failed_by Skipped = 0

-- how many replies the socket failed to take
abbrev pub failures : List Handled → ℕ
failures = sum_by (λ one. failed_by one.fate)

-- a count of faults behind so many calls more that failed: each is counted once
abbrev pub raised : ℕ → ℕ → ℕ
raised zero before = before
raised (suc count) before = one_more (raised count before)

-- 1 where no memory was found, to settle the message or to take its reply
abbrev pub unmet_by : Fate → ℕ
unmet_by (Answered settled) = 0
unmet_by (Refused settled Failed) = 0
unmet_by (Refused settled OutOfMemory) = 1
unmet_by Skipped = 1

-- how many found no memory
abbrev pub unmet : List Handled → ℕ
unmet = sum_by (λ one. unmet_by one.fate)

-- how settling a message ended, by what became of it: the socket refused the reply, or no memory was found
abbrev pub outcome_of : Fate → Result (Unit {0}) IoFault
outcome_of (Answered settled) = Ok tt
outcome_of (Refused settled fault) = Err fault
outcome_of Skipped = Err OutOfMemory

-- whether memory was found
abbrev pub found_memory : Result (Unit {0}) IoFault → Bool
found_memory (Ok done) = true
found_memory (Err Failed) = true
found_memory (Err OutOfMemory) = false

-- the meanings of a handler
module _ {H : Type 0} (serves : H → Ask → Settled → H → Type 0) (skips : H → H → Type 0) where
  -- the step of the handler for this message. Where no memory was found even to hand it over, the handler did nothing
  abbrev pub Steps : H → Ask → Fate → H → Type 0
  Steps before ask (Answered settled) after = serves before ask settled after
  Steps before ask (Refused settled fault) after = serves before ask settled after × IsSome settled.reply
  Steps before ask Skipped after = (after ≡ before) ⊎ skips before after

  -- one step for each datagram, in order
  abbrev pub Run : H → List Handled → H → Type 0
  Run before [] after = after ≡ before
  Run before (one ∷ others) after = (between : H) × Steps before (ask_for one.datagram) one.fate between × Run between others after

-- nothing is left, where that is told
abbrev pub IsAtEnd : {A : Type 0} → Option (List A) → Type 0
IsAtEnd left = IfSome left (λ items. items ≡ [])

-- how a worker answers whose port gives no more, by whether memory was wanting before
abbrev pub Ended : Bool → Result (Unit {0}) IoFault → Type 0
Ended false (Ok done) = Unit {0}
Ended true (Ok done) = ⊥
Ended is_short (Err Failed) = ⊥
Ended is_short (Err OutOfMemory) = Unit {0}

-- a handler, and the port whose messages it settles
pub record Post (H P : Type 0) : Type 0 where
  pub handler : H
  pub port : P

-- the meanings of a handler, and what a socket tells
module _ {H U : Type 0} (serves : H → Ask → Settled → H → Type 0) (skips : H → H → Type 0) (socket : U → UdpTold)
    (before after : Post H U) where
  -- the socket counted so many calls that failed, and no other
  abbrev pub Counts : ℕ → Type 0
  Counts failed = (socket after.port).faults ≡ raised failed (socket before.port).faults

  -- one message is settled, and its sender answered, with this outcome
  pub record Handles (ask : Ask) (outcome : Result (Unit {0}) IoFault) : Type 0 where
    pub fate : Fate
    pub step : Steps serves skips before.handler ask fate after.handler
    pub unread : Keeps (socket before.port).left (socket after.port).left
    pub unreceived : Keeps (socket before.port).received (socket after.port).received
    pub answered : Grows (socket before.port).taken (socket after.port).taken (taken_by ask.source fate)
    pub counted : Counts (failed_by fate)
    pub is : outcome ≡ outcome_of fate

  -- one step of the handler for each datagram received, in order; the socket took the replies, but those that it refused
  pub record Handling : Type 0 where
    pub handled : List Handled
    pub run : Run serves skips before.handler handled after.handler
    pub came : Takes (socket before.port).left (socket after.port).left (map (λ one. one.datagram) handled)
    pub noted : Grows (socket before.port).received (socket after.port).received (map (λ one. one.datagram) handled)
    pub answered : Grows (socket before.port).taken (socket after.port).taken (answers_of handled)

  -- why a worker ends, by its answer: nothing is left, and memory was found for all; or a receiving failed; or memory was wanting. What
  -- the socket counted is each reply that it failed to take, and the receiving that failed
  abbrev pub EndsBy : List Handled → Result (Unit {0}) IoFault → Type 0
  EndsBy handled (Ok done) = IsAtEnd (socket after.port).left × (unmet handled ≡ 0) × Counts (failures handled)
  EndsBy handled (Err Failed) = Counts (failures handled + 1)
  EndsBy handled (Err OutOfMemory) = Counts (failures handled)

  -- what a socket's worker did, with its answer
  pub record WorksSocket (result : Result (Unit {0}) IoFault) : Type 0 where
    pub work : Handling
    pub ends : EndsBy work.handled result
