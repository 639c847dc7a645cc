-- How many steps of workers answered an update with ServFail because the journal failed (RFC 2136 3.8). Each step of a pass says
-- whether the keeper failed to take the records that its message brings; what is counted is the run that a worker's clause gives.
use Rattle.std.specs.Prelude.{ℕ, ◌+◌, if◌then◌else◌, List, [], ◌∷◌, Option, None, Some, Result, Ok, Err}
use Rattle.dns_keeper.specs.Keeping.{KeeperOf}
use Rattle.dns_book.specs.declared.ask.Ask.{Ask}
use Rattle.dns_book.specs.declared.ask.Settled.{Settled}
use Rattle.dns_book.specs.Access.{Access}
use Rattle.dns_edges.specs.Edges.{SourceOf, SinkOf, ClockOf}
use Rattle.dns_ports.specs.Ports.{UdpTold, ListenerOf}
use Rattle.dns_ports.specs.declared.port.Accepted.{Accepted}
use Rattle.dns_requests.specs.declared.serve_fault.ServeFault.{ServeFault}
use Rattle.dns_requests.specs.declared.serve_fault.ServeFault.TheVariants.{Read, Write, Turns, TimedOut, OutOfMemory}
use Rattle.dns_requests.specs.Ends.{Ends, Parts, Terms}
use Rattle.dns_server_core.specs.FrameRuns.{Run as MessageRun}
use Rattle.dns_ticket_lock.specs.Passes.{PassSeen, SettledBy, LeftBy}
use Rattle.dns_server.specs.declared.worker.Worker.{Worker}
use Rattle.dns_server.specs.Sockets.{Fate, Answered, Refused, Skipped, Handled, Steps, Run as DatagramRun, ask_for}
use Rattle.dns_server.specs.Listeners.{HandedBack, TreatsBy, Run as ConnectionRun}
use Rattle.dns_server.specs.Servers.{Matches, ServedSocket, ServedListener}

-- the meanings of a keeper, and who is let in
module _ {K : Type 0} (keeper : KeeperOf K) (access : Access) where
  -- 1 where the message brings records that the keeper failed to take
  abbrev pub failed_by_step : (before : PassSeen) (ask : Ask) (settled : Settled) (after : PassSeen)
      → SettledBy keeper access before ask settled after → ℕ
  failed_by_step before ask settled after step = if step.account.settles.failed then 1 else 0

  -- of a datagram
  abbrev pub failed_by_datagram : (before : PassSeen) (ask : Ask) (fate : Fate) (after : PassSeen)
      → Steps (SettledBy keeper access) LeftBy before ask fate after → ℕ
  failed_by_datagram before ask (Answered settled) after step = failed_by_step before ask settled after step
  failed_by_datagram before ask (Refused settled fault) after step = failed_by_step before ask settled after step.0
  failed_by_datagram before ask Skipped after step = 0

  -- of the datagrams of a socket
  abbrev pub failed_by_datagrams : (before : PassSeen) (handled : List Handled) (after : PassSeen)
      → DatagramRun (SettledBy keeper access) LeftBy before handled after → ℕ
  failed_by_datagrams before [] after run = 0
  failed_by_datagrams before (one ∷ others) after run =
      failed_by_datagram before (ask_for one.datagram) one.fate run.0 run.1 + failed_by_datagrams run.0 others after run.2

  -- of the messages of a connection
  abbrev pub failed_by_messages : (before : PassSeen) (asks : List Ask) (bytes : List ℕ) (after : PassSeen)
      → MessageRun (SettledBy keeper access) before asks bytes after → ℕ
  failed_by_messages before [] bytes after run = 0
  failed_by_messages before (ask ∷ asks) bytes after run =
      failed_by_step before ask run.0 run.1 run.3 + failed_by_messages run.1 asks run.2 after run.5

  -- of a connection that was served, with this answer
  abbrev pub failed_by_serving : {S W C : Type 0} (source : SourceOf S) (sink : SinkOf W) (clock : ClockOf C)
      (terms : Terms) (before after : Parts PassSeen S W C) (answer : Result ℕ ServeFault)
      → Ends (SettledBy keeper access) LeftBy source sink clock terms before after answer → ℕ
  failed_by_serving source sink clock terms before after (Ok n) ends = failed_by_messages _ _ _ _ ends.answers.run
  failed_by_serving source sink clock terms before after (Err Read) ends = failed_by_messages _ _ _ _ ends.answers.run
  failed_by_serving source sink clock terms before after (Err Write) ends = failed_by_messages _ _ _ _ ends.answers.run
  failed_by_serving source sink clock terms before after (Err (Turns n)) ends = failed_by_messages _ _ _ _ ends.answers.run
  failed_by_serving source sink clock terms before after (Err (TimedOut since limit at)) ends = failed_by_messages _ _ _ _ ends.answers.run
  failed_by_serving source sink clock terms before after (Err OutOfMemory) ends = failed_by_messages _ _ _ _ ends.answers.answered.run

  -- the meanings of a connection
  module _ {R W C : Type 0} (source : SourceOf R) (sink : SinkOf W) (clock : ClockOf C) where
    -- of a connection, which was served or left alone
    abbrev pub failed_by_connection : (limit : ℕ) (before : PassSeen)
        (came back : Accepted R W C) (answer : Option (Result ℕ ServeFault)) (after : PassSeen)
        → TreatsBy (SettledBy keeper access) LeftBy source sink clock limit before came back answer after → ℕ
    failed_by_connection limit before came back None after treated = 0
    failed_by_connection limit before came back (Some answer) after treated = failed_by_serving source sink clock _ _ _ answer treated.ends

    -- of the connections of a listener
    abbrev pub failed_by_connections : (limit : ℕ) (before : PassSeen) (handled : List (HandedBack R W C)) (after : PassSeen)
        → ConnectionRun (SettledBy keeper access) LeftBy source sink clock limit before handled after → ℕ
    failed_by_connections limit before [] after run = 0
    failed_by_connections limit before (one ∷ others) after run =
        failed_by_connection limit before one.came one.back one.answer run.0 run.1 + failed_by_connections limit run.0 others after run.2

  -- of the worker of a listener
  abbrev pub failed_by_listener : {T R W C : Type 0} (listener : ListenerOf T R W C) (before after : Worker T)
      → ServedListener keeper listener access before after → ℕ
  failed_by_listener listener before after served =
      failed_by_connections listener.input listener.output listener.time before.limit before.pass
      served.works.work.handled after.pass served.works.work.run

  -- of the worker of a socket
  abbrev pub failed_by_socket : {U : Type 0} (socket : U → UdpTold) (before after : Worker U)
      → ServedSocket keeper socket access before after → ℕ
  failed_by_socket socket before after served = failed_by_datagrams before.pass served.works.work.handled after.pass served.works.work.run

-- f of each and the one at its place, added up
abbrev pub added_up : {A B : Type 0} {R : A → B → Type 0}
    → ((x : A) (y : B) → R x y → ℕ) → (xs : List A) (ys : List B) → Matches R xs ys → ℕ
added_up f [] [] each = 0
added_up f [] (y ∷ ys) each = 0
added_up f (x ∷ xs) [] each = 0
added_up f (x ∷ xs) (y ∷ ys) each = f x y each.0 + added_up f xs ys each.1
