-- What the command `serve` does: the book is opened, workers settle what comes to the ports, and the book is closed.
use Rattle.std.specs.Prelude.{◌≡◌, ◌⊎◌, ℕ, ◌+◌, List, [], ◌∷◌, ◌++◌, length, Option, Some, None, IsSome, Result}
use mathlib.Core.Logic.{inl, inr}
use Rattle.std.specs.List.{AllByRecursion}
use Rattle.dns_io.specs.Told.{Keeps, Grows, Rose}
use Rattle.dns_io.specs.declared.io_fault.IoFault.{IoFault}
use Rattle.dns_io.specs.declared.peer.Peer.{Peer}
use Rattle.dns_edges.specs.Edges.{Around, SourceTold}
use Rattle.dns_keeper.specs.Keeping.{KeeperOf}
use Rattle.dns_zone_map.specs.Zone.{serial_of}
use Rattle.dns_book.specs.Access.{Access}
use Rattle.dns_book.specs.Book.{SeenOf}
use Rattle.dns_ports.specs.declared.hub.Opening.{Opening as Opened}
use Rattle.dns_ports.specs.declared.hub.Opening.TheVariants.{Socket, Listeners}
use Rattle.dns_ports.specs.Ports.{UdpTold, TcpTold, HubTold, IsFreshSocket, IsFreshListener}
use Rattle.dns_ticket_lock.specs.declared.view.Terms.{Terms}
use Rattle.dns_ticket_lock.specs.Naming.{terms_at}
use Rattle.dns_ticket_lock.specs.Rule.{fresh}
use Rattle.dns_ticket_lock.specs.Passes.{BookId, PassSeen, InOrder, AreNew, AreAll, ClosedFor}
use Rattle.dns_server.specs.declared.worker.Worker.{Worker}
use Rattle.dns_server.specs.Servers.{ServedSocket, ServedListener, EndsReading, Matches, IsDone, IsReadOut, their_ports, their_passes}
use Rattle.dns_server.specs.FailedUpdates.{failed_by_socket, failed_by_listener, added_up}
use Rattle.dns_command.specs.declared.status.Status.{Status}
use Rattle.dns_command.specs.declared.status.Status.TheVariants as status
use Rattle.dns_command.specs.declared.opening.Opening.{Opening}
use Rattle.dns_command.specs.declared.listening_words.Listening.{Listening}
use Rattle.dns_command.specs.declared.listening_words.Service.{Service}
use Rattle.dns_command.specs.CommandLine.{access_of}
use Rattle.dns_command.specs.ListeningWords.{service_of, sockets_of, listeners_of, seats_of}
use Rattle.dns_command.specs.Lines.{serve_lines}
use Rattle.dns_listeners.specs.Hubs.{Meanings, TakesFaulty, FailsOpening, FailsNoOpening, one_more_each}
use Rattle.dns_words.specs.Writing.{IsUntouched}
use Rattle.dns_command.specs.World.{World}
use Rattle.dns_command.specs.Steps.{Finds, FindsNot, OpensNot}
use Rattle.dns_command.specs.Ends.{IsOpened, CountsFailures, opening_journal}

-- what is opened: a socket, listeners, or both
abbrev pub opening_at : Option Peer → List Opened
opening_at None = []
opening_at (Some at) = Socket at ∷ []

abbrev pub listening_at : Option Peer → ℕ → ℕ → List Opened
listening_at None limit workers = []
listening_at (Some at) limit workers = Listeners at limit workers ∷ []

abbrev pub openings_of : Listening → List Opened
openings_of listening = opening_at listening.udp ++ listening_at listening.tcp listening.limit listening.workers

-- the words are legal, and the journal was opened at the moment that the clock was asked for
pub record BeginsServing {K : Type 0} (keeper : KeeperOf K) (w : World) (service : Service) (first : SeenOf K) : Type 0 where
  pub opening : Opening
  pub legal : service_of w.words ≡ Some service
  pub found : Finds (opening_journal keeper w first) w.zone service.options.origin opening
  pub moment : ℕ
  pub asked : w.moment ≡ Some moment
  pub opened : IsOpened keeper w.journal.before service.options moment opening first

-- a worker that has done nothing yet: its pass has seen the opening rows, and its port was not used
pub record IsNewWorker {P : Type 0} (t : Terms) (most : ℕ) (IsFreshPort : P → Type 0) (worker : Worker P) : Type 0 where
  pub terms : worker.pass.terms ≡ t
  pub account : worker.pass.account ≡ fresh t
  pub limit : worker.limit ≡ most
  pub port : IsFreshPort worker.port

-- such a worker of a socket, and of a listener with this limit
abbrev pub IsNewSocket : {U : Type 0} → (U → UdpTold) → Terms → Worker U → Type 0
IsNewSocket socket t worker = IsNewWorker t 0 (λ port. IsFreshSocket (socket port)) worker

abbrev pub IsNewListener : {T R W C : Type 0} → (T → TcpTold R W C) → Terms → ℕ → Worker T → Type 0
IsNewListener listener t limit worker = IsNewWorker t limit (λ port. IsFreshListener (listener port)) worker

-- the workers of sockets and of listeners
pub record Crew (U T : Type 0) : Type 0 where
  pub sockets : List (Worker U)
  pub listeners : List (Worker T)

-- all their passes
abbrev pub passes_of : {U T : Type 0} → Crew U T → List PassSeen
passes_of crew = their_passes crew.sockets ++ their_passes crew.listeners

-- the source that is read until it ends was not used; or the ports of the words were all opened first, each of which is counted, and then
-- it was read: to its end, to a fault, which was counted, or till no memory was found to read on, and then none was counted
abbrev pub MayBeRead : {U T : Type 0} → Around SourceTold → Around (HubTold U T) → Listening → Type 0
MayBeRead until hub listening =
    IsUntouched until
    ⊎ (Grows hub.before.openings hub.after.openings (openings_of listening)
    × (hub.after.opened_calls ≡ one_more_each hub.before.opened_calls (openings_of listening))
    × (reading : Result (Unit {0}) IoFault) × EndsReading until reading)

module _ {K U T R W C : Type 0} (m : Meanings K U T R W C) where
  -- why the serving went no further: a port could not be opened, which is counted once; or all were, each of which is counted, and one of
  -- these failed; or memory ran out, and then no opening failed, and the hub's count of faults is what it was, but for one of these ports
  -- that it took back
  abbrev pub IsPortCause : Around (HubTold U T) → Listening → List U → List T → Status → Type 0
  IsPortCause hub listening sockets listeners status.PortFault =
      Rose hub.before.faults hub.after.faults
      × (FailsOpening hub
      ⊎ (FailsNoOpening hub × (hub.after.opened_calls ≡ one_more_each hub.before.opened_calls (openings_of listening))
      × TakesFaulty m hub sockets listeners))
  IsPortCause hub listening sockets listeners status.OutOfMemory =
      FailsNoOpening hub × ((hub.after.faults ≡ hub.before.faults) ⊎ TakesFaulty m hub sockets listeners)
  IsPortCause hub listening sockets listeners _ = ⊥

  -- as many as the words ask for, and each is new; their passes are of the book, and bear the numbers from 1 on in this order
  pub record IsNewCrew (listening : Listening) (book : BookId) (t : Terms) (crew : Crew U T) : Type 0 where
    pub socket_count : length crew.sockets ≡ sockets_of listening
    pub listener_count : length crew.listeners ≡ listeners_of listening
    pub order : InOrder book (passes_of crew)
    pub new_sockets : AllByRecursion (IsNewSocket m.socket t) crew.sockets
    pub new_listeners : AllByRecursion (IsNewListener m.listener.told t listening.limit) crew.listeners

  -- what a worker of a socket did: it settled each datagram that came, in order, by its pass, and the socket took the replies, each
  -- for the sender of its datagram, but those that it refused
  abbrev pub ServesSocket : Access → Worker U → Worker U → Type 0
  ServesSocket access = ServedSocket m.keeper m.socket access

  -- what a worker of a listener did: it served each connection that came from a safe peer, one after the other, by its pass, and
  -- handed each back
  abbrev pub ServesListener : Access → Worker T → Worker T → Type 0
  ServesListener access = ServedListener m.keeper m.listener access

  -- what each of them did
  pub record Works (access : Access) (before after : Crew U T) : Type 0 where
    pub sockets : Matches (ServesSocket access) before.sockets after.sockets
    pub listeners : Matches (ServesListener access) before.listeners after.listeners

  -- each did its work to the end: nothing is left at its port, and memory was found for all
  pub record WorksToItsEnd (access : Access) (before after : Crew U T) : Type 0 where
    pub sockets : Matches (ServesSocket access) before.sockets after.sockets
    pub listeners : Matches (ServesListener access) before.listeners after.listeners
    pub sockets_done : AllByRecursion IsDone after.sockets
    pub listeners_done : AllByRecursion IsDone after.listeners

  -- how many steps of all ports together answered an update with ServFail because the journal failed (RFC 2136 3.8)
  abbrev pub failed_updates : (access : Access) (before after : Crew U T) → WorksToItsEnd access before after → ℕ
  failed_updates access before after worked =
      added_up (failed_by_socket m.keeper access m.socket) before.sockets after.sockets worked.sockets
      + added_up (failed_by_listener m.keeper access m.listener) before.listeners after.listeners worked.listeners

  -- and those of the work so far
  abbrev pub failed_so_far : (access : Access) (before after : Crew U T) → (after ≡ before) ⊎ Works access before after → ℕ
  failed_so_far access before after (inl none) = 0
  failed_so_far access before after (inr worked) =
      added_up (failed_by_socket m.keeper access m.socket) before.sockets after.sockets worked.sockets
      + added_up (failed_by_listener m.keeper access m.listener) before.listeners after.listeners worked.listeners

  -- the openings of the hub are those of the words, and no other, each of which is counted, and none failed; each port had a worker, and
  -- the hub has it back. Its count of faults is what it was, but for one of these ports
  pub record ServesPorts (hub : Around (HubTold U T)) (listening : Listening) (book : BookId) (t : Terms) (access : Access)
      (before after : Crew U T) : Type 0 where
    pub opened : Grows hub.before.openings hub.after.openings (openings_of listening)
    pub calls : hub.after.opened_calls ≡ one_more_each hub.before.opened_calls (openings_of listening)
    pub unfailed : FailsNoOpening hub
    pub new : IsNewCrew listening book t before
    pub worked : WorksToItsEnd access before after
    pub sockets_back : Grows hub.before.closed_udp hub.after.closed_udp (their_ports after.sockets)
    pub listeners_back : Grows hub.before.closed_tcp hub.after.closed_tcp (their_ports after.listeners)
    pub counted : (hub.after.faults ≡ hub.before.faults) ⊎ TakesFaulty m hub (their_ports after.sockets) (their_ports after.listeners)

  -- the workers that were taken on, which were new at first, and the passes of none, which are new still; they are as many as seats. All
  -- these passes are of the book, and bear the numbers from 1 on: first those of the workers, in order, then those of none. The workers did
  -- their work, or were not run
  pub record SharesPasses (book : BookId) (t : Terms) (limit : ℕ) (access : Access) (before after : Crew U T)
      (free : List PassSeen) : Type 0 where
    pub many : length free + (length before.sockets + length before.listeners) ≡ t.seats
    pub order : InOrder book (passes_of before ++ free)
    pub new_sockets : AllByRecursion (IsNewSocket m.socket t) before.sockets
    pub new_listeners : AllByRecursion (IsNewListener m.listener.told t limit) before.listeners
    pub new_free : AreNew t free
    pub worked : (after ≡ before) ⊎ Works access before after

  -- the book was closed for these passes, which are all of it: one with each number from 1 to the seats
  pub record ClosedForAll (book : BookId) (t : Terms) (passes : List PassSeen) (last : SeenOf K) : Type 0 where
    pub all : AreAll book t.seats passes
    pub closed : ClosedFor m.keeper t passes last

  -- everything was served, and this is the output: the serial of the zone that the rows of the closing book stand for, and their
  -- number. Those rows begin with the opening ones and with all that each worker's pass has seen, and past the opening they are
  -- exactly those of the passes' receipts. Of all ports together no more updates got ServFail than the keeper's count of faults rose
  -- from the opening to the closing, unless that stands at its last value: where none got it that count stood still
  pub record Serves (w : World) (hub : Around (HubTold U T)) (written : List ℕ) : Type 0 where
    pub service : Service
    pub first : SeenOf K
    pub last : SeenOf K
    pub book : BookId
    pub opened : Crew U T
    pub crew : Crew U T
    pub begun : BeginsServing m.keeper w service first
    pub ports : ServesPorts hub service.listening book
        (terms_at m.keeper first (seats_of service.listening)) (access_of service.options) opened crew
    pub stopped : IsReadOut w.events
    pub closed : ClosedForAll book (terms_at m.keeper first (seats_of service.listening)) (passes_of crew) last
    pub few : CountsFailures (failed_updates (access_of service.options) opened crew ports.worked)
        (m.keeper.told first.keeper).faults (m.keeper.told last.keeper).faults
    pub left : m.keeper.told last.keeper ≡ w.journal.after
    pub text : written ≡ serve_lines (serial_of last.zone.records) last.row_count

  -- The serving went no further: a port could not be opened, or failed, and the hub's count rose; or memory ran out. The book was
  -- closed for all its passes: its rows begin with the opening ones, and past these they are exactly those of the passes' receipts. Where
  -- no update got ServFail the keeper's count of faults stood still
  pub record StopsServing (w : World) (hub : Around (HubTold U T)) (s : Status) : Type 0 where
    pub service : Service
    pub first : SeenOf K
    pub last : SeenOf K
    pub book : BookId
    pub opened : Crew U T
    pub crew : Crew U T
    pub free : List PassSeen
    pub begun : BeginsServing m.keeper w service first
    pub shared : SharesPasses book (terms_at m.keeper first (seats_of service.listening))
        service.listening.limit (access_of service.options) opened crew free
    pub read : MayBeRead w.events hub service.listening
    pub closed : ClosedForAll book (terms_at m.keeper first (seats_of service.listening)) (free ++ passes_of crew) last
    pub still : failed_so_far (access_of service.options) opened crew shared.worked ≡ 0
        → (m.keeper.told last.keeper).faults ≡ (m.keeper.told first.keeper).faults
    pub left : m.keeper.told last.keeper ≡ w.journal.after
    pub cause : IsPortCause hub service.listening (their_ports crew.sockets) (their_ports crew.listeners) s

  -- why nothing was served, by the first step in the order of the work that was refused: nothing was opened, and the journal has the
  -- rows that it had; or it has the opening ones, and memory ran out before a port was opened. The clock was asked where the journal
  -- was to be opened, and only there
  pub data IsUnserved (w : World) : Status → Type 0 where
    without_memory : IsUntouched w.zone → IsUntouched w.journal → w.moment ≡ None → IsUnserved w status.OutOfMemory
    at_finding : {s : Status} → (service : Service) → service_of w.words ≡ Some service
        → FindsNot w.journal w.zone service.options.origin s → Keeps w.journal.before.rows w.journal.after.rows → w.moment ≡ None
        → IsUnserved w s
    at_opening : {s : Status} → (service : Service) (opening : Opening) → service_of w.words ≡ Some service
        → Finds w.journal w.zone service.options.origin opening → OpensNot w.journal service.options.origin opening s
        → Keeps w.journal.before.rows w.journal.after.rows → IsSome w.moment → IsUnserved w s
    at_sharing : (service : Service) (first : SeenOf K) → BeginsServing m.keeper w service first
        → m.keeper.told first.keeper ≡ w.journal.after → IsUnserved w status.OutOfMemory

  -- a refusal: before any port was opened, and then neither the hub nor the source that is read until it ends was used; or behind that
  pub data RefusesServing (w : World) (hub : Around (HubTold U T)) (s : Status) : Type 0 where
    unserved : IsUnserved w s → IsUntouched hub → IsUntouched w.events → RefusesServing w hub s
    stopped : StopsServing w hub s → RefusesServing w hub s
