-- What the parts of serving do.
use Rattle.std.specs.Prelude.{◌≡◌, ◌≤◌, ◌⊎◌, ℕ, ◌+◌, List, [], ◌++◌, length}
use Rattle.std.specs.List.{AllByRecursion}
use Rattle.dns_io.specs.Told.{Keeps, Grows, Rose}
use Rattle.dns_edges.specs.Edges.{Around, SourceTold, around}
use Rattle.dns_book.specs.Book.{SeenOf}
use Rattle.dns_ports.specs.declared.hub.Opening.{Opening as Opened}
use Rattle.dns_ports.specs.Ports.{UdpTold, TcpTold, HubTold}
use Rattle.dns_ticket_lock.specs.Naming.{terms_at}
use Rattle.dns_ticket_lock.specs.Passes.{BookId, PassSeen, InOrder, AreNew}
use Rattle.dns_server.specs.Servers.{ServerSeen, IsReadOut, their_ports, their_passes}
use Rattle.dns_command.specs.declared.status.Status.{Status}
use Rattle.dns_command.specs.declared.status.Status.TheVariants as status
use Rattle.dns_command.specs.declared.opening.Opening.{Opening}
use Rattle.dns_command.specs.declared.listening_words.Listening.{Listening}
use Rattle.dns_command.specs.declared.listening_words.Service.{Service}
use Rattle.dns_command.specs.CommandLine.{access_of}
use Rattle.dns_command.specs.ListeningWords.{seats_of}
use Rattle.dns_listeners.specs.Hubs.{Meanings, EndsWith, AnyFault, FailsOpening, FailsNoOpening, one_more_each}
use Rattle.dns_words.specs.Writing.{IsUntouched}
use Rattle.dns_command.specs.Steps.{OpensNot}
use Rattle.dns_command.specs.Parts.{OpensBook}
use Rattle.dns_listeners.specs.Serving.{IsPortCause, IsNewSocket, IsNewListener, IsNewCrew, Crew, passes_of, openings_of, MayBeRead, WorksToItsEnd, ServesPorts, SharesPasses, ClosedForAll}

-- the workers of a server
abbrev pub crew_of : {U T : Type 0} → ServerSeen U T → Crew U T
crew_of s = record { sockets = s.sockets; listeners = s.listeners }

-- of the passes and the workers there are as many as seats; each free pass has seen the opening rows and settled nothing, and each
-- worker is new; the passes of sockets, of listeners and of none bear the numbers from 1 on in this order
pub record IsManned {U T R W C : Type 0} (socket : U → UdpTold) (listener : T → TcpTold R W C) (limit : ℕ)
    (s : ServerSeen U T) : Type 0 where
  pub free : AreNew s.book.terms s.free
  pub seats : length s.free + (length s.sockets + length s.listeners) ≡ s.book.terms.seats
  pub order : InOrder s.book.id (their_passes s.sockets ++ (their_passes s.listeners ++ s.free))
  pub sockets : AllByRecursion (IsNewSocket socket s.book.terms) s.sockets
  pub listeners : AllByRecursion (IsNewListener listener s.book.terms limit) s.listeners

-- the book is the same, and who is let in
pub record IsSameServer {U T : Type 0} (before after : ServerSeen U T) : Type 0 where
  pub book : after.book ≡ before.book
  pub access : after.access ≡ before.access

-- ports were opened, some of which the server has, and the others the hub has back
pub record Registers {U T : Type 0} (hub : Around (HubTold U T)) (before after : ServerSeen U T) : Type 0 where
  pub same : IsSameServer before after
  pub sockets : hub.after.lent_udp + length before.sockets ≡ hub.before.lent_udp + length after.sockets
  pub listeners : hub.after.lent_tcp + length before.listeners ≡ hub.before.lent_tcp + length after.listeners
  pub sockets_back : EndsWith hub.before.closed_udp hub.after.closed_udp []
  pub listeners_back : EndsWith hub.before.closed_tcp hub.after.closed_tcp []
  pub later : hub.before.faults ≤ hub.after.faults

-- these were opened, each of which is counted, no port was taken back, and no call failed
pub record OpensAll {U T : Type 0} (hub : Around (HubTold U T)) (openings : List Opened) : Type 0 where
  pub opened : Grows hub.before.openings hub.after.openings openings
  pub calls : hub.after.opened_calls ≡ one_more_each hub.before.opened_calls openings
  pub unfailed : FailsNoOpening hub
  pub sockets : Keeps hub.before.closed_udp hub.after.closed_udp
  pub listeners : Keeps hub.before.closed_tcp hub.after.closed_tcp
  pub faults : hub.after.faults ≡ hub.before.faults

-- no opening was made, no socket was taken back, and the count of faults is what it was
pub record IsCalm {U T : Type 0} (hub : Around (HubTold U T)) : Type 0 where
  pub opened : Keeps hub.before.openings hub.after.openings
  pub sockets : Keeps hub.before.closed_udp hub.after.closed_udp
  pub listeners : EndsWith hub.before.closed_tcp hub.after.closed_tcp []
  pub sockets_out : hub.after.lent_udp ≡ hub.before.lent_udp
  pub faults : hub.after.faults ≡ hub.before.faults
  pub calls : hub.after.opened_calls ≡ hub.before.opened_calls
  pub unfailed : FailsNoOpening hub

-- one of the server's ports has a count of faults above 0
abbrev pub HasFaultyPort : {U T R W C : Type 0} → (U → UdpTold) → (T → TcpTold R W C) → ServerSeen U T → Type 0
HasFaultyPort socket listener s =
    AnyFault (λ port. (socket port).faults) (their_ports s.sockets) ⊎ AnyFault (λ port. (listener port).faults) (their_ports s.listeners)

-- why ports were not opened: an opening failed, and the hub's count of faults rose; or memory ran out, and both counts are what they were
abbrev pub IsOpenCause : {U T : Type 0} → Around (HubTold U T) → Status → Type 0
IsOpenCause hub status.PortFault = Rose hub.before.faults hub.after.faults × FailsOpening hub
IsOpenCause hub status.OutOfMemory = (hub.after.faults ≡ hub.before.faults) × FailsNoOpening hub
IsOpenCause hub _ = ⊥

-- why the serving ended before its time: an opening failed, and the hub's count of faults rose; or all were made, and that will rise, since
-- a port that it takes back has a count above 0; or memory ran out, and the counts of faults and of openings that failed are what they were
abbrev pub IsCauseSoFar : {U T : Type 0} → Around (HubTold U T) → Listening → Type 0 → Status → Type 0
IsCauseSoFar hub listening IsFaulty status.PortFault =
    (Rose hub.before.faults hub.after.faults × FailsOpening hub)
    ⊎ (FailsNoOpening hub × (hub.after.opened_calls ≡ one_more_each hub.before.opened_calls (openings_of listening)) × IsFaulty)
IsCauseSoFar hub listening IsFaulty status.OutOfMemory = (hub.after.faults ≡ hub.before.faults) × FailsNoOpening hub
IsCauseSoFar hub listening IsFaulty _ = ⊥

-- ports were handed back, each once, and no opening was made; the hub's count rose where one of them has a count above 0, and only there
pub record TakesBack {U T : Type 0} (hub : Around (HubTold U T)) (before : ServerSeen U T) (IsFaulty : Type 0) : Type 0 where
  pub opened : Keeps hub.before.openings hub.after.openings
  pub sockets : Grows hub.before.closed_udp hub.after.closed_udp (their_ports before.sockets)
  pub listeners : Grows hub.before.closed_tcp hub.after.closed_tcp (their_ports before.listeners)
  pub sockets_out : hub.after.lent_udp + length before.sockets ≡ hub.before.lent_udp
  pub listeners_out : hub.after.lent_tcp + length before.listeners ≡ hub.before.lent_tcp
  pub later : hub.before.faults ≤ hub.after.faults
  pub raised : IsFaulty → Rose hub.before.faults hub.after.faults
  pub calm : (hub.after.faults ≡ hub.before.faults) ⊎ IsFaulty
  pub calls : hub.after.opened_calls ≡ hub.before.opened_calls
  pub unfailed : FailsNoOpening hub

-- a server without ports
abbrev pub emptied : {U T : Type 0} → ServerSeen U T → ServerSeen U T
emptied s = record s { free = (s.free ++ their_passes s.sockets) ++ their_passes s.listeners; sockets = []; listeners = [] }

module _ {K U T R W C : Type 0} (m : Meanings K U T R W C) where
  -- the ports of the words were opened, and their workers, who are all there are, did their work to its end
  pub record ServesWell (hub : Around (HubTold U T)) (until : Around SourceTold) (listening : Listening)
      (before after : ServerSeen U T) : Type 0 where
    pub crew : Crew U T
    pub new : IsNewCrew m listening before.book.id before.book.terms crew
    pub worked : WorksToItsEnd m before.access crew (crew_of after)
    pub free : after.free ≡ []
    pub opens : OpensAll hub (openings_of listening)
    pub read : IsReadOut until

  -- the workers so far
  pub record HasCrew (limit : ℕ) (before after : ServerSeen U T) : Type 0 where
    pub opened : Crew U T
    pub shared : SharesPasses m before.book.id before.book.terms limit before.access opened (crew_of after) after.free

  -- a book was shared, served and closed
  pub record ServesBook (hub : Around (HubTold U T)) (until : Around SourceTold) (service : Service) (first last : SeenOf K) : Type 0 where
    pub book : BookId
    pub opened : Crew U T
    pub crew : Crew U T
    pub ports : ServesPorts m hub service.listening book
        (terms_at m.keeper first (seats_of service.listening)) (access_of service.options) opened crew
    pub read : IsReadOut until
    pub closed : ClosedForAll m book (terms_at m.keeper first (seats_of service.listening)) (passes_of crew) last

  -- it was shared and closed, but not served to the end
  pub record LeavesBook (hub : Around (HubTold U T)) (until : Around SourceTold) (service : Service) (first : SeenOf K)
      (s : Status) (last : SeenOf K) : Type 0 where
    pub book : BookId
    pub opened : Crew U T
    pub crew : Crew U T
    pub free : List PassSeen
    pub shared : SharesPasses m book (terms_at m.keeper first (seats_of service.listening))
        service.listening.limit (access_of service.options) opened crew free
    pub read : MayBeRead until hub service.listening
    pub closed : ClosedForAll m book (terms_at m.keeper first (seats_of service.listening)) (free ++ passes_of crew) last
    pub cause : IsPortCause m hub service.listening (their_ports crew.sockets) (their_ports crew.listeners) s

  -- why not, and the keeper: it was not shared for want of memory, and neither the hub nor the source was used; or it was closed
  pub data ServesNot (hub : Around (HubTold U T)) (until : Around SourceTold) (service : Service)
      (first : SeenOf K) : Status → K → Type 0 where
    unshared : {left : K} → first.keeper ≡ left → IsUntouched hub → IsUntouched until
        → ServesNot hub until service first status.OutOfMemory left
    closed : {s : Status} {left : K} → (last : SeenOf K) → LeavesBook hub until service first s last
        → last.keeper ≡ left → ServesNot hub until service first s left

  -- the journal was opened, and its book served
  pub record ServesOpened (hub : Around (HubTold U T)) (until : Around SourceTold) (held : K) (service : Service) (opening : Opening)
      (moment : ℕ) (last : SeenOf K) : Type 0 where
    pub first : SeenOf K
    pub begun : OpensBook m.keeper held service.options opening moment first
    pub served : ServesBook hub until service first last

  -- why not, and the keeper: the journal was not opened, its rows are as they were, and neither the hub nor the source was used; or
  -- its book was not served to the end
  pub data ServesNone (hub : Around (HubTold U T)) (until : Around SourceTold) (held : K) (service : Service) (opening : Opening)
      (moment : ℕ) : Status → K → Type 0 where
    not_opened : {s : Status} {left : K} → OpensNot (around m.keeper.told held left) service.options.origin opening s
        → Keeps (m.keeper.told held).rows (m.keeper.told left).rows → IsUntouched hub
        → IsUntouched until → ServesNone hub until held service opening moment s left
    not_served : {s : Status} {left : K} → (first : SeenOf K) → OpensBook m.keeper held service.options opening moment first
        → ServesNot hub until service first s left → ServesNone hub until held service opening moment s left
