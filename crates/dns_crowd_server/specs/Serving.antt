-- What is done where a book is served: it is shared among workers of sockets and of crowds, which serve until a source ends, and closed.
use Rattle.std.specs.Prelude.{◌≡◌, ◌+◌, ℕ, List, ◌++◌, length, Result, Err}
use Rattle.std.specs.List.{AllByRecursion}
use Rattle.dns_io.specs.declared.io_fault.IoFault.{IoFault}
use Rattle.dns_io.specs.declared.io_fault.IoFault.TheVariants.{OutOfMemory}
use Rattle.dns_io.specs.Told.{Grows, Keeps, counted}
use Rattle.dns_edges.specs.Edges.{Around, HasCause, SourceTold}
use Rattle.dns_keeper.specs.Keeping.{KeeperOf}
use Rattle.dns_book.specs.Access.{Access}
use Rattle.dns_book.specs.Book.{SeenOf}
use Rattle.dns_ports.specs.Ports.{CountsPort, IsFreshSocket, UdpTold}
use Rattle.dns_server_core.specs.Books.{RoseBy}
use Rattle.dns_ticket_lock.specs.declared.view.Terms.{Terms}
use Rattle.dns_ticket_lock.specs.Naming.{terms_at}
use Rattle.dns_ticket_lock.specs.Rule.{fresh}
use Rattle.dns_ticket_lock.specs.Passes.{AreAll, AreNew, BookId, ClosedFor, InOrder, PassSeen}
use Rattle.dns_crowd.specs.Crowds.{CrowdTold}
use Rattle.dns_server.specs.declared.worker.Worker.{Worker}
use Rattle.dns_server.specs.FailedUpdates.{added_up, failed_by_socket}
use Rattle.dns_server.specs.Servers.{EndsReading, Matches, ServedSocket, first_fault, or_later, their_passes, their_ports}
use Rattle.dns_crowd_server.specs.declared.hub.Places.{Places}
use Rattle.dns_crowd_server.specs.Crews.{ServedCrowd}
use Rattle.dns_crowd_server.specs.FailedUpdates.{failed_by_crowd}
use Rattle.dns_crowd_server.specs.Hubs.{CrowdHubTold, IsFreshCrowd, OpensOnce, crowds_of, seats_of, sockets_of, their_faults}

-- the workers of sockets, and those of crowds
pub record Crew (U C : Type 0) : Type 0 where
  pub sockets : List (Worker U)
  pub crowds : List (Worker C)

-- all their passes
abbrev pub passes_of : {U C : Type 0} → Crew U C → List PassSeen
passes_of crew = their_passes crew.sockets ++ their_passes crew.crowds

-- how they ended: where one failed that is told, whoever wanted memory
abbrev pub crew_answer : {U C : Type 0} → Crew U C → Result (Unit {0}) IoFault
crew_answer crew = or_later (first_fault crew.sockets) (first_fault crew.crowds)

-- how workers ended beside whom this was read: where one failed that is told, else that memory was wanted, by a worker or for reading on
pub record EndsBeside {U C : Type 0} (until : Around SourceTold) (sockets : List (Worker U)) (crowds : List (Worker C))
    (result : Result (Unit {0}) IoFault) : Type 0 where
  pub reading : Result (Unit {0}) IoFault
  pub ended : EndsReading until reading
  pub answer : result ≡ or_later (or_later (first_fault sockets) (first_fault crowds)) reading

-- a worker that has done nothing yet: its pass has seen the opening rows, and its port was not used
pub record IsNewWorker {P : Type 0} (t : Terms) (IsFresh : P → Type 0) (worker : Worker P) : Type 0 where
  pub terms : worker.pass.terms ≡ t
  pub account : worker.pass.account ≡ fresh t
  pub port : IsFresh worker.port

-- the meanings of a keeper, of a socket and of a crowd
module _ {K U C : Type 0} (keeper : KeeperOf K) (socket : U → UdpTold) (crowd : C → CrowdTold) where
  -- as many as are asked for, and each is new; their passes are of the book, and bear the numbers from 1 on in this order
  pub record IsNewCrew (places : Places) (book : BookId) (t : Terms) (crew : Crew U C) : Type 0 where
    pub socket_count : length crew.sockets ≡ sockets_of places
    pub crowd_count : length crew.crowds ≡ crowds_of places
    pub order : InOrder book (passes_of crew)
    pub sockets : AllByRecursion (IsNewWorker t (λ one. IsFreshSocket (socket one))) crew.sockets
    pub crowds : AllByRecursion (IsNewWorker t (λ one. IsFreshCrowd (crowd one))) crew.crowds

  -- each did its work: that of a socket settled each datagram that came, in order, by its pass; that of a crowd settled the messages that
  -- came over its connections as those of one list of events
  pub record Works (access : Access) (before after : Crew U C) : Type 0 where
    pub sockets : Matches (ServedSocket keeper socket access) before.sockets after.sockets
    pub crowds : Matches (ServedCrowd keeper crowd access) before.crowds after.crowds

  -- how many steps of all together answered an update with ServFail because the journal failed (RFC 2136 3.8)
  abbrev pub failed_updates : (access : Access) (before after : Crew U C) → Works access before after → ℕ
  failed_updates access before after works =
      added_up (failed_by_socket keeper access socket) before.sockets after.sockets works.sockets
      + added_up (failed_by_crowd keeper access crowd) before.crowds after.crowds works.crowds

  -- the book was closed for these passes, which are all of it: one with each number from 1 to the seats
  pub record ClosesFor (book : BookId) (t : Terms) (passes : List PassSeen) (last : SeenOf K) : Type 0 where
    pub all : AreAll book t.seats passes
    pub closed : ClosedFor keeper t passes last

  -- each port had a worker, the hub has it back, and its count of faults rose where one of these has a count above 0, and only there. The
  -- source was read until it ended, failed, or found no memory. No more updates got ServFail than the keeper's count of faults rose, unless
  -- that stands at its last value: where none got it that count stood still
  pub record ServesPorts (hub : Around (CrowdHubTold U C)) (until : Around SourceTold) (places : Places) (t : Terms) (access : Access)
      (last : SeenOf K) (result : Result (Unit {0}) IoFault) : Type 0 where
    pub book : BookId
    pub before : Crew U C
    pub after : Crew U C
    pub new : IsNewCrew places book t before
    pub works : Works access before after
    pub sockets_back : Grows hub.before.sockets hub.after.sockets (their_ports after.sockets)
    pub crowds_back : Grows hub.before.crowds hub.after.crowds (their_ports after.crowds)
    pub counted : CountsPort (their_faults socket crowd (their_ports after.sockets) (their_ports after.crowds))
        hub.before.faults hub.after.faults
    pub reading : Result (Unit {0}) IoFault
    pub ended : EndsReading until reading
    pub answer : result ≡ or_later (crew_answer after) reading
    pub closed : ClosesFor book t (passes_of after) last
    pub few : RoseBy (failed_updates access before after works) t.start (keeper.told last.keeper).faults
    pub still : failed_updates access before after works ≡ 0 → (keeper.told last.keeper).faults ≡ t.start

  -- nothing could be opened: the hub failed, and then it counts one more opening that failed, or it found no memory, and then none more.
  -- The book was closed for passes that have settled nothing, in order
  pub record OpensNone (hub : Around (CrowdHubTold U C)) (t : Terms) (last : SeenOf K) (fault : IoFault) : Type 0 where
    pub opened : Keeps hub.before.opened hub.after.opened
    pub sockets_kept : Keeps hub.before.sockets hub.after.sockets
    pub crowds_kept : Keeps hub.before.crowds hub.after.crowds
    pub cause : HasCause {T = Unit {0}} hub.before.faults hub.after.faults (Err fault)
    pub none_made : hub.after.opened_calls ≡ hub.before.opened_calls
    pub failing : hub.after.failed_calls ≡ counted {T = Unit {0}} hub.before.failed_calls (Err fault)
    pub book : BookId
    pub passes : List PassSeen
    pub order : InOrder book passes
    pub new : AreNew t passes
    pub closed : ClosesFor book t passes last
    pub still : (keeper.told last.keeper).faults ≡ t.start

  -- how serving a book ended: no memory was found to share it, and nothing was done; or nothing could be opened; or it was served
  pub data EndsServing (hub : Around (CrowdHubTold U C)) (until : Around SourceTold) (places : Places) (access : Access)
      (first last : SeenOf K) (result : Result (Unit {0}) IoFault) : Type 0 where
    unshared : last ≡ first → hub.after ≡ hub.before → until.after ≡ until.before → result ≡ Err OutOfMemory
        → EndsServing hub until places access first last result
    unopened : (fault : IoFault) → OpensNone hub (terms_at keeper first (seats_of places)) last fault → until.after ≡ until.before
        → result ≡ Err fault → EndsServing hub until places access first last result
    served : OpensOnce hub.before hub.after places
        → ServesPorts hub until places (terms_at keeper first (seats_of places)) access last result
        → EndsServing hub until places access first last result

  -- how many updates got ServFail since the journal failed, by how serving ended
  abbrev pub failed_in : (hub : Around (CrowdHubTold U C)) (until : Around SourceTold) (places : Places) (access : Access)
      (first last : SeenOf K) (result : Result (Unit {0}) IoFault) → EndsServing hub until places access first last result → ℕ
  failed_in hub until places access first last result (unshared same unused untouched answer) = 0
  failed_in hub until places access first last result (unopened fault none untouched answer) = 0
  failed_in hub until places access first last result (served opened ports) = failed_updates access ports.before ports.after ports.works
