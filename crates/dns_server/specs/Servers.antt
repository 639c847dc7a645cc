-- A server that shares a book among workers.
use Rattle.std.specs.Prelude.{◌≡◌, ◌⊎◌, ◌+◌, ◌<◌, ◌≤◌, ◌==◌, if◌then◌else◌, ℕ, Bool, true, false, List, [], ◌∷◌, ◌++◌, length, map, Result, Ok, Err, IfErr, IsErrOf, OnOk}
use Rattle.std.specs.List.{AllByRecursion}
use Rattle.dns_io.specs.declared.io_fault.IoFault.{IoFault}
use Rattle.dns_io.specs.declared.io_fault.IoFault.TheVariants as io
use Rattle.dns_io.specs.Told.{Rose, Takes}
use Rattle.dns_edges.specs.Edges.{Around, SourceTold}
use Rattle.dns_keeper.specs.Keeping.{KeeperOf}
use Rattle.dns_transport.specs.declared.error.NetError.{NetError}
use Rattle.dns_transport.specs.declared.error.NetError.TheVariants.{Io, OutOfMemory}
use Rattle.dns_transport.specs.Faults.{of_io}
use Rattle.dns_book.specs.Access.{Access}
use Rattle.dns_ports.specs.Ports.{UdpTold, TcpTold, ListenerOf}
use Rattle.dns_ticket_lock.specs.Passes.{BookSeen, PassSeen, IsSame, SettledBy, LeftBy}
use Rattle.dns_server.specs.declared.worker.Worker.{Worker}
use Rattle.dns_server.specs.declared.fault.RegisterFault.{RegisterFault}
use Rattle.dns_server.specs.declared.fault.RegisterFault.TheVariants.{Full, OutOfMemory as NoMemory}
use Rattle.dns_server.specs.Sockets.{IsAtEnd, Post, WorksSocket}
use Rattle.dns_server.specs.Listeners.{WorksListener}

-- the shared book, who is let in, the passes of no worker, in order of their numbers at first, and the workers of sockets and of
-- listeners, in order of registration
pub record ServerSeen (U T : Type 0) : Type 0 where
  pub book : BookSeen
  pub access : Access
  pub free : List PassSeen
  pub sockets : List (Worker U)
  pub listeners : List (Worker T)

-- the passes of workers
abbrev pub their_passes : {P : Type 0} → List (Worker P) → List PassSeen
their_passes = map (λ w. w.pass)

-- their ports
abbrev pub their_ports : {P : Type 0} → List (Worker P) → List P
their_ports = map (λ w. w.port)

-- all passes of the book
abbrev pub all_passes : {U T : Type 0} → ServerSeen U T → List PassSeen
all_passes s = s.free ++ (their_passes s.sockets ++ their_passes s.listeners)

-- how many workers there are
abbrev pub worker_count : {U T : Type 0} → ServerSeen U T → ℕ
worker_count s = length s.sockets + length s.listeners

-- a pass of the book
abbrev pub IsOf : BookSeen → PassSeen → Type 0
IsOf book p = (p.book ≡ book.id) × (p.terms ≡ book.terms)

-- how many of these have the number
abbrev pub having : ℕ → List PassSeen → ℕ
having number [] = 0
having number (p ∷ ps) = (if p.number == number then 1 else 0) + having number ps

-- the server has all passes of the book: as many as there are seats, and one with each number
pub record IsWhole {U T : Type 0} (s : ServerSeen U T) : Type 0 where
  pub many : length s.free + worker_count s ≡ s.book.terms.seats
  pub theirs : AllByRecursion (IsOf s.book) s.free × AllByRecursion (IsOf s.book) (their_passes s.sockets)
      × AllByRecursion (IsOf s.book) (their_passes s.listeners)
  pub each : (k : ℕ) → k < s.book.terms.seats
      → 0 < having (k + 1) s.free + having (k + 1) (their_passes s.sockets) + having (k + 1) (their_passes s.listeners)

-- the first free pass went to a worker of this port, which came last
pub record TakesOn {P : Type 0} (port : P) (limit : ℕ) (free : List PassSeen) (workers : List (Worker P)) (left : List PassSeen)
    (now : List (Worker P)) : Type 0 where
  pub pass : PassSeen
  pub first : free ≡ pass ∷ left
  pub last : now ≡ workers ++ record { pass = pass; port = port; limit = limit; answer = Ok tt } ∷ []

-- or, where memory ran out, nothing changed, and the port is given back
abbrev pub MayTakeOn : {P : Type 0} → P → ℕ → List PassSeen → List (Worker P)
    → List PassSeen → List (Worker P) → Result (Unit {0}) P → Type 0
MayTakeOn port limit free workers left now (Ok done) = TakesOn port limit free workers left now
MayTakeOn port limit free workers left now (Err given) = (given ≡ port) × (left ≡ free) × (now ≡ workers)

-- a pass, and the port whose messages it settles
abbrev pub post_of : {P : Type 0} → Worker P → Post PassSeen P
post_of w = record { handler = w.pass; port = w.port }

-- as many, and each stands so to the one at its place
abbrev pub Matches : {A B : Type 0} → (A → B → Type 0) → List A → List B → Type 0
Matches R [] [] = Unit {0}
Matches R [] (y ∷ ys) = ⊥
Matches R (x ∷ xs) [] = ⊥
Matches R (x ∷ xs) (y ∷ ys) = R x y × Matches R xs ys

-- one of them stands so to the one at its place
abbrev pub MatchesOnce : {A B : Type 0} → (A → B → Type 0) → List A → List B → Type 0
MatchesOnce R [] ys = ⊥
MatchesOnce R (x ∷ xs) [] = ⊥
MatchesOnce R (x ∷ xs) (y ∷ ys) = R x y ⊎ MatchesOnce R xs ys

-- the meaning of a keeper, and what a socket tells
module _ {K U : Type 0} (keeper : KeeperOf K) (socket : U → UdpTold) (access : Access) where
  -- what a worker of a socket did, by its own pass
  pub record ServedSocket (before after : Worker U) : Type 0 where
    pub same : IsSame before.pass after.pass
    pub limit : after.limit ≡ before.limit
    pub works : WorksSocket (SettledBy keeper access) LeftBy socket (post_of before) (post_of after) after.answer

-- the meanings of a keeper, and of a listener and its connections
module _ {K T R W C : Type 0} (keeper : KeeperOf K) (listener : ListenerOf T R W C) (access : Access) where
  -- what a worker of a listener did, by its own pass, with the limit of its registration
  pub record ServedListener (before after : Worker T) : Type 0 where
    pub same : IsSame before.pass after.pass
    pub limit : after.limit ≡ before.limit
    pub works : WorksListener (SettledBy keeper access) LeftBy listener before.limit (post_of before) (post_of after) after.answer

-- nothing but the workers changed
pub record IsServer {U T : Type 0} (before after : ServerSeen U T) : Type 0 where
  pub book : after.book ≡ before.book
  pub access : after.access ≡ before.access
  pub free : after.free ≡ before.free

-- all passes are the same ones, each at its place: of the same book, and with the same number
abbrev pub KeepsPasses : {U T : Type 0} → ServerSeen U T → ServerSeen U T → Type 0
KeepsPasses before after = Matches IsSame (all_passes before) (all_passes after)

-- a worker ended well
abbrev pub IsDone : {P : Type 0} → Worker P → Type 0
IsDone w = w.answer ≡ Ok tt

-- the fault of two answers that is told: that something failed, where one of them says it; else that memory was wanted
abbrev pub or_later : Result (Unit {0}) IoFault → Result (Unit {0}) IoFault → Result (Unit {0}) IoFault
or_later (Ok done) later = later
or_later (Err io.Failed) later = Err io.Failed
or_later (Err io.OutOfMemory) (Ok done) = Err io.OutOfMemory
or_later (Err io.OutOfMemory) (Err fault) = Err fault

-- and of workers: where one failed that is told, whoever wanted memory
abbrev pub first_fault : {P : Type 0} → List (Worker P) → Result (Unit {0}) IoFault
first_fault [] = Ok tt
first_fault (w ∷ ws) = or_later w.answer (first_fault ws)

-- as an error of the network
abbrev pub as_net : Result (Unit {0}) IoFault → Result (Unit {0}) NetError
as_net (Ok done) = Ok tt
as_net (Err fault) = Err (of_io fault)

-- how the workers ended, sockets' and listeners'
abbrev pub answer_of : {U T : Type 0} → ServerSeen U T → Result (Unit {0}) NetError
answer_of s = as_net (or_later (first_fault s.sockets) (first_fault s.listeners))

-- the error of workers, else the one of reading what is served until, which is want of memory alone
abbrev pub or_reading : Result (Unit {0}) NetError → Result (Unit {0}) IoFault → Result (Unit {0}) NetError
or_reading (Ok done) reading = as_net reading
or_reading (Err error) reading = Err error

-- what is served until was read to its end, and no read failed; or one failed
abbrev pub IsReadOut : Around SourceTold → Type 0
IsReadOut until = (IsAtEnd until.after.left × (until.after.faults ≡ until.before.faults)) ⊎ Rose until.before.faults until.after.faults

-- how reading it ended, by the answer: that no memory was found to read on says that no read failed
abbrev pub EndsReading : Around SourceTold → Result (Unit {0}) IoFault → Type 0
EndsReading until (Ok done) = IsReadOut until
EndsReading until (Err io.Failed) = ⊥
EndsReading until (Err io.OutOfMemory) = until.after.faults ≡ until.before.faults

-- the answer of serving, by how the workers ended, while this was read until its end, or its first fault, or want of memory
pub record ServesUntil (until : Around SourceTold) (theirs result : Result (Unit {0}) NetError) : Type 0 where
  pub reading : Result (Unit {0}) IoFault
  pub ended : EndsReading until reading
  pub answer : result ≡ or_reading theirs reading
  pub read : (bytes : List ℕ) × Takes until.before.left until.after.left bytes
  pub later : until.before.faults ≤ until.after.faults

-- a port's count of faults rose
abbrev pub RoseAt : {P : Type 0} → (P → ℕ) → Worker P → Worker P → Type 0
RoseAt faults before after = Rose (faults before.port) (faults after.port)

-- the errors of serving
abbrev pub IsServingError : NetError → Type 0
IsServingError e = (e ≡ Io) ⊎ (e ≡ OutOfMemory)

-- the answer of serving: fine where each worker ended well, and `Io` only where the count of a port rose
pub record AnswersFor {U T R W C : Type 0} (socket : U → UdpTold) (listener : T → TcpTold R W C) (before after : ServerSeen U T)
    (result : Result (Unit {0}) NetError) : Type 0 where
  pub sockets : OnOk result (AllByRecursion IsDone after.sockets)
  pub listeners : OnOk result (AllByRecursion IsDone after.listeners)
  pub failed : IsErrOf result Io
      → MatchesOnce (RoseAt (λ port. (socket port).faults)) before.sockets after.sockets
      ⊎ MatchesOnce (RoseAt (λ port. (listener port).faults)) before.listeners after.listeners
  pub kind : IfErr result IsServingError

-- why a port is not registered: exactly where there are as many workers as seats it is that
abbrev pub is_full : {P : Type 0} → Result (Unit {0}) (RegisterFault P) → Bool
is_full (Err (Full port)) = true
is_full _ = false

-- the port that is given back
abbrev pub given_back : {P : Type 0} → RegisterFault P → P
given_back (Full port) = port
given_back (NoMemory port) = port
