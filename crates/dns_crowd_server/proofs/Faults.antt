-- Where a worker failed, its port has a count of faults above 0.
use Rattle.std.proofs.Common.{◌≡◌, ◌<◌, ◌+◌, ◌⊎◌, ⊎_elim, ℕ, List, [], ◌∷◌, Result, Err, subst, arith}
use Rattle.std.specs.Prelude.{min}
use Rattle.std.specs.List.{AllByRecursion, sum_by}
use Rattle.std.proofs.lemmas.List.Sums.{sum_by-cons}
use Rattle.dns_io.specs.declared.io_fault.IoFault.{IoFault}
use Rattle.dns_io.specs.declared.io_fault.IoFault.TheVariants.{Failed}
use Rattle.dns_io.specs.Told.{Rose}
use Rattle.dns_edges.specs.Edges.{Around, SourceTold}
use Rattle.dns_keeper.specs.Keeping.{KeeperOf}
use Rattle.dns_book.specs.Access.{Access}
use Rattle.dns_ports.specs.Ports.{CountsPort, IsFreshSocket, UdpTold}
use Rattle.dns_ticket_lock.specs.declared.view.Terms.{Terms}
use Rattle.dns_ticket_lock.specs.Passes.{SettledBy}
use Rattle.dns_crowd.specs.Crowds.{CrowdTold}
use Rattle.dns_crowd.specs.Turns.{EndsBy}
use Rattle.dns_server.specs.declared.worker.Worker.{Worker}
use Rattle.dns_server.specs.Servers.{EndsReading, Matches, RoseAt, ServedSocket, first_fault, or_later, their_ports}
use Rattle.dns_server.proofs.Answering.{or_failed, socket_rose}
use Rattle.dns_crowd_server.specs.Stamps.{AtSomeMoment}
use Rattle.dns_crowd_server.specs.Crews.{ServedCrowd}
use Rattle.dns_crowd_server.specs.Hubs.{IsFreshCrowd, their_faults}
use Rattle.dns_crowd_server.specs.Serving.{Crew, IsNewWorker, crew_answer}

-- a count that is 0 where another is
pub counts_alike : (n before now : ℕ) → CountsPort (min n 1) before now → CountsPort n before now
counts_alike n before now c = record { later = c.later; raised = λ some. c.raised (omega (arith, some)); calm = λ none. c.calm (omega (arith, none)) }

above_none : (before now : ℕ) → before ≡ 0 → Rose before now → 0 < now
above_none before now none rose = omega (arith, none, rose)

-- of workers whose ports had no fault at first
module _ {P : Type 0} (t : Terms) (IsFresh : P → Type 0) (faults : P → ℕ) (none : (port : P) → IsFresh port → faults port ≡ 0) (R : Worker P → Worker P → Type 0)
    (rose : (a b : Worker P) → R a b → b.answer ≡ Err Failed → RoseAt faults a b) where
  some_fault : (xs ys : List (Worker P)) → Matches R xs ys → AllByRecursion (IsNewWorker t IsFresh) xs → first_fault ys ≡ Err Failed → 0 < sum_by faults (their_ports ys)
  some_fault [] [] m new e = absurd cc
  some_fault [] (y ∷ ys) m new e = absurd m
  some_fault (x ∷ xs) [] m new e = absurd m
  some_fault (x ∷ xs) (y ∷ ys) m new e =
      let all : sum_by faults (their_ports (y ∷ ys)) ≡ faults y.port + sum_by faults (their_ports ys) = sum_by-cons faults y.port (their_ports ys) in
      ⊎_elim
      (λ (f : y.answer ≡ Err Failed). let one : 0 < faults y.port = above_none (faults x.port) (faults y.port) (none x.port new.0.port) (rose x y m.0 f) in omega (arith, all, one))
      (λ (f : first_fault ys ≡ Err Failed). let others : 0 < sum_by faults (their_ports ys) = some_fault xs ys m.1 new.1 f in omega (arith, all, others))
      (or_failed y.answer (first_fault ys) e)

-- the worker of a crowd
crowd_rose : {K C : Type 0} (keeper : KeeperOf K) (crowd : C → CrowdTold) (access : Access) (a b : Worker C) → ServedCrowd keeper crowd access a b → b.answer ≡ Err Failed
    → RoseAt (λ port. (crowd port).faults) a b
crowd_rose keeper crowd access a b s e = subst (EndsBy (AtSomeMoment (SettledBy keeper access)) crowd a.pass a.port b.pass b.port) e s.works.ends

-- where the answer of a crew, or of reading beside it, is that one failed, the count of what took its ports back rose
pub hub_rose : {K U C : Type 0} (keeper : KeeperOf K) (socket : U → UdpTold) (crowd : C → CrowdTold) (access : Access) (t : Terms) (before after : Crew U C)
    → AllByRecursion (IsNewWorker t (λ one. IsFreshSocket (socket one))) before.sockets → AllByRecursion (IsNewWorker t (λ one. IsFreshCrowd (crowd one))) before.crowds
    → Matches (ServedSocket keeper socket access) before.sockets after.sockets → Matches (ServedCrowd keeper crowd access) before.crowds after.crowds
    → (until : Around SourceTold) (reading : Result (Unit {0}) IoFault) → EndsReading until reading
    → (old now : ℕ) → CountsPort (their_faults socket crowd (their_ports after.sockets) (their_ports after.crowds)) old now
    → or_later (crew_answer after) reading ≡ Err Failed → Rose old now
hub_rose {K} {U} {C} keeper socket crowd access t before after new_sockets new_crowds m n until reading ended old now counted e =
    ⊎_elim
    (λ (f : crew_answer after ≡ Err Failed). ⊎_elim
    (λ (one : first_fault after.sockets ≡ Err Failed).
    let some : 0 < sum_by (λ (port : U). (socket port).faults) (their_ports after.sockets) =
    some_fault t (λ (port : U). IsFreshSocket (socket port)) (λ (port : U). (socket port).faults) (λ port fresh. fresh.no_fault) (ServedSocket keeper socket access)
    (socket_rose keeper socket access) before.sockets after.sockets m new_sockets one in
    counted.raised (omega (arith, some)))
    (λ (one : first_fault after.crowds ≡ Err Failed).
    let some : 0 < sum_by (λ (port : C). (crowd port).faults) (their_ports after.crowds) =
    some_fault t (λ (port : C). IsFreshCrowd (crowd port)) (λ (port : C). (crowd port).faults) (λ port fresh. fresh.no_fault) (ServedCrowd keeper crowd access)
    (crowd_rose keeper crowd access) before.crowds after.crowds n new_crowds one in
    counted.raised (omega (arith, some)))
    (or_failed (first_fault after.sockets) (first_fault after.crowds) f))
    (λ (f : reading ≡ Err Failed). absurd (subst (EndsReading until) f ended))
    (or_failed (crew_answer after) reading e)
