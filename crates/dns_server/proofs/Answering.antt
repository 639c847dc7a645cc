-- The answer of serving.
use Rattle.std.proofs.Common.{◌≡◌, ◌⊎◌, inl, inr, ⊎_elim, ◌+◌, ◌∙◌, ℕ, zero, suc, List, [], ◌∷◌, Result, Ok, Err, refl, sym, ap, subst, arith}
use Rattle.std.specs.Prelude.{IfErr, OnOk}
use Rattle.std.specs.List.{AllByRecursion}
use Rattle.dns_io.specs.declared.io_fault.IoFault.{IoFault}
use Rattle.dns_io.specs.declared.io_fault.IoFault.TheVariants.{Failed, OutOfMemory}
use Rattle.dns_io.specs.Told.{Rose, one_more}
use Rattle.dns_transport.specs.declared.error.NetError.{NetError}
use Rattle.dns_transport.specs.declared.error.NetError.TheVariants as net
use Rattle.dns_keeper.specs.Keeping.{KeeperOf}
use Rattle.dns_book.specs.Access.{Access}
use Rattle.dns_edges.specs.Edges.{Around, SourceTold}
use Rattle.dns_ports.specs.Ports.{UdpTold, TcpTold, ListenerOf}
use Rattle.dns_ticket_lock.specs.Passes.{SettledBy, LeftBy}
use Rattle.dns_server.specs.Sockets as sockets
use Rattle.dns_server.specs.Listeners as listeners
use Rattle.dns_server.specs.declared.worker.Worker.{Worker}
use Rattle.dns_server.specs.Servers.{AnswersFor, EndsReading, IsDone, IsReadOut, IsServingError, Matches, MatchesOnce, RoseAt, ServedListener, ServedSocket, ServerSeen, post_of, answer_of, as_net, first_fault, or_later, or_reading}

or_done : (first later : Result (Unit {0}) IoFault) → or_later first later ≡ Ok tt → (first ≡ Ok tt) × (later ≡ Ok tt)
or_done (Ok done) later e = (refl, e)
or_done (Err Failed) later e = absurd cc
or_done (Err OutOfMemory) (Ok done) e = absurd cc
or_done (Err OutOfMemory) (Err fault) e = absurd cc

pub or_failed : (first later : Result (Unit {0}) IoFault) → or_later first later ≡ Err Failed → (first ≡ Err Failed) ⊎ (later ≡ Err Failed)
or_failed (Ok done) later e = inr e
or_failed (Err Failed) later e = inl refl
or_failed (Err OutOfMemory) (Ok done) e = absurd cc
or_failed (Err OutOfMemory) (Err fault) e = inr e

net_done : (answer : Result (Unit {0}) IoFault) → OnOk (as_net answer) (answer ≡ Ok tt)
net_done (Ok done) = refl
net_done (Err Failed) = tt
net_done (Err OutOfMemory) = tt

net_failed : (answer : Result (Unit {0}) IoFault) → as_net answer ≡ Err net.Io → answer ≡ Err Failed
net_failed (Ok done) e = absurd cc
net_failed (Err Failed) e = refl
net_failed (Err OutOfMemory) e = absurd cc

net_kind : (answer : Result (Unit {0}) IoFault) → IfErr (as_net answer) IsServingError
net_kind (Ok done) = tt
net_kind (Err Failed) = inl refl
net_kind (Err OutOfMemory) = inr refl

on_ok : (answer : Result (Unit {0}) NetError) (A B : Type 0) → (A → B) → OnOk answer A → OnOk answer B
on_ok (Ok done) A B f a = f a
on_ok (Err error) A B f a = tt

first_done : {P : Type 0} (workers : List (Worker P)) → first_fault workers ≡ Ok tt → AllByRecursion IsDone workers
first_done [] e = tt
first_done (w ∷ ws) e = let both = or_done w.answer (first_fault ws) e in (both.0, first_done ws both.1)

first_rose : {P : Type 0} (faults : P → ℕ) (R : Worker P → Worker P → Type 0) → ((a b : Worker P) → R a b → b.answer ≡ Err Failed → RoseAt faults a b)
    → (xs ys : List (Worker P)) → Matches R xs ys → first_fault ys ≡ Err Failed → MatchesOnce (RoseAt faults) xs ys
first_rose faults R rose [] [] m e = absurd cc
first_rose faults R rose [] (y ∷ ys) m e = absurd m
first_rose faults R rose (x ∷ xs) [] m e = absurd m
first_rose faults R rose (x ∷ xs) (y ∷ ys) m e = ⊎_elim (λ f. inl (rose x y m.0 f)) (λ f. inr (first_rose faults R rose xs ys m.1 f)) (or_failed y.answer (first_fault ys) e)

-- how the workers ended answers for them
pub answers_for : {U T I O C : Type 0} (socket : U → UdpTold) (listener : T → TcpTold I O C) (R : Worker U → Worker U → Type 0) (S : Worker T → Worker T → Type 0)
    → ((a b : Worker U) → R a b → b.answer ≡ Err Failed → RoseAt (λ port. (socket port).faults) a b) → ((a b : Worker T) → S a b → b.answer ≡ Err Failed → RoseAt (λ port. (listener port).faults) a b)
    → (before after : ServerSeen U T) → Matches R before.sockets after.sockets → Matches S before.listeners after.listeners
    → (result : Result (Unit {0}) NetError) → result ≡ answer_of after → AnswersFor socket listener before after result
answers_for socket listener R S r s before after m n result is =
    let all : OnOk (answer_of after) ((first_fault after.sockets ≡ Ok tt) × (first_fault after.listeners ≡ Ok tt)) =
    on_ok (answer_of after) _ _ (or_done (first_fault after.sockets) (first_fault after.listeners)) (net_done (or_later (first_fault after.sockets) (first_fault after.listeners))) in
    rw is (record {
      sockets = on_ok (answer_of after) _ _ (λ (both : (first_fault after.sockets ≡ Ok tt) × (first_fault after.listeners ≡ Ok tt)). first_done after.sockets both.0) all;
      listeners = on_ok (answer_of after) _ _ (λ (both : (first_fault after.sockets ≡ Ok tt) × (first_fault after.listeners ≡ Ok tt)). first_done after.listeners both.1) all;
      failed = λ e. ⊎_elim
          (λ f. inl (first_rose (λ port. (socket port).faults) R r before.sockets after.sockets m f))
          (λ f. inr (first_rose (λ port. (listener port).faults) S s before.listeners after.listeners n f))
          (or_failed (first_fault after.sockets) (first_fault after.listeners) (net_failed _ e));
      kind = net_kind (or_later (first_fault after.sockets) (first_fault after.listeners));
    })

-- and still does, where memory ran out in reading
pub answers_reading : {U T I O C : Type 0} (socket : U → UdpTold) (listener : T → TcpTold I O C) (before after : ServerSeen U T) (answer : Result (Unit {0}) NetError) (until : Around SourceTold) (reading : Result (Unit {0}) IoFault)
    → AnswersFor socket listener before after answer → EndsReading until reading → AnswersFor socket listener before after (or_reading answer reading)
answers_reading socket listener before after (Ok done) until (Ok end) a k = a
answers_reading socket listener before after (Ok done) until (Err Failed) a k = absurd k
answers_reading socket listener before after (Ok done) until (Err OutOfMemory) a k = record { sockets = tt; listeners = tt; failed = λ e. absurd cc; kind = inr refl }
answers_reading socket listener before after (Err error) until reading a k = a

pub reading_ended : (answer : Result (Unit {0}) NetError) (until : Around SourceTold) (reading : Result (Unit {0}) IoFault) → EndsReading until reading → OnOk (or_reading answer reading) (IsReadOut until)
reading_ended (Ok done) until (Ok end) a = a
reading_ended (Ok done) until (Err Failed) a = absurd a
reading_ended (Ok done) until (Err OutOfMemory) a = tt
reading_ended (Err error) until reading a = tt

-- a count rose where one call failed, beside how many others
rose_behind : (n before : ℕ) → Rose before (one_more (sockets.raised n before))
rose_behind zero before = omega arith
rose_behind (suc n) before = omega (arith, rose_behind n before)

rose_at_least : (n before now : ℕ) → now ≡ sockets.raised (n + 1) before → Rose before now
rose_at_least n before now is =
    let more : suc n ≡ n + 1 = omega arith in subst (λ (k : ℕ). Rose before k) (ap (λ (k : ℕ). sockets.raised k before) more ∙ sym is) (rose_behind n before)

-- a worker that failed
module _ {K : Type 0} (keeper : KeeperOf K) where
  pub socket_rose : {U : Type 0} (socket : U → UdpTold) (access : Access) (a b : Worker U) → ServedSocket keeper socket access a b → b.answer ≡ Err Failed → RoseAt (λ port. (socket port).faults) a b
  socket_rose socket access a b s e =
      rose_at_least (sockets.failures s.works.work.handled) _ _ (subst (sockets.EndsBy (SettledBy keeper access) LeftBy socket (post_of a) (post_of b) s.works.work.handled) e s.works.ends)

  pub listener_rose : {T R W C : Type 0} (listener : ListenerOf T R W C) (access : Access) (a b : Worker T) → ServedListener keeper listener access a b → b.answer ≡ Err Failed
      → RoseAt (λ port. (listener.told port).faults) a b
  listener_rose listener access a b s e = subst (listeners.EndsBy (SettledBy keeper access) LeftBy listener a.limit (post_of a) (post_of b) s.works.work.handled) e s.works.ends
