-- No more updates got ServFail than the keeper's count of faults rose.
use Rattle.std.proofs.Common.{◌≡◌, ◌≤◌, ◌<◌, ◌+◌, ◌⊎◌, inl, inr, ⊎_elim, ℕ, suc, Bool, true, false, if◌then◌else◌, List, [], ◌∷◌, ◌++◌, Option, Some, None, Result, Ok, Err, refl, ◌∙◌, arith}
use mathlib.Core.Option.{some}
use lib.ListN.{get_elem?}
use Rattle.dns_keeper.specs.Keeping.{KeeperOf}
use Rattle.dns_book.specs.declared.ask.Ask.{Ask}
use Rattle.dns_book.specs.declared.ask.Settled.{Settled}
use Rattle.dns_book.specs.Access.{Access}
use Rattle.dns_book.specs.Book.{SeenOf}
use Rattle.dns_book.proofs.Failing.{Settles-later}
use Rattle.dns_server_core.specs.Books.{RoseBy}
use Rattle.dns_edges.specs.Edges.{SourceOf, SinkOf, ClockOf}
use Rattle.dns_ports.specs.Ports.{UdpTold, ListenerOf}
use Rattle.dns_ports.specs.declared.port.Accepted.{Accepted}
use Rattle.dns_requests.specs.declared.serve_fault.ServeFault.{ServeFault}
use Rattle.dns_requests.specs.declared.serve_fault.ServeFault.TheVariants.{Read, Write, Turns, TimedOut, OutOfMemory}
use Rattle.dns_requests.specs.Ends.{Ends, Parts, Terms as ServeTerms}
use Rattle.dns_server_core.specs.FrameRuns.{Run as MessageRun}
use Rattle.dns_requests.specs.Runs.{BreaksOff}
use Rattle.dns_ticket_lock.specs.declared.view.Terms.{Terms}
use Rattle.dns_ticket_lock.specs.Lists.{total}
use Rattle.dns_ticket_lock.specs.Shares.{last}
use Rattle.dns_ticket_lock.specs.Passes.{PassSeen, SettledBy, LeftBy, ClosedFor, pass_faults}
use Rattle.dns_ticket_lock.proofs.Totals.{total_append}
use Rattle.dns_server.specs.declared.worker.Worker.{Worker}
use Rattle.dns_server.specs.Sockets.{Fate, Answered, Refused, Skipped, Handled, Steps, Run as DatagramRun, ask_for}
use Rattle.dns_server.specs.Listeners.{HandedBack, TreatsBy, Run as ConnectionRun}
use Rattle.dns_server.specs.Servers.{Matches, ServedSocket, ServedListener, their_passes}
use Rattle.dns_server.specs.FailedUpdates.{failed_by_step, failed_by_datagram, failed_by_datagrams, failed_by_messages, failed_by_serving, failed_by_connection, failed_by_connections, failed_by_socket, failed_by_listener, added_up}

-- the pass counted so many faults more at least, or it has the mark; and a mark stays. Where these are none it counted no more
pub record GrewBy (n : ℕ) (p q : PassSeen) : Type 0 where
  pub few : (p.account.faults + n ≤ q.account.faults) ⊎ (q.account.marked ≡ true)
  pub mark : p.account.marked ≡ true → q.account.marked ≡ true
  pub still : n ≡ 0 → q.account.faults ≡ p.account.faults

few_more : (a b n x y z : ℕ) (marked marked' : Bool) → n ≡ a + b → (x + a ≤ y) ⊎ (marked ≡ true) → (y + b ≤ z) ⊎ (marked' ≡ true) → (marked ≡ true → marked' ≡ true) → (x + n ≤ z) ⊎ (marked' ≡ true)
few_more a b n x y z marked marked' e (inl h) (inl k) keeps = inl (omega (arith, e, h, k))
few_more a b n x y z marked marked' e (inl h) (inr k) keeps = inr k
few_more a b n x y z marked marked' e (inr h) k keeps = inr (keeps h)

pub GrewBy-more : (a b n : ℕ) (p q r : PassSeen) → n ≡ a + b → GrewBy a p q → GrewBy b q r → GrewBy n p r
GrewBy-more a b n p q r e g h = record {
  few = few_more a b n p.account.faults q.account.faults r.account.faults q.account.marked r.account.marked e g.few h.few h.mark;
  mark = λ m. h.mark (g.mark m);
  still = λ none. h.still (omega (arith, e, none)) ∙ g.still (omega (arith, e, none));
}

pub and_none : (n : ℕ) → n ≡ n + 0
and_none n = omega arith

GrewBy-refl : (p : PassSeen) → GrewBy 0 p p
GrewBy-refl p = record { few = inl (omega arith); mark = λ m. m; still = λ none. refl }

pub GrewBy-none : (p q : PassSeen) → q ≡ p → GrewBy 0 p q
GrewBy-none p q e = rw e (GrewBy-refl p)

pub GrewBy-left : (p q : PassSeen) → LeftBy p q → GrewBy 0 p q
GrewBy-left p q l = record { few = inl (let e = l.account.faults in omega (arith, e)); mark = l.account.mark; still = λ none. l.account.faults }

few_by_step : (flag : Bool) (a b x y : ℕ) (marked : Bool) → b + x ≡ a + y → x ≤ y → (flag ≡ true → (a < b) ⊎ (marked ≡ true)) → (a + (if flag then 1 else 0) ≤ b) ⊎ (marked ≡ true)
few_by_step true a b x y marked counted later fails = ⊎_elim (λ (less : a < b). inl (omega (arith, less))) (λ (m : marked ≡ true). inr m) (fails refl)
few_by_step false a b x y marked counted later fails = inl (omega (arith, counted, later))

no_failure : (flag : Bool) → ◌≡◌ {A = ℕ} (if flag then 1 else 0) 0 → flag ≡ false
no_failure true none = absurd (omega (arith, none))
no_failure false none = refl

-- a run of steps by a pass
module _ {K : Type 0} (keeper : KeeperOf K) (access : Access) where
  pub step_grew : (p : PassSeen) (ask : Ask) (settled : Settled) (q : PassSeen) → (s : SettledBy keeper access p ask settled q) → GrewBy (failed_by_step keeper access p ask settled q s) p q
  step_grew p ask settled q s = record {
    few = few_by_step s.account.settles.failed p.account.faults q.account.faults (keeper.told s.account.book.keeper).faults (keeper.told s.account.later.keeper).faults q.account.marked
        s.account.counted (Settles-later keeper access s.account.book s.account.later _ settled s.account.settles) s.account.failed;
    mark = s.account.mark;
    still = λ none. s.account.calm (no_failure s.account.settles.failed none);
  }

  datagram_grew : (p : PassSeen) (ask : Ask) (fate : Fate) (q : PassSeen) → (s : Steps (SettledBy keeper access) LeftBy p ask fate q) → GrewBy (failed_by_datagram keeper access p ask fate q s) p q
  datagram_grew p ask (Answered settled) q s = step_grew p ask settled q s
  datagram_grew p ask (Refused settled fault) q s = step_grew p ask settled q s.0
  datagram_grew p ask Skipped q s = ⊎_elim (λ (e : q ≡ p). GrewBy-none p q e) (λ (l : LeftBy p q). GrewBy-left p q l) s

  datagrams_grew : (p : PassSeen) (handled : List Handled) (q : PassSeen) → (run : DatagramRun (SettledBy keeper access) LeftBy p handled q)
      → GrewBy (failed_by_datagrams keeper access p handled q run) p q
  datagrams_grew p [] q run = GrewBy-none p q run
  datagrams_grew p (one ∷ others) q run =
      GrewBy-more _ _ _ p run.0 q refl (datagram_grew p (ask_for one.datagram) one.fate run.0 run.1) (datagrams_grew run.0 others q run.2)

  messages_grew : (p : PassSeen) (asks : List Ask) (bytes : List ℕ) (q : PassSeen) → (run : MessageRun (SettledBy keeper access) p asks bytes q)
      → GrewBy (failed_by_messages keeper access p asks bytes q run) p q
  messages_grew p [] bytes q run = GrewBy-none p q run.0
  messages_grew p (ask ∷ asks) bytes q run =
      GrewBy-more _ _ _ p run.1 q refl (step_grew p ask run.0 run.1 run.3) (messages_grew run.1 asks run.2 q run.5)

  breaks_grew : (p : PassSeen) (asks : List Ask) (q : PassSeen) (taken now : Option (List ℕ)) → (b : BreaksOff (SettledBy keeper access) LeftBy p asks q taken now)
      → GrewBy (failed_by_messages keeper access p b.first b.answered.bytes b.last b.answered.run) p q
  breaks_grew p asks q taken now b =
      GrewBy-more _ 0 _ p b.last q (and_none _)
      (messages_grew p b.first b.answered.bytes b.last b.answered.run)
      (⊎_elim (λ (e : q ≡ b.last). GrewBy-none b.last q e) (λ (l : LeftBy b.last q). GrewBy-left b.last q l) b.end)

  serving_grew : {S W C : Type 0} (source : SourceOf S) (sink : SinkOf W) (clock : ClockOf C) (terms : ServeTerms) (before after : Parts PassSeen S W C) (answer : Result ℕ ServeFault)
      → (e : Ends (SettledBy keeper access) LeftBy source sink clock terms before after answer)
      → GrewBy (failed_by_serving keeper access source sink clock terms before after answer e) before.handler after.handler
  serving_grew source sink clock terms before after (Ok n) e = messages_grew _ _ _ _ e.answers.run
  serving_grew source sink clock terms before after (Err Read) e = messages_grew _ _ _ _ e.answers.run
  serving_grew source sink clock terms before after (Err Write) e = messages_grew _ _ _ _ e.answers.run
  serving_grew source sink clock terms before after (Err (Turns n)) e = messages_grew _ _ _ _ e.answers.run
  serving_grew source sink clock terms before after (Err (TimedOut since limit at)) e = messages_grew _ _ _ _ e.answers.run
  serving_grew source sink clock terms before after (Err OutOfMemory) e = breaks_grew _ _ _ _ _ e.answers

  module _ {R W C : Type 0} (source : SourceOf R) (sink : SinkOf W) (clock : ClockOf C) (limit : ℕ) where
    connection_grew : (p : PassSeen) (came back : Accepted R W C) (answer : Option (Result ℕ ServeFault)) (q : PassSeen)
        → (t : TreatsBy (SettledBy keeper access) LeftBy source sink clock limit p came back answer q)
        → GrewBy (failed_by_connection keeper access source sink clock limit p came back answer q t) p q
    connection_grew p came back None q t = GrewBy-none p q t.still
    connection_grew p came back (Some answer) q t = serving_grew source sink clock _ _ _ answer t.ends

    connections_grew : (p : PassSeen) (handled : List (HandedBack R W C)) (q : PassSeen)
        → (run : ConnectionRun (SettledBy keeper access) LeftBy source sink clock limit p handled q)
        → GrewBy (failed_by_connections keeper access source sink clock limit p handled q run) p q
    connections_grew p [] q run = GrewBy-none p q run
    connections_grew p (one ∷ others) q run =
        GrewBy-more _ _ _ p run.0 q refl (connection_grew p one.came one.back one.answer run.0 run.1) (connections_grew run.0 others q run.2)

-- one of them has the mark
abbrev AnyMarked : List PassSeen → Type 0
AnyMarked [] = ⊥
AnyMarked (p ∷ ps) = (p.account.marked ≡ true) ⊎ AnyMarked ps

marked_before : (ps qs : List PassSeen) → AnyMarked ps → AnyMarked (ps ++ qs)
marked_before [] qs a = absurd a
marked_before (p ∷ ps) qs (inl m) = inl m
marked_before (p ∷ ps) qs (inr a) = inr (marked_before ps qs a)

marked_behind : (ps qs : List PassSeen) → AnyMarked qs → AnyMarked (ps ++ qs)
marked_behind [] qs a = a
marked_behind (p ∷ ps) qs a = inr (marked_behind ps qs a)

-- what follows of each that has it
by_mark : (A : Type 0) (ps : List PassSeen) → ((i : ℕ) (p : PassSeen) → get_elem? ps i ≡ some p → p.account.marked ≡ true → A) → AnyMarked ps → A
by_mark A [] f a = absurd a
by_mark A (p ∷ ps) f (inl m) = f 0 p refl m
by_mark A (p ∷ ps) f (inr a) = by_mark A ps (λ i. f (suc i)) a

few_with : (x n rest more : ℕ) (p : PassSeen) (ps : List PassSeen) → (x + n ≤ p.account.faults) ⊎ (p.account.marked ≡ true) → (rest + more ≤ total pass_faults ps) ⊎ AnyMarked ps
    → ((x + rest) + (n + more) ≤ total pass_faults (p ∷ ps)) ⊎ AnyMarked (p ∷ ps)
few_with x n rest more p ps (inl h) (inl k) = inl (omega (arith, h, k))
few_with x n rest more p ps (inl h) (inr a) = inr (inr a)
few_with x n rest more p ps (inr m) k = inr (inl m)

-- the workers' passes counted as many faults more, or one has the mark
module _ {P : Type 0} {R : Worker P → Worker P → Type 0} (f : (x y : Worker P) → R x y → ℕ) (grew : (x y : Worker P) (r : R x y) → GrewBy (f x y r) x.pass y.pass) where
  workers_grew : (xs ys : List (Worker P)) (m : Matches R xs ys) → (total pass_faults (their_passes xs) + added_up f xs ys m ≤ total pass_faults (their_passes ys)) ⊎ AnyMarked (their_passes ys)
  workers_grew [] [] m = inl (omega arith)
  workers_grew [] (y ∷ ys) m = absurd m
  workers_grew (x ∷ xs) [] m = absurd m
  workers_grew (x ∷ xs) (y ∷ ys) m =
      few_with x.pass.account.faults (f x y m.0) (total pass_faults (their_passes xs)) (added_up f xs ys m.1) y.pass (their_passes ys) (grew x y m.0).few (workers_grew xs ys m.1)

  -- where none failed they counted no more
  workers_still : (xs ys : List (Worker P)) (m : Matches R xs ys) → added_up f xs ys m ≡ 0 → total pass_faults (their_passes ys) ≡ total pass_faults (their_passes xs)
  workers_still [] [] m none = refl
  workers_still [] (y ∷ ys) m none = absurd m
  workers_still (x ∷ xs) [] m none = absurd m
  workers_still (x ∷ xs) (y ∷ ys) m none =
      let one : y.pass.account.faults ≡ x.pass.account.faults = (grew x y m.0).still (omega (arith, none)) in
      let others : total pass_faults (their_passes ys) ≡ total pass_faults (their_passes xs) = workers_still xs ys m.1 (omega (arith, none)) in
      omega (arith, one, others)

rose_by_both : (a b n k : ℕ) (start now : ℕ) (ps qs : List PassSeen) → (a + n ≤ total pass_faults ps) ⊎ AnyMarked ps → (b + k ≤ total pass_faults qs) ⊎ AnyMarked qs
    → start + total pass_faults (ps ++ qs) ≡ now → (AnyMarked (ps ++ qs) → now ≡ last) → RoseBy (n + k) start now
rose_by_both a b n k start now ps qs (inl h) (inl j) rise marked = let both = total_append pass_faults ps qs in omega (arith, h, j, rise, both)
rose_by_both a b n k start now ps qs (inl h) (inr m) rise marked = let e = marked (marked_behind ps qs m) in omega (arith, e)
rose_by_both a b n k start now ps qs (inr m) j rise marked = let e = marked (marked_before ps qs m) in omega (arith, e)

-- of a book that was closed for the passes of workers of two kinds, at most as many steps answered an update with ServFail as the keeper's
-- count rose since it was shared, or that stands at its last value
pub few_failed : {K P Q : Type 0} {R : Worker P → Worker P → Type 0} {S : Worker Q → Worker Q → Type 0} (keeper : KeeperOf K)
    (f : (x y : Worker P) → R x y → ℕ) (f_grew : (x y : Worker P) (r : R x y) → GrewBy (f x y r) x.pass y.pass)
    (g : (x y : Worker Q) → S x y → ℕ) (g_grew : (x y : Worker Q) (s : S x y) → GrewBy (g x y s) x.pass y.pass)
    (xs ys : List (Worker P)) (m : Matches R xs ys) (vs ws : List (Worker Q)) (n : Matches S vs ws)
    (t : Terms) (book : SeenOf K) → ClosedFor keeper t (their_passes ys ++ their_passes ws) book
    → RoseBy (added_up f xs ys m + added_up g vs ws n) t.start (keeper.told book.keeper).faults
few_failed keeper f f_grew g g_grew xs ys m vs ws n t book closed =
    rose_by_both _ _ _ _ t.start (keeper.told book.keeper).faults (their_passes ys) (their_passes ws)
    (workers_grew f f_grew xs ys m) (workers_grew g g_grew vs ws n)
    closed.rise (by_mark ((keeper.told book.keeper).faults ≡ last) (their_passes ys ++ their_passes ws) closed.marked)

-- where no step did, and the passes had counted nothing at first, that count is as it was when the book was shared. Other passes may be
-- among those for which it is closed, which have counted nothing
pub still_failed : {K P Q : Type 0} {R : Worker P → Worker P → Type 0} {S : Worker Q → Worker Q → Type 0} (keeper : KeeperOf K)
    (f : (x y : Worker P) → R x y → ℕ) (f_grew : (x y : Worker P) (r : R x y) → GrewBy (f x y r) x.pass y.pass)
    (g : (x y : Worker Q) → S x y → ℕ) (g_grew : (x y : Worker Q) (s : S x y) → GrewBy (g x y s) x.pass y.pass)
    (xs ys : List (Worker P)) (m : Matches R xs ys) (vs ws : List (Worker Q)) (n : Matches S vs ws)
    (t : Terms) (book : SeenOf K) (free : List PassSeen) → ClosedFor keeper t (free ++ (their_passes ys ++ their_passes ws)) book
    → total pass_faults free ≡ 0 → total pass_faults (their_passes xs) ≡ 0 → total pass_faults (their_passes vs) ≡ 0
    → added_up f xs ys m + added_up g vs ws n ≡ 0 → (keeper.told book.keeper).faults ≡ t.start
still_failed keeper f f_grew g g_grew xs ys m vs ws n t book free closed others first second none =
    let one : total pass_faults (their_passes ys) ≡ total pass_faults (their_passes xs) = workers_still f f_grew xs ys m (omega (arith, none)) in
    let two : total pass_faults (their_passes ws) ≡ total pass_faults (their_passes vs) = workers_still g g_grew vs ws n (omega (arith, none)) in
    let all = total_append pass_faults free (their_passes ys ++ their_passes ws) in
    let both = total_append pass_faults (their_passes ys) (their_passes ws) in
    let rise = closed.rise in
    omega (arith, rise, all, both, one, two, others, first, second)

-- the worker of a socket
pub socket_grew : {K U : Type 0} (keeper : KeeperOf K) (access : Access) (socket : U → UdpTold) (x y : Worker U) (s : ServedSocket keeper socket access x y)
    → GrewBy (failed_by_socket keeper access socket x y s) x.pass y.pass
socket_grew keeper access socket x y s = datagrams_grew keeper access x.pass s.works.work.handled y.pass s.works.work.run

-- that of a listener
listener_grew : {K T R W C : Type 0} (keeper : KeeperOf K) (access : Access) (listener : ListenerOf T R W C) (x y : Worker T) (s : ServedListener keeper listener access x y)
    → GrewBy (failed_by_listener keeper access listener x y s) x.pass y.pass
listener_grew keeper access listener x y s =
    connections_grew keeper access listener.input listener.output listener.time x.limit x.pass s.works.work.handled y.pass s.works.work.run

-- of a server's sockets and listeners
pub few_failed_updates : {K U T R W C : Type 0} (keeper : KeeperOf K) (access : Access) (socket : U → UdpTold) (listener : ListenerOf T R W C)
    (xs ys : List (Worker U)) (m : Matches (ServedSocket keeper socket access) xs ys) (vs ws : List (Worker T)) (n : Matches (ServedListener keeper listener access) vs ws)
    (t : Terms) (book : SeenOf K) → ClosedFor keeper t (their_passes ys ++ their_passes ws) book
    → RoseBy (added_up (failed_by_socket keeper access socket) xs ys m + added_up (failed_by_listener keeper access listener) vs ws n) t.start (keeper.told book.keeper).faults
few_failed_updates keeper access socket listener =
    few_failed keeper (failed_by_socket keeper access socket) (socket_grew keeper access socket) (failed_by_listener keeper access listener) (listener_grew keeper access listener)

pub still_failed_updates : {K U T R W C : Type 0} (keeper : KeeperOf K) (access : Access) (socket : U → UdpTold) (listener : ListenerOf T R W C)
    (xs ys : List (Worker U)) (m : Matches (ServedSocket keeper socket access) xs ys) (vs ws : List (Worker T)) (n : Matches (ServedListener keeper listener access) vs ws)
    (t : Terms) (book : SeenOf K) (free : List PassSeen) → ClosedFor keeper t (free ++ (their_passes ys ++ their_passes ws)) book
    → total pass_faults free ≡ 0 → total pass_faults (their_passes xs) ≡ 0 → total pass_faults (their_passes vs) ≡ 0
    → added_up (failed_by_socket keeper access socket) xs ys m + added_up (failed_by_listener keeper access listener) vs ws n ≡ 0 → (keeper.told book.keeper).faults ≡ t.start
still_failed_updates keeper access socket listener =
    still_failed keeper (failed_by_socket keeper access socket) (socket_grew keeper access socket) (failed_by_listener keeper access listener) (listener_grew keeper access listener)
