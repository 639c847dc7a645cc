-- What serving comes to, by what its parts did.
use Rattle.std.proofs.Common.{◌≡◌, ◌⊎◌, ℕ, ◌+◌, List, [], ◌∷◌, ◌++◌, inl, inr, length, refl, sym, ap, subst, ◌∙◌, append-nil, append_assoc, arith}
use Rattle.std.specs.List.{AllByRecursion}
use Rattle.dns_io.proofs.ToldContents.{Grows-Keeps, Keeps-Grows}
use Rattle.dns_edges.specs.Edges.{Around, SourceTold}
use Rattle.dns_book.specs.Access.{Access}
use Rattle.dns_book.specs.Book.{SeenOf}
use Rattle.dns_ports.specs.Ports.{UdpTold, TcpTold, HubTold, IsFreshSocket, IsFreshListener}
use Rattle.dns_ticket_lock.specs.declared.view.Terms.{Terms}
use Rattle.dns_ticket_lock.specs.Naming.{terms_at}
use Rattle.dns_ticket_lock.specs.Passes.{BookSeen, PassSeen, InOrder, AreNew, AreAll, ArePasses, ClosedFor}
use Rattle.dns_server.specs.declared.worker.Worker.{Worker}
use Rattle.dns_server.specs.Servers.{ServerSeen, IsServer, Matches, MatchesOnce, RoseAt, IsDone, IsReadOut, all_passes, their_passes, their_ports}
use Rattle.dns_command.specs.declared.status.Status.{Status}
use Rattle.dns_command.specs.declared.status.Status.TheVariants as status
use Rattle.dns_command.specs.declared.listening_words.Listening.{Listening}
use Rattle.dns_command.specs.declared.listening_words.Service.{Service}
use Rattle.dns_command.specs.CommandLine.{access_of}
use Rattle.dns_command.specs.ListeningWords.{sockets_of, listeners_of, seats_of}
use Rattle.dns_listeners.specs.Hubs.{Meanings, HasAllBack, TakesFaulty}
use Rattle.dns_listeners.specs.Serving.{IsPortCause, IsNewWorker, Crew, passes_of, openings_of, ServesSocket, ServesListener, Works, ServesPorts, SharesPasses, ClosedForAll, MayBeRead}
use Rattle.dns_listeners.specs.ServingParts.{IsManned, IsSameServer, Registers, OpensAll, HasFaultyPort, HasCrew, IsOpenCause, IsCauseSoFar, TakesBack, crew_of, emptied, ServesWell, ServesBook, LeavesBook}
use Rattle.dns_listeners.proofs.Crews.{matches_length, fault_found, over, EndsWith-kept, EndsWith-then}

no_items : {X : Type 0} (xs : List X) → length xs ≡ 0 → xs ≡ []
no_items [] e = refl
no_items (x ∷ xs) e = absurd cc

-- a new server's passes are all free, in order
pub new_server : {U T R W C : Type 0} (F : U → UdpTold) (G : T → TcpTold R W C) (limit : ℕ) (s : ServerSeen U T) → ArePasses s.book s.free → s.sockets ≡ [] → s.listeners ≡ [] → IsManned F G limit s
new_server {U} {T} F G limit s passes none_s none_l = record {
  free = passes.new;
  seats = let a = passes.many in let b = ap length none_s in let c = ap length none_l in omega (arith, a, b, c);
  order = subst (λ (l : List PassSeen). InOrder s.book.id l)
      (sym (ap (λ (l : List (Worker U)). their_passes l ++ (their_passes s.listeners ++ s.free)) none_s ∙ ap (λ (l : List (Worker T)). their_passes l ++ s.free) none_l)) passes.order;
  sockets = subst (λ (l : List (Worker U)). AllByRecursion (IsNewWorker s.book.terms 0 (λ p. IsFreshSocket (F p))) l) (sym none_s) tt;
  listeners = subst (λ (l : List (Worker T)). AllByRecursion (IsNewWorker s.book.terms limit (λ p. IsFreshListener (G p))) l) (sym none_l) tt;
}

module _ {K U T R W C : Type 0} (m : Meanings K U T R W C) where
  abbrev FreshSocket : U → Type 0
  FreshSocket port = IsFreshSocket (m.socket port)

  abbrev FreshListener : T → Type 0
  FreshListener port = IsFreshListener (m.listener.told port)

  -- the ports were opened, and served well
  pub served_well : (hub : Around (HubTold U T)) (until : Around SourceTold) (listening : Listening) (s0 s1 s2 : ServerSeen U T)
      → s0.sockets ≡ [] → s0.listeners ≡ [] → s0.book.terms.seats ≡ seats_of listening
      → IsManned m.socket m.listener.told listening.limit s1 → IsSameServer s0 s1
      → length s1.sockets ≡ length s0.sockets + sockets_of listening → length s1.listeners ≡ length s0.listeners + listeners_of listening
      → IsServer s1 s2 → Matches (ServesSocket m s1.access) s1.sockets s2.sockets → Matches (ServesListener m s1.access) s1.listeners s2.listeners
      → AllByRecursion IsDone s2.sockets → AllByRecursion IsDone s2.listeners
      → OpensAll hub (openings_of listening) → IsReadOut until
      → ServesWell m hub until listening s0 s2
  served_well hub until listening s0 s1 s2 none_s none_l seats manned same count_s count_l server matched_s matched_l done_s done_l opens read =
      let zs = ap length none_s in
      let zl = ap length none_l in
      let none_free : s1.free ≡ [] = no_items s1.free (let q = manned.seats in let b = ap (λ (x : BookSeen). x.terms.seats) same.book in omega (arith, zs, zl, count_s, count_l, seats, q, b)) in
      record {
        crew = crew_of s1;
        new = record {
          socket_count = omega (arith, zs, count_s);
          listener_count = omega (arith, zl, count_l);
          order = subst (λ (b : BookSeen). InOrder b.id (passes_of (crew_of s1))) same.book
              (subst (λ (l : List PassSeen). InOrder s1.book.id l)
              (ap (λ (l : List PassSeen). their_passes s1.sockets ++ (their_passes s1.listeners ++ l)) none_free ∙ ap (λ (l : List PassSeen). their_passes s1.sockets ++ l) (append-nil (their_passes s1.listeners)))
              manned.order);
          new_sockets = subst (λ (b : BookSeen). AllByRecursion (IsNewWorker b.terms 0 FreshSocket) s1.sockets) same.book manned.sockets;
          new_listeners = subst (λ (b : BookSeen). AllByRecursion (IsNewWorker b.terms listening.limit FreshListener) s1.listeners) same.book manned.listeners;
        };
        worked = record {
          sockets = subst (λ (a : Access). Matches (ServesSocket m a) s1.sockets s2.sockets) same.access matched_s;
          listeners = subst (λ (a : Access). Matches (ServesListener m a) s1.listeners s2.listeners) same.access matched_l;
          sockets_done = done_s;
          listeners_done = done_l;
        };
        free = server.free ∙ none_free;
        opens = opens;
        read = read;
      }

  -- the workers that were taken on, with these passes of no worker
  shared_by : (limit : ℕ) (s0 s1 : ServerSeen U T) (after : Crew U T) (free : List PassSeen) → IsManned m.socket m.listener.told limit s1 → IsSameServer s0 s1 → free ≡ s1.free
      → (after ≡ crew_of s1) ⊎ Works m s0.access (crew_of s1) after → SharesPasses m s0.book.id s0.book.terms limit s0.access (crew_of s1) after free
  shared_by limit s0 s1 after free manned same is worked = record {
    many = let a = manned.seats in let b = ap (λ (x : BookSeen). x.terms.seats) same.book in let c = ap length is in omega (arith, a, b, c);
    order = subst (λ (b : BookSeen). InOrder b.id (passes_of (crew_of s1) ++ free)) same.book
        (subst (λ (l : List PassSeen). InOrder s1.book.id l)
        (sym (append_assoc (their_passes s1.sockets) (their_passes s1.listeners) s1.free) ∙ ap (λ (l : List PassSeen). passes_of (crew_of s1) ++ l) (sym is)) manned.order);
    new_sockets = subst (λ (b : BookSeen). AllByRecursion (IsNewWorker b.terms 0 FreshSocket) s1.sockets) same.book manned.sockets;
    new_listeners = subst (λ (b : BookSeen). AllByRecursion (IsNewWorker b.terms limit FreshListener) s1.listeners) same.book manned.listeners;
    new_free = subst (λ (b : BookSeen). AreNew b.terms free) same.book (subst (λ (l : List PassSeen). AreNew s1.book.terms l) (sym is) manned.free);
    worked = worked;
  }

  -- ports were not all opened
  pub crew_unused : (limit : ℕ) (s0 s1 : ServerSeen U T) → IsManned m.socket m.listener.told limit s1 → IsSameServer s0 s1 → HasCrew m limit s0 s1
  crew_unused limit s0 s1 manned same = record { opened = crew_of s1; shared = shared_by limit s0 s1 (crew_of s1) s1.free manned same refl (inl refl) }

  -- they were, and served
  pub crew_served : (limit : ℕ) (s0 s1 s2 : ServerSeen U T) → IsManned m.socket m.listener.told limit s1 → IsSameServer s0 s1 → IsServer s1 s2
      → Matches (ServesSocket m s1.access) s1.sockets s2.sockets → Matches (ServesListener m s1.access) s1.listeners s2.listeners → HasCrew m limit s0 s2
  crew_served limit s0 s1 s2 manned same server matched_s matched_l = record {
    opened = crew_of s1;
    shared = shared_by limit s0 s1 (crew_of s2) s2.free manned same server.free (inr (record {
      sockets = subst (λ (a : Access). Matches (ServesSocket m a) s1.sockets s2.sockets) same.access matched_s;
      listeners = subst (λ (a : Access). Matches (ServesListener m a) s1.listeners s2.listeners) same.access matched_l;
    }));
  }

  abbrev Faulty : ServerSeen U T → Type 0
  Faulty s = HasFaultyPort m.socket m.listener.told s

  -- and the ports handed back
  counted_back : (a b c : HubTold U T) (s2 : ServerSeen U T) → (Faulty s2 → TakesFaulty m (over a c) (their_ports s2.sockets) (their_ports s2.listeners))
      → b.faults ≡ a.faults → (c.faults ≡ b.faults) ⊎ Faulty s2 → (c.faults ≡ a.faults) ⊎ TakesFaulty m (over a c) (their_ports s2.sockets) (their_ports s2.listeners)
  counted_back a b c s2 taken calm (inl same) = inl (same ∙ calm)
  counted_back a b c s2 taken calm (inr faulty) = inr (taken faulty)

  pub served_ports : (a b c : HubTold U T) (until : Around SourceTold) (listening : Listening) (s0 s2 : ServerSeen U T)
      → (w : ServesWell m (over a b) until listening s0 s2) → TakesBack (over b c) s2 (Faulty s2)
      → ServesPorts m (over a c) listening s0.book.id s0.book.terms s0.access w.crew (crew_of s2)
  served_ports a b c until listening s0 s2 w back = record {
    opened = Grows-Keeps a.openings b.openings c.openings (openings_of listening) w.opens.opened back.opened;
    calls = back.calls ∙ w.opens.calls;
    unfailed = back.unfailed ∙ w.opens.unfailed;
    new = w.new;
    worked = w.worked;
    sockets_back = Keeps-Grows a.closed_udp b.closed_udp c.closed_udp (their_ports s2.sockets) w.opens.sockets back.sockets;
    listeners_back = Keeps-Grows a.closed_tcp b.closed_tcp c.closed_tcp (their_ports s2.listeners) w.opens.listeners back.listeners;
    counted = counted_back a b c s2
        (λ faulty. record {
          sockets_back = EndsWith-then a.closed_udp b.closed_udp c.closed_udp (their_ports s2.sockets) (EndsWith-kept a.closed_udp b.closed_udp w.opens.sockets) back.sockets;
          listeners_back = EndsWith-then a.closed_tcp b.closed_tcp c.closed_tcp (their_ports s2.listeners) (EndsWith-kept a.closed_tcp b.closed_tcp w.opens.listeners) back.listeners;
          faulty = faulty;
        })
        w.opens.faults back.calm;
  }

  -- a port that was taken back has a fault
  taken_faulty : (a b c : HubTold U T) (s0 s2 : ServerSeen U T) → Registers (over a b) s0 s2 → TakesBack (over b c) s2 (Faulty s2) → Faulty s2 → TakesFaulty m (over a c) (their_ports s2.sockets) (their_ports s2.listeners)
  taken_faulty a b c s0 s2 registers back faulty = record {
    sockets_back = EndsWith-then a.closed_udp b.closed_udp c.closed_udp (their_ports s2.sockets) registers.sockets_back back.sockets;
    listeners_back = EndsWith-then a.closed_tcp b.closed_tcp c.closed_tcp (their_ports s2.listeners) registers.listeners_back back.listeners;
    faulty = faulty;
  }

  -- at the end the hub's count rose, where an opening failed, or a port that it took back had a fault, and only there
  cause_at_end : (a b c : HubTold U T) (listening : Listening) (s0 s2 : ServerSeen U T) (s : Status) → Registers (over a b) s0 s2 → TakesBack (over b c) s2 (Faulty s2) → IsCauseSoFar (over a b) listening (Faulty s2) s
      → IsPortCause m (over a c) listening (their_ports s2.sockets) (their_ports s2.listeners) s
  cause_at_end a b c listening s0 s2 status.PortFault registers back (inl failed) = (let k = back.later in let rose = failed.0 in omega (arith, k, rose), inl (back.unfailed ∙ failed.1))
  cause_at_end a b c listening s0 s2 status.PortFault registers back (inr faulty) = (
    let h = registers.later in let rose = back.raised faulty.2 in omega (arith, h, rose),
    inr (back.unfailed ∙ faulty.0, back.calls ∙ faulty.1, taken_faulty a b c s0 s2 registers back faulty.2),
  )
  cause_at_end a b c listening s0 s2 status.OutOfMemory registers back calm =
      (back.unfailed ∙ calm.1, counted_back a b c s2 (taken_faulty a b c s0 s2 registers back) calm.0 back.calm)
  cause_at_end a b c listening s0 s2 status.Ok registers back cause = absurd cause
  cause_at_end a b c listening s0 s2 status.Usage registers back cause = absurd cause
  cause_at_end a b c listening s0 s2 (status.ZoneText line kind) registers back cause = absurd cause
  cause_at_end a b c listening s0 s2 (status.EventLine line) registers back cause = absurd cause
  cause_at_end a b c listening s0 s2 status.NotValid registers back cause = absurd cause
  cause_at_end a b c listening s0 s2 (status.Recovery row kind) registers back cause = absurd cause
  cause_at_end a b c listening s0 s2 status.ReadFault registers back cause = absurd cause
  cause_at_end a b c listening s0 s2 status.WriteFault registers back cause = absurd cause
  cause_at_end a b c listening s0 s2 status.KeeperFault registers back cause = absurd cause
  cause_at_end a b c listening s0 s2 status.TooLong registers back cause = absurd cause

-- the hub has all back
pub all_back : {U T : Type 0} (a b c : HubTold U T) (s0 s2 : ServerSeen U T) (IsFaulty : Type 0) → s0.sockets ≡ [] → s0.listeners ≡ [] → Registers (over a b) s0 s2 → TakesBack (over b c) s2 IsFaulty → HasAllBack (over a c)
all_back a b c s0 s2 IsFaulty none_s none_l registers back = record {
  sockets = let x = registers.sockets in let y = back.sockets_out in let z = ap length none_s in omega (arith, x, y, z);
  listeners = let x = registers.listeners in let y = back.listeners_out in let z = ap length none_l in omega (arith, x, y, z);
}

-- the passes of a server whose ports were all handed back
passes_back : {U T : Type 0} (s2 : ServerSeen U T) → all_passes (emptied s2) ≡ s2.free ++ passes_of (crew_of s2)
passes_back s2 = append-nil ((s2.free ++ their_passes s2.sockets) ++ their_passes s2.listeners) ∙ append_assoc s2.free (their_passes s2.sockets) (their_passes s2.listeners)

-- ---- why it ended before its time

pub cause_so_far : {U T : Type 0} (hub : Around (HubTold U T)) (listening : Listening) (F : Type 0) (s : Status) → IsOpenCause hub s → IsCauseSoFar hub listening F s
cause_so_far hub listening F status.PortFault c = inl c
cause_so_far hub listening F status.OutOfMemory c = c
cause_so_far hub listening F status.Ok c = absurd c
cause_so_far hub listening F status.Usage c = absurd c
cause_so_far hub listening F (status.ZoneText line kind) c = absurd c
cause_so_far hub listening F (status.EventLine line) c = absurd c
cause_so_far hub listening F status.NotValid c = absurd c
cause_so_far hub listening F (status.Recovery row kind) c = absurd c
cause_so_far hub listening F status.ReadFault c = absurd c
cause_so_far hub listening F status.WriteFault c = absurd c
cause_so_far hub listening F status.KeeperFault c = absurd c
cause_so_far hub listening F status.TooLong c = absurd c

-- a count rose at a port that was new
pub faulty_port : {U T R W C : Type 0} (F : U → UdpTold) (G : T → TcpTold R W C) (limit : ℕ) (s1 s2 : ServerSeen U T) → IsManned F G limit s1
    → MatchesOnce (RoseAt (λ port. (F port).faults)) s1.sockets s2.sockets ⊎ MatchesOnce (RoseAt (λ port. (G port).faults)) s1.listeners s2.listeners → HasFaultyPort F G s2
faulty_port F G limit s1 s2 manned (inl once) =
    inl (fault_found s1.book.terms 0 (λ p. IsFreshSocket (F p)) (λ p. (F p).faults) (λ port f. f.no_fault) s1.sockets s2.sockets manned.sockets once)
faulty_port F G limit s1 s2 manned (inr once) =
    inr (fault_found s1.book.terms limit (λ p. IsFreshListener (G p)) (λ p. (G p).faults) (λ port f. f.no_fault) s1.listeners s2.listeners manned.listeners once)

-- serving opens no port
pub registers_served : {U T : Type 0} (a b : HubTold U T) (s0 s1 s2 : ServerSeen U T) (R : Worker U → Worker U → Type 0) (S : Worker T → Worker T → Type 0) → Registers (over a b) s0 s1 → IsServer s1 s2
    → Matches R s1.sockets s2.sockets → Matches S s1.listeners s2.listeners → Registers (over a b) s0 s2
registers_served a b s0 s1 s2 R S registers server ms ml = record {
  same = record { book = server.book ∙ registers.same.book; access = server.access ∙ registers.same.access };
  sockets = let x = registers.sockets in let y = matches_length R s1.sockets s2.sockets ms in omega (arith, x, y);
  listeners = let x = registers.listeners in let y = matches_length S s1.listeners s2.listeners ml in omega (arith, x, y);
  sockets_back = registers.sockets_back;
  listeners_back = registers.listeners_back;
  later = registers.later;
}

-- ---- the book, from its sharing to its closing

module _ {K U T R W C : Type 0} (m : Meanings K U T R W C) (a b c : HubTold U T) (until : Around SourceTold) (service : Service) (first last : SeenOf K) (s0 s2 : ServerSeen U T)
    (terms : s0.book.terms ≡ terms_at m.keeper first (seats_of service.listening)) (let_in : s0.access ≡ access_of service.options) (registers : Registers (over a b) s0 s2)
    (back : TakesBack (over b c) s2 (HasFaultyPort m.socket m.listener.told s2))
    (all : AreAll s2.book.id s2.book.terms.seats (all_passes (emptied s2))) (closed_for : ClosedFor m.keeper s2.book.terms (all_passes (emptied s2)) last) where
  abbrev terms_now : Terms
  terms_now = terms_at m.keeper first (seats_of service.listening)

  -- it is the book that was shared, with its terms
  closed_with : (passes : List PassSeen) → all_passes (emptied s2) ≡ passes → ClosedForAll m s0.book.id terms_now passes last
  closed_with passes is = subst (λ (t : Terms). ClosedForAll m s0.book.id t passes last) terms
      (subst (λ (x : BookSeen). ClosedForAll m x.id x.terms passes last) registers.same.book
      (subst (λ (l : List PassSeen). ClosedForAll m s2.book.id s2.book.terms l last) is (record { all = all; closed = closed_for })))

  pub serves_book : ServesWell m (over a b) until service.listening s0 s2 → ServesBook m (over a c) until service first last
  serves_book w = record {
    book = s0.book.id;
    opened = w.crew;
    crew = crew_of s2;
    ports =
        subst (λ (t : Terms). ServesPorts m (over a c) service.listening s0.book.id t (access_of service.options) w.crew (crew_of s2)) terms
        (subst (λ (x : Access). ServesPorts m (over a c) service.listening s0.book.id s0.book.terms x w.crew (crew_of s2)) let_in
        (served_ports m a b c until service.listening s0 s2 w back));
    read = w.read;
    closed = closed_with _ (passes_back s2 ∙ ap (λ (l : List PassSeen). l ++ passes_of (crew_of s2)) w.free);
  }

  -- the ports of the words are opened still
  may_be_read : MayBeRead until (over a b) service.listening → MayBeRead until (over a c) service.listening
  may_be_read (inl same) = inl same
  may_be_read (inr read) = inr (Grows-Keeps a.openings b.openings c.openings (openings_of service.listening) read.0 back.opened, back.calls ∙ read.1, read.2, read.3)

  pub leaves_book : (s : Status) → HasCrew m service.listening.limit s0 s2 → MayBeRead until (over a b) service.listening
      → IsCauseSoFar (over a b) service.listening (HasFaultyPort m.socket m.listener.told s2) s → LeavesBook m (over a c) until service first s last
  leaves_book s crew read cause = record {
    book = s0.book.id;
    opened = crew.opened;
    crew = crew_of s2;
    free = s2.free;
    shared =
        subst (λ (t : Terms). SharesPasses m s0.book.id t service.listening.limit (access_of service.options) crew.opened (crew_of s2) s2.free) terms
        (subst (λ (x : Access). SharesPasses m s0.book.id s0.book.terms service.listening.limit x crew.opened (crew_of s2) s2.free) let_in crew.shared);
    read = may_be_read read;
    closed = closed_with _ (passes_back s2);
    cause = cause_at_end m a b c service.listening s0 s2 s registers back cause;
  }
