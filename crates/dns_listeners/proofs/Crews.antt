-- Workers that are taken on, and ports that are opened and handed back.
use Rattle.std.proofs.Common.{◌≡◌, ◌⊎◌, ℕ, suc, ◌+◌, ◌≤◌, List, [], ◌∷◌, ◌++◌, inl, inr, length, Option, Some, None, Result, Ok, Err, OnOk, refl, sym, ap, subst, ◌∙◌, append-nil, append_assoc, length-append, arith}
use Rattle.std.specs.List.{AllByRecursion}
use Rattle.dns_io.specs.Told.{Rose, Keeps, Grows, one_more}
use Rattle.dns_io.proofs.ToldContents.{Keeps-same, Keeps-more, Grows-more}
use Rattle.dns_edges.specs.Edges.{Around}
use Rattle.dns_ports.specs.declared.hub.Opening.{Opening}
use Rattle.dns_ports.specs.Ports.{UdpTold, TcpTold, HubTold, IsFreshSocket, IsFreshListener, ClosesSocket, ClosesListener}
use Rattle.dns_ticket_lock.specs.declared.view.Terms.{Terms}
use Rattle.dns_ticket_lock.specs.Passes.{BookSeen, PassSeen, InOrder, AreNew}
use Rattle.dns_server.specs.declared.worker.Worker.{Worker}
use Rattle.dns_server.specs.Servers.{ServerSeen, TakesOn, Matches, MatchesOnce, RoseAt, their_passes, their_ports}
use Rattle.dns_listeners.specs.Hubs.{EndsWith, AnyFault, one_more_each}
use Rattle.dns_listeners.specs.Serving.{IsNewWorker}
use Rattle.dns_listeners.specs.ServingParts.{IsManned, IsSameServer, Registers, OpensAll, IsCalm}

-- ---- workers

all_snoc : {X : Type 0} (P : X → Type 0) (xs : List X) (x : X) → AllByRecursion P xs → P x → AllByRecursion P (xs ++ x ∷ [])
all_snoc P [] x h p = (p, tt)
all_snoc P (y ∷ ys) x h p = (h.0, all_snoc P ys x h.1 p)

-- the pass of the last worker comes before those of none
last_before : {P : Type 0} (workers : List (Worker P)) (worker : Worker P) (left : List PassSeen) → their_passes (workers ++ worker ∷ []) ++ left ≡ their_passes workers ++ worker.pass ∷ left
last_before [] worker left = refl
last_before (w ∷ workers) worker left = ap (λ (l : List PassSeen). w.pass ∷ l) (last_before workers worker left)

-- what is known of a worker that was taken on
record IsTaken {P : Type 0} (t : Terms) (limit : ℕ) (Fresh : P → Type 0) (free left : List PassSeen) (workers now : List (Worker P)) : Type 0 where
  new : AreNew t left
  each : AllByRecursion (IsNewWorker t limit Fresh) now
  more : length now ≡ length workers + 1
  fewer : length free ≡ length left + 1
  order : their_passes workers ++ free ≡ their_passes now ++ left

taken : {P : Type 0} (t : Terms) (limit : ℕ) (Fresh : P → Type 0) (port : P) (free left : List PassSeen) (workers now : List (Worker P))
    → AreNew t free → AllByRecursion (IsNewWorker t limit Fresh) workers → Fresh port → TakesOn port limit free workers left now → IsTaken t limit Fresh free left workers now
taken {P} t limit Fresh port free left workers now new each fresh_port takes =
    let first = subst (λ (l : List PassSeen). AreNew t l) takes.first new in
    let head = first 0 takes.pass refl in
    let worker : Worker P = record { pass = takes.pass; port = port; limit = limit; answer = Ok tt } in
    record {
      new = λ k p is. first (suc k) p is;
      each = subst (λ (l : List (Worker P)). AllByRecursion (IsNewWorker t limit Fresh) l) (sym takes.last)
          (all_snoc (IsNewWorker t limit Fresh) workers worker each (record { terms = head.0; account = head.1; limit = refl; port = fresh_port }));
      more = ap length takes.last ∙ length-append workers (worker ∷ []);
      fewer = let h = ap length takes.first in omega (arith, h);
      order = ap (λ (l : List PassSeen). their_passes workers ++ l) takes.first ∙ sym (ap (λ (l : List (Worker P)). their_passes l ++ left) takes.last ∙ last_before workers worker left);
    }

-- a socket is registered, where there is no listener yet
pub socket_taken : {U T R W C : Type 0} (F : U → UdpTold) (G : T → TcpTold R W C) (limit : ℕ) (s t : ServerSeen U T) (port : U) → IsManned F G limit s → s.listeners ≡ [] → IsFreshSocket (F port)
    → TakesOn port 0 s.free s.sockets t.free t.sockets → t.book ≡ s.book → t.listeners ≡ s.listeners → IsManned F G limit t × (length t.sockets ≡ length s.sockets + 1)
socket_taken {T = T} F G limit s t port m none fresh_port takes book others =
    let k = taken s.book.terms 0 (λ p. IsFreshSocket (F p)) port s.free t.free s.sockets t.sockets m.free m.sockets fresh_port takes in (
      record {
        free = subst (λ (b : BookSeen). AreNew b.terms t.free) (sym book) k.new;
        seats = let a = k.more in let b = k.fewer in let c = ap length others in let d = m.seats in let e = ap (λ (b : BookSeen). b.terms.seats) book in omega (arith, a, b, c, d, e);
        order = subst (λ (b : BookSeen). InOrder b.id (their_passes t.sockets ++ (their_passes t.listeners ++ t.free))) (sym book)
            (subst (λ (l : List PassSeen). InOrder s.book.id l)
            (ap (λ (l : List (Worker T)). their_passes s.sockets ++ (their_passes l ++ s.free)) none
            ∙ (k.order ∙ ap (λ (l : List (Worker T)). their_passes t.sockets ++ (their_passes l ++ t.free)) (sym (others ∙ none)))) m.order);
        sockets = subst (λ (b : BookSeen). AllByRecursion (IsNewWorker b.terms 0 (λ p. IsFreshSocket (F p))) t.sockets) (sym book) k.each;
        listeners = subst (λ (b : BookSeen). AllByRecursion (IsNewWorker b.terms limit (λ p. IsFreshListener (G p))) t.listeners) (sym book)
            (subst (λ (l : List (Worker T)). AllByRecursion (IsNewWorker s.book.terms limit (λ p. IsFreshListener (G p))) l) (sym others) m.listeners);
      },
      k.more,
    )

-- a listener is
pub listener_taken : {U T R W C : Type 0} (F : U → UdpTold) (G : T → TcpTold R W C) (limit : ℕ) (s t : ServerSeen U T) (port : T) → IsManned F G limit s → IsFreshListener (G port)
    → TakesOn port limit s.free s.listeners t.free t.listeners → t.book ≡ s.book → t.sockets ≡ s.sockets → IsManned F G limit t × (length t.listeners ≡ length s.listeners + 1)
listener_taken {U = U} F G limit s t port m fresh_port takes book others =
    let k = taken s.book.terms limit (λ p. IsFreshListener (G p)) port s.free t.free s.listeners t.listeners m.free m.listeners fresh_port takes in (
      record {
        free = subst (λ (b : BookSeen). AreNew b.terms t.free) (sym book) k.new;
        seats = let a = k.more in let b = k.fewer in let c = ap length others in let d = m.seats in let e = ap (λ (b : BookSeen). b.terms.seats) book in omega (arith, a, b, c, d, e);
        order = subst (λ (b : BookSeen). InOrder b.id (their_passes t.sockets ++ (their_passes t.listeners ++ t.free))) (sym book)
            (subst (λ (l : List PassSeen). InOrder s.book.id l)
            (ap (λ (l : List PassSeen). their_passes s.sockets ++ l) k.order ∙ ap (λ (l : List (Worker U)). their_passes l ++ (their_passes t.listeners ++ t.free)) (sym others)) m.order);
        sockets = subst (λ (b : BookSeen). AllByRecursion (IsNewWorker b.terms 0 (λ p. IsFreshSocket (F p))) t.sockets) (sym book)
            (subst (λ (l : List (Worker U)). AllByRecursion (IsNewWorker s.book.terms 0 (λ p. IsFreshSocket (F p))) l) (sym others) m.sockets);
        listeners = subst (λ (b : BookSeen). AllByRecursion (IsNewWorker b.terms limit (λ p. IsFreshListener (G p))) t.listeners) (sym book) k.each;
      },
      k.more,
    )

-- as many stand on both sides
pub matches_length : {A B : Type 0} (R : A → B → Type 0) (xs : List A) (ys : List B) → Matches R xs ys → length xs ≡ length ys
matches_length R [] [] m = refl
matches_length R [] (y ∷ ys) m = absurd m
matches_length R (x ∷ xs) [] m = absurd m
matches_length R (x ∷ xs) (y ∷ ys) m = ap suc (matches_length R xs ys m.1)

-- where a count rose that was 0 at first, a port has one above 0
pub fault_found : {P : Type 0} (t : Terms) (limit : ℕ) (Fresh : P → Type 0) (faults : P → ℕ) (none : (port : P) → Fresh port → faults port ≡ 0) (xs ys : List (Worker P))
    → AllByRecursion (IsNewWorker t limit Fresh) xs → MatchesOnce (RoseAt faults) xs ys → AnyFault faults (their_ports ys)
fault_found t limit Fresh faults none [] ys new once = absurd once
fault_found t limit Fresh faults none (x ∷ xs) [] new once = absurd once
fault_found t limit Fresh faults none (x ∷ xs) (y ∷ ys) new (inl rose) = inl (let z = none x.port new.0.port in omega (arith, z, rose))
fault_found t limit Fresh faults none (x ∷ xs) (y ∷ ys) new (inr once) = inr (fault_found t limit Fresh faults none xs ys new.1 once)

-- ---- the hub

-- ports that a hub took back
module _ {A : Type 0} where
  pub EndsWith-kept : (a b : Option (List A)) → Keeps a b → EndsWith a b []
  EndsWith-kept a None kept = record { told = tt }
  EndsWith-kept None (Some y) kept = absurd kept
  EndsWith-kept (Some x) (Some y) kept = record { told = ([], kept ∙ sym (append-nil x) ∙ sym (append-nil (x ++ []))) }

  pub EndsWith-grown : (a b : Option (List A)) (items : List A) → Grows a b items → EndsWith a b []
  EndsWith-grown a None items grown = record { told = tt }
  EndsWith-grown None (Some y) items grown = absurd grown
  EndsWith-grown (Some x) (Some y) items grown = record { told = (items, grown ∙ sym (append-nil (x ++ items))) }

  pub EndsWith-then : (a b c : Option (List A)) (items : List A) → EndsWith a b [] → Grows b c items → EndsWith a c items
  EndsWith-then a b None items ends grown = record { told = tt }
  EndsWith-then a None (Some z) items ends grown = absurd grown
  EndsWith-then None (Some y) (Some z) items ends grown = absurd ends.told
  EndsWith-then (Some x) (Some y) (Some z) items ends grown =
      record { told = (ends.told.0, grown ∙ ap (λ (l : List A). l ++ items) (ends.told.1 ∙ append-nil (x ++ ends.told.0))) }

  pub EndsWith-more : (a b c : Option (List A)) → EndsWith a b [] → EndsWith b c [] → EndsWith a c []
  EndsWith-more a b None p q = record { told = tt }
  EndsWith-more a None (Some z) p q = absurd q.told
  EndsWith-more None (Some y) (Some z) p q = absurd p.told
  EndsWith-more (Some x) (Some y) (Some z) p q = record {
    told = (
      p.told.0 ++ q.told.0,
      q.told.1 ∙ ap (λ (l : List A). (l ++ q.told.0) ++ []) (p.told.1 ∙ append-nil (x ++ p.told.0)) ∙ ap (λ (l : List A). l ++ []) (append_assoc x p.told.0 q.told.0),
    );
  }

  pub EndsWith-still : (a b c : Option (List A)) (items : List A) → EndsWith a b items → Keeps b c → EndsWith a c items
  EndsWith-still a b None items ends kept = record { told = tt }
  EndsWith-still a None (Some z) items ends kept = absurd kept
  EndsWith-still None (Some y) (Some z) items ends kept = absurd ends.told
  EndsWith-still (Some x) (Some y) (Some z) items ends kept = record { told = (ends.told.0, kept ∙ ends.told.1) }

-- the openings of both are counted, first those of the one
one_more_each-append : {A : Type 0} (count : ℕ) (xs ys : List A) → one_more_each count (xs ++ ys) ≡ one_more_each (one_more_each count xs) ys
one_more_each-append count [] ys = refl
one_more_each-append count (x ∷ xs) ys = one_more_each-append (one_more count) xs ys

one_more_each-then : {A : Type 0} (a b c : ℕ) (xs ys : List A) → b ≡ one_more_each a xs → c ≡ one_more_each b ys → c ≡ one_more_each a (xs ++ ys)
one_more_each-then a b c xs ys p q = q ∙ ap (λ (n : ℕ). one_more_each n ys) p ∙ sym (one_more_each-append a xs ys)

-- a hub before a call and after it
abbrev pub over : {U T : Type 0} → HubTold U T → HubTold U T → Around (HubTold U T)
over a b = record { before = a; after = b }

pub Registers-more : {U T : Type 0} (a b c : HubTold U T) (s t u : ServerSeen U T) → Registers (over a b) s t → Registers (over b c) t u → Registers (over a c) s u
Registers-more a b c s t u p q = record {
  same = record { book = q.same.book ∙ p.same.book; access = q.same.access ∙ p.same.access };
  sockets = let x = p.sockets in let y = q.sockets in omega (arith, x, y);
  listeners = let x = p.listeners in let y = q.listeners in omega (arith, x, y);
  sockets_back = EndsWith-more a.closed_udp b.closed_udp c.closed_udp p.sockets_back q.sockets_back;
  listeners_back = EndsWith-more a.closed_tcp b.closed_tcp c.closed_tcp p.listeners_back q.listeners_back;
  later = let x = p.later in let y = q.later in omega (arith, x, y);
}

pub OpensAll-more : {U T : Type 0} (a b c : HubTold U T) (xs ys : List Opening) → OpensAll (over a b) xs → OpensAll (over b c) ys → OpensAll (over a c) (xs ++ ys)
OpensAll-more a b c xs ys p q = record {
  opened = Grows-more a.openings b.openings c.openings xs ys p.opened q.opened;
  calls = one_more_each-then a.opened_calls b.opened_calls c.opened_calls xs ys p.calls q.calls;
  unfailed = q.unfailed ∙ p.unfailed;
  sockets = Keeps-more a.closed_udp b.closed_udp c.closed_udp p.sockets q.sockets;
  listeners = Keeps-more a.closed_tcp b.closed_tcp c.closed_tcp p.listeners q.listeners;
  faults = q.faults ∙ p.faults;
}

pub OpensAll-on : {U T E : Type 0} (a b c : HubTold U T) (xs ys : List Opening) (r : Result (Unit {0}) E) → OpensAll (over a b) xs → OnOk r (OpensAll (over b c) ys) → OnOk r (OpensAll (over a c) (xs ++ ys))
OpensAll-on a b c xs ys (Ok done) p q = OpensAll-more a b c xs ys p q
OpensAll-on a b c xs ys (Err fault) p q = tt

-- a listener without a fault was taken back
pub IsCalm-closed : {U T : Type 0} (a b : HubTold U T) (listener : T) (faults : ℕ) → faults ≡ 0 → ClosesListener a b listener faults → IsCalm (over a b)
IsCalm-closed a b listener faults none closed = record {
  opened = closed.kept;
  sockets = closed.udp_kept;
  listeners = EndsWith-grown a.closed_tcp b.closed_tcp (listener ∷ []) closed.grows;
  sockets_out = closed.udp_lent;
  faults = closed.cause.calm none;
  calls = closed.none_made;
  unfailed = closed.none_failed;
}

pub IsCalm-nothing : {U T : Type 0} (a : HubTold U T) → IsCalm (over a a)
IsCalm-nothing a = record {
  opened = Keeps-same a.openings;
  sockets = Keeps-same a.closed_udp;
  listeners = EndsWith-kept a.closed_tcp a.closed_tcp (Keeps-same a.closed_tcp);
  sockets_out = refl;
  faults = refl;
  calls = refl;
  unfailed = refl;
}

pub IsCalm-more : {U T : Type 0} (a b c : HubTold U T) → IsCalm (over a b) → IsCalm (over b c) → IsCalm (over a c)
IsCalm-more a b c p q = record {
  opened = Keeps-more a.openings b.openings c.openings p.opened q.opened;
  sockets = Keeps-more a.closed_udp b.closed_udp c.closed_udp p.sockets q.sockets;
  listeners = EndsWith-more a.closed_tcp b.closed_tcp c.closed_tcp p.listeners q.listeners;
  sockets_out = q.sockets_out ∙ p.sockets_out;
  faults = q.faults ∙ p.faults;
  calls = q.calls ∙ p.calls;
  unfailed = q.unfailed ∙ p.unfailed;
}

-- a socket was opened, and taken back before it was used
pub Registers-closed : {U T : Type 0} (a b c : HubTold U T) (s t : ServerSeen U T) (socket : U) (faults : ℕ) → IsSameServer s t → t ≡ s → Keeps a.closed_udp b.closed_udp → Keeps a.closed_tcp b.closed_tcp
    → b.lent_udp ≡ a.lent_udp + 1 → b.lent_tcp ≡ a.lent_tcp + 0 → a.faults ≤ b.faults → ClosesSocket b c socket faults → Registers (over a c) s t
Registers-closed {U} {T} a b c s t socket faults same is udp tcp udp_lent tcp_lent later closed = record {
  same = same;
  sockets = let x = ap (λ (r : ServerSeen U T). length r.sockets) is in let y = closed.udp_lent in omega (arith, x, y, udp_lent);
  listeners = let x = ap (λ (r : ServerSeen U T). length r.listeners) is in let y = closed.tcp_lent in omega (arith, x, y, tcp_lent);
  sockets_back = EndsWith-more a.closed_udp b.closed_udp c.closed_udp (EndsWith-kept a.closed_udp b.closed_udp udp) (EndsWith-grown b.closed_udp c.closed_udp (socket ∷ []) closed.grows);
  listeners_back = EndsWith-kept a.closed_tcp c.closed_tcp (Keeps-more a.closed_tcp b.closed_tcp c.closed_tcp tcp closed.tcp_kept);
  later = let x = closed.cause.later in omega (arith, later, x);
}

-- counts of the sockets' hand-back and of the listeners' together
pub all_raised : {X Y : Type 0} (a b c : ℕ) → (X → Rose a b) → (Y → Rose b c) → a ≤ b → b ≤ c → X ⊎ Y → Rose a c
all_raised a b c first second h k (inl x) = let r = first x in omega (arith, r, k)
all_raised a b c first second h k (inr y) = let r = second y in omega (arith, r, h)

pub all_calm : {X Y : Type 0} (a b c : ℕ) → (b ≡ a) ⊎ X → (c ≡ b) ⊎ Y → (c ≡ a) ⊎ (X ⊎ Y)
all_calm a b c (inr x) second = inr (inl x)
all_calm a b c (inl p) (inl q) = inl (q ∙ p)
all_calm a b c (inl p) (inr y) = inr (inr y)
