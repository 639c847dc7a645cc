-- Runs that follow one another.
use Rattle.std.proofs.Common.{◌≡◌, ℕ, ◌+◌, ◌≤◌, List, [], ◌∷◌, ◌++◌, length, take, refl, sym, ap, subst, ◌∙◌, append_assoc, append-nil, length-append, arith, inl, ◌⊎◌, Result, Ok, Err, Option, Some, None, is_some, Bool, true, if◌then◌else◌}
use Rattle.std.proofs.Math.Seq.{take-append_seam}
use Rattle.std.specs.Result.{OnErr, OnOk}
use Rattle.dns_book.specs.Access.{Access}
use Rattle.dns_book.specs.declared.ask.Ask.{Ask}
use Rattle.dns_book.specs.declared.ask.Settled.{Settled}
use Rattle.dns_book.specs.declared.ask.SettledInto.{SettledInto}
use Rattle.dns_book.specs.Into.{SettlesInto, sent_for}
use Rattle.dns_server_core.specs.declared.event.Out.{Out}
use Rattle.dns_server_core.specs.declared.event.Receiver.{Receiver}
use Rattle.dns_server_core.specs.declared.event.Receiver.TheVariants.{Conn, Peer}
use Rattle.dns_server_core.specs.Runs.{Completed, is_connection, outs_of, Run, Answers}
use Rattle.dns_server_core.specs.Handing.{ResponderOf, Hands, HandsFront, Breaks}

-- what goes out where a reply is owed
abbrev pub owed_out : Receiver → List ℕ → Bool → List Out
owed_out to bytes is_owed = if is_owed then (record { to = to; bytes = bytes }) ∷ [] else []

-- a reply that was written as it goes out is what is sent for it
pub outs_written : (to : Receiver) (reply : Option (List ℕ)) (bytes : List ℕ) → bytes ≡ sent_for (is_connection to) reply → owed_out to bytes (is_some reply) ≡ outs_of to reply
outs_written to None bytes e = refl
outs_written (Conn number) (Some reply) bytes e = ap (λ (sent : List ℕ). owed_out (Conn number) sent true) e
outs_written (Peer peer) (Some reply) bytes e = ap (λ (sent : List ℕ). owed_out (Peer peer) sent true) e

module _ {H : Type 0} (serves : H → Ask → Settled → H → Type 0) where
  -- a run, and then another
  pub Run-append : (a b c : H) (xs ys : List Completed) (os ps : List Out) → Run serves a xs os b → Run serves b ys ps c → Run serves a (xs ++ ys) (os ++ ps) c
  Run-append a b c [] ys os ps r s = rw r.1 (subst (λ (h : H). Run serves h ys ps c) r.0 s)
  Run-append a b c (x ∷ xs) ys os ps r s = (
    r.0,
    r.1,
    r.2 ++ ps,
    r.3,
    ap (λ (ts : List Out). ts ++ ps) r.4 ∙ append_assoc (outs_of x.to r.0.reply) r.2 ps,
    Run-append r.1 b c xs ys r.2 ps r.5 s,
  )

  -- nothing was settled
  pub Answers-none : (a : H) (old : List Out) → Answers serves a [] a old old
  Answers-none a old = record { outs = []; run = (refl, refl); added = sym (append-nil old) }

  -- one message was settled
  pub Answers-one : (a b : H) (c : Completed) (settled : Settled) (old new : List Out) → serves a c.ask settled b → new ≡ old ++ outs_of c.to settled.reply → Answers serves a (c ∷ []) b old new
  Answers-one a b c settled old new s e = record {
    outs = outs_of c.to settled.reply;
    run = (settled, b, [], s, sym (append-nil (outs_of c.to settled.reply)), (refl, refl));
    added = e;
  }

  -- some messages were settled, and then others
  pub Answers-append : (a b c : H) (xs ys : List Completed) (old mid new : List Out) → Answers serves a xs b old mid → Answers serves b ys c mid new → Answers serves a (xs ++ ys) c old new
  Answers-append a b c xs ys old mid new p q = record {
    outs = p.outs ++ q.outs;
    run = Run-append a b c xs ys p.outs q.outs p.run q.run;
    added = q.added ∙ ap (λ (ts : List Out). ts ++ q.outs) p.added ∙ append_assoc old p.outs q.outs;
  }

module _ {H : Type 0} (serves : Access → H → Ask → Settled → H → Type 0) where
  -- the same with the count
  pub Hands-none : (a : ResponderOf H) → Hands serves a [] a
  Hands-none a = record { answered = Answers-none (serves a.access) a.handler a.outs; counted = omega arith; access = refl }

  pub Hands-one : (a b : ResponderOf H) (c : Completed) (settled : Settled) → serves a.access a.handler c.ask settled b.handler → b.outs ≡ a.outs ++ outs_of c.to settled.reply
      → b.settled ≡ a.settled + 1 → b.access ≡ a.access → Hands serves a (c ∷ []) b
  Hands-one a b c settled s e k f = record { answered = Answers-one (serves a.access) a.handler b.handler c settled a.outs b.outs s e; counted = k; access = f }

  -- one message was settled, and its reply written as it goes out
  pub Hands-written : (a b : ResponderOf H) (c : Completed) (bytes : List ℕ) (into : SettledInto)
      → SettlesInto (λ (settled : Settled). serves a.access a.handler c.ask settled b.handler) (is_connection c.to) [] bytes into → b.outs ≡ a.outs ++ owed_out c.to bytes into.is_owed
      → b.settled ≡ a.settled + 1 → b.access ≡ a.access → Hands serves a (c ∷ []) b
  Hands-written a b c bytes into s e k f =
      let owed : owed_out c.to bytes into.is_owed ≡ outs_of c.to s.settled.reply =
      ap (λ (told : SettledInto). owed_out c.to bytes told.is_owed) s.told ∙ outs_written c.to s.settled.reply bytes s.sent
      in
      Hands-one a b c s.settled s.is (e ∙ ap (λ (os : List Out). a.outs ++ os) owed) k f

  pub Hands-append : (a b c : ResponderOf H) (xs ys : List Completed) → Hands serves a xs b → Hands serves b ys c → Hands serves a (xs ++ ys) c
  Hands-append a b c xs ys p q = record {
    answered = Answers-append (serves a.access) a.handler b.handler c.handler xs ys a.outs b.outs c.outs p.answered
        (subst (λ (x : Access). Answers (serves x) b.handler ys c.handler b.outs c.outs) p.access q.answered);
    counted = omega (arith, p.counted, q.counted, length-append xs ys);
    access = q.access ∙ p.access;
  }

  pub Hands-same : (a b : ResponderOf H) (xs ys : List Completed) → ys ≡ xs → Hands serves a xs b → Hands serves a ys b
  Hands-same a b xs ys e h = subst (λ (l : List Completed). Hands serves a l b) (sym e) h

  pub ok_hands : {T E : Type 0} (res : Result T E) (a b : ResponderOf H) (xs ys : List Completed) → ys ≡ xs → OnOk res (Hands serves a xs b) → OnOk res (Hands serves a ys b)
  ok_hands res a b xs ys e h = subst (λ (l : List Completed). OnOk res (Hands serves a l b)) (sym e) h

  -- a front of all messages
  pub Front-none : (a : ResponderOf H) (all : List Completed) → HandsFront serves a all a all
  Front-none a all = record { front = []; parts = refl; handed = Hands-none a }

  pub Front-all : (a b : ResponderOf H) (all : List Completed) → Hands serves a all b → HandsFront serves a all b []
  Front-all a b all h = record { front = all; parts = sym (append-nil all); handed = h }

  pub Front-within : (a b c : ResponderOf H) (all part rest more : List Completed) → HandsFront serves a all b (part ++ more) → HandsFront serves b part c rest → HandsFront serves a all c (rest ++ more)
  Front-within a b c all part rest more g h = record {
    front = g.front ++ h.front;
    parts = g.parts ∙ ap (λ (l : List Completed). g.front ++ l) (ap (λ (l : List Completed). l ++ more) h.parts ∙ append_assoc h.front rest more) ∙ sym (append_assoc g.front h.front (rest ++ more));
    handed = Hands-append a b c g.front h.front g.handed h.handed;
  }

  pub Front-more : (a b c : ResponderOf H) (all rest : List Completed) (x : Completed) → HandsFront serves a all b (x ∷ rest) → Hands serves b (x ∷ []) c → HandsFront serves a all c rest
  Front-more a b c all rest x g h = Front-within a b c all (x ∷ []) [] rest g (Front-all b c (x ∷ []) h)

  pub Front-end : (a b : ResponderOf H) (all : List Completed) → HandsFront serves a all b [] → Hands serves a all b
  Front-end a b all g = subst (λ (l : List Completed). Hands serves a l b) (sym (g.parts ∙ append-nil g.front)) g.handed

  -- a front, and a call that found no memory
  pub Breaks-within : (skips : H → H → Type 0) (a b c : ResponderOf H) (all part more : List Completed) → HandsFront serves a all b (part ++ more) → Breaks serves skips b part c → Breaks serves skips a all c
  Breaks-within skips a b c all part more g h = record {
    last = h.last;
    rest = h.rest ++ more;
    front = Front-within a b (record c { handler = h.last }) all part h.rest more g h.front;
    end = h.end;
  }

  pub Breaks-none : (skips : H → H → Type 0) (a : ResponderOf H) (h : H) (all : List Completed) → (h ≡ a.handler) ⊎ skips a.handler h → Breaks serves skips a all (record a { handler = h })
  Breaks-none skips a h all e = record { last = a.handler; rest = all; front = Front-none a all; end = e }

  pub breaks_none : {T E : Type 0} (res : Result T E) (skips : H → H → Type 0) (a : ResponderOf H) (all : List Completed) → OnErr res (Breaks serves skips a all a)
  breaks_none (Ok x) skips a all = tt
  breaks_none (Err x) skips a all = Breaks-none skips a a.handler all (inl refl)

  pub Breaks-same : (skips : H → H → Type 0) (a b : ResponderOf H) (xs ys : List Completed) → ys ≡ xs → Breaks serves skips a xs b → Breaks serves skips a ys b
  Breaks-same skips a b xs ys e h = subst (λ (l : List Completed). Breaks serves skips a l b) (sym e) h

  pub breaks_same : {T E : Type 0} (res : Result T E) (skips : H → H → Type 0) (a b : ResponderOf H) (xs ys : List Completed) → ys ≡ xs → OnErr res (Breaks serves skips a xs b) → OnErr res (Breaks serves skips a ys b)
  breaks_same res skips a b xs ys e h = subst (λ (l : List Completed). OnErr res (Breaks serves skips a l b)) (sym e) h

  -- the run is over the first messages, as many as were counted
  pub Breaks-first : (skips : H → H → Type 0) (a c : ResponderOf H) (all : List Completed) → a.settled ≡ 0 → (h : Breaks serves skips a all c)
      → (c.settled ≤ length all) × Answers (serves a.access) a.handler (take c.settled all) h.last a.outs c.outs
  Breaks-first skips a c all none h =
      let size : c.settled ≡ length h.front.front = omega (arith, none, h.front.handed.counted) in
      let first : take c.settled all ≡ h.front.front = ap (λ (k : ℕ). take k all) size ∙ ap (take (length h.front.front)) h.front.parts ∙ take-append_seam h.front.front h.rest in
      (omega (arith, size, ap length h.front.parts, length-append h.front.front h.rest), rw first h.front.handed.answered)
