-- A worker of a socket, from datagram to datagram.
use Rattle.std.proofs.Common.{◌≡◌, ◌+◌, ◌∙◌, ℕ, zero, suc, List, [], ◌∷◌, ◌++◌, map, Bool, true, false, Option, Some, None, Result, Ok, Err, refl, sym, ap, subst, arith}
use Rattle.std.proofs.lemmas.List.{append-nil, map-append}
use Rattle.std.proofs.lemmas.List.Sums.{sum_by-append}
use Rattle.std.proofs.lemmas.Grind.{flat_map-append}
use Rattle.std.specs.Prelude.{IsSome, OnOk, OnErr}
use Rattle.std.specs.List.{sum_by}
use Rattle.dns_io.specs.declared.io_fault.IoFault.{IoFault}
use Rattle.dns_io.specs.declared.io_fault.IoFault.TheVariants.{Failed, OutOfMemory}
use Rattle.dns_io.specs.Told.{Takes, Grows, Keeps, counted, one_more}
use Rattle.dns_io.proofs.ToldContents.{Keeps-Grows, Grows-Keeps, Grows-more, Grows-nothing, Takes-more, Takes-Keeps}
use Rattle.dns_book.specs.declared.ask.Ask.{Ask}
use Rattle.dns_book.specs.declared.ask.Settled.{Settled}
use Rattle.dns_ports.specs.Ports.{Datagram, UdpTold, GivesNext, GrowsBy}
use Rattle.dns_server.specs.Sockets.{Fate, Answered, Refused, Skipped, Handled, Post, Steps, Run, Handles, Handling, WorksSocket, Ended, IsAtEnd, answer_to, answers_of, ask_for, failed_by, found_memory, outcome_of, taken_by, failures, raised, unmet, unmet_by}

-- a run, and one datagram more
pub Run-more : {H : Type 0} (serves : H → Ask → Settled → H → Type 0) (skips : H → H → Type 0) (before : H) (handled : List Handled) (between : H) (one : Handled) (after : H)
    → Run serves skips before handled between → Steps serves skips between (ask_for one.datagram) one.fate after → Run serves skips before (handled ++ one ∷ []) after
Run-more serves skips before [] between one after run step = (after, subst (λ x. Steps serves skips x (ask_for one.datagram) one.fate after) run step, refl)
Run-more serves skips before (first ∷ handled) between one after run step = (run.0, run.1, Run-more serves skips run.0 handled between one after run.2 step)

-- a port that gives no more has nothing left
pub at_end : {A : Type 0} (before now : Option (List A)) → GivesNext before now None → IsAtEnd now
at_end before None g = tt
at_end None (Some rest) g = absurd g
at_end (Some left) (Some rest) g = g.1

pub ended_takes : {A : Type 0} (before now : Option (List A)) → GivesNext before now None → Takes before now []
ended_takes before None g = tt
ended_takes None (Some rest) g = absurd g
ended_takes (Some left) (Some rest) g = g.0 ∙ sym g.1

pub Takes-nothing : {A : Type 0} (a : Option (List A)) → Takes a a []
Takes-nothing None = tt
Takes-nothing (Some x) = refl

pub Takes-kept : {A : Type 0} (a b : Option (List A)) → Keeps a b → Takes a b []
Takes-kept a None k = tt
Takes-kept None (Some y) k = absurd k
Takes-kept (Some x) (Some y) k = sym k

pub Grows-kept : {A : Type 0} (a b : Option (List A)) → Keeps a b → Grows a b []
Grows-kept a b k = Keeps-Grows _ _ _ _ k (Grows-nothing b)

pub sum_snoc : {A : Type 0} (f : A → ℕ) (xs : List A) (x : A) → sum_by f (xs ++ x ∷ []) ≡ sum_by f xs + f x
sum_snoc f xs x = omega (arith, sum_by-append f xs (x ∷ []))

-- so many failed calls are counted, and then so many more
raised_twice : (n k m a : ℕ) → m ≡ n + k → raised k (raised n a) ≡ raised m a
raised_twice n zero m a e = let same : n ≡ m = omega (arith, e) in ap (λ (i : ℕ). raised i a) same
raised_twice n (suc k) m a e =
    let both : raised k (raised n a) ≡ raised (n + k) a = raised_twice n k (n + k) a refl in
    let more : suc (n + k) ≡ m = omega (arith, e) in ap one_more both ∙ ap (λ (i : ℕ). raised i a) more

counted_more : (n k m a b c : ℕ) → m ≡ n + k → b ≡ raised n a → c ≡ raised k b → c ≡ raised m a
counted_more n k m a b c e p q = q ∙ ap (λ (i : ℕ). raised k i) p ∙ raised_twice n k m a e

-- one call that failed is counted
raised_once : (a : ℕ) → one_more a ≡ raised 1 a
raised_once a = let once : suc zero ≡ 1 = omega arith in ap (λ (i : ℕ). raised i a) once

-- where memory was found, nothing wanted it
none_unmet : (fate : Fate) → found_memory (outcome_of fate) ≡ true → unmet_by fate ≡ 0
none_unmet (Answered settled) e = refl
none_unmet (Refused settled Failed) e = refl
none_unmet (Refused settled OutOfMemory) e = absurd cc
none_unmet Skipped e = absurd cc

-- a message was settled, and the socket took its reply, where one was owed, or did not
pub answered : {H U : Type 0} (serves : H → Ask → Settled → H → Type 0) (skips : H → H → Type 0) (socket : U → UdpTold) (before after : Post H U) (ask : Ask) (settled : Settled) (owed : Bool) (result : Result (Unit {0}) IoFault)
    → serves before.handler ask settled after.handler → (owed ≡ true → IsSome settled.reply) → OnErr result (owed ≡ true)
    → Keeps (socket before.port).left (socket after.port).left → Keeps (socket before.port).received (socket after.port).received
    → OnOk result (Grows (socket before.port).taken (socket after.port).taken (answer_to ask.source settled.reply)) → OnErr result (Keeps (socket before.port).taken (socket after.port).taken)
    → (socket after.port).faults ≡ counted (socket before.port).faults result → Handles serves skips socket before after ask result
answered serves skips socket before after ask settled owed (Ok done) step replied is_owed unread unreceived ok err counts = record {
  fate = Answered settled;
  step = step;
  unread = unread;
  unreceived = unreceived;
  answered = ok;
  counted = counts;
  is = refl;
}
answered serves skips socket before after ask settled owed (Err Failed) step replied is_owed unread unreceived ok err counts = record {
  fate = Refused settled Failed;
  step = (step, replied is_owed);
  unread = unread;
  unreceived = unreceived;
  answered = Grows-kept _ _ err;
  counted = counts ∙ raised_once _;
  is = refl;
}
answered serves skips socket before after ask settled owed (Err OutOfMemory) step replied is_owed unread unreceived ok err counts = record {
  fate = Refused settled OutOfMemory;
  step = (step, replied is_owed);
  unread = unread;
  unreceived = unreceived;
  answered = Grows-kept _ _ err;
  counted = counts;
  is = refl;
}

module _ {H U : Type 0} (serves : H → Ask → Settled → H → Type 0) (skips : H → H → Type 0) (socket : U → UdpTold) (before : Post H U) where
  abbrev pub Work : H → U → Type 0
  Work handler port = Handling serves skips socket before (record { handler = handler; port = port })

  -- between two datagrams, where the flag says whether memory was wanting
  pub record Going (handler : H) (port : U) (is_short : Bool) : Type 0 where
    pub work : Work handler port
    pub counted : (socket port).faults ≡ raised (failures work.handled) (socket before.port).faults
    pub met : is_short ≡ false → unmet work.handled ≡ 0

  Work-begun : Work before.handler before.port
  Work-begun = record {
    handled = [];
    run = refl;
    came = Takes-nothing _;
    noted = Grows-nothing _;
    answered = Grows-nothing _;
  }

  pub Going-begun : Going before.handler before.port false
  unfolding Work-begun
  Going-begun = record { work = Work-begun; counted = refl; met = λ e. refl }

  -- no datagram came, since memory was wanting
  pub Works-nothing : WorksSocket serves skips socket before before (Err OutOfMemory)
  unfolding Work-begun
  Works-nothing = record { work = Work-begun; ends = refl }

  -- a call of the port that gave nothing
  pub Work-later : (handler : H) (port now : U) → Work handler port → Takes (socket port).left (socket now).left [] → Keeps (socket port).received (socket now).received → Keeps (socket port).taken (socket now).taken
      → Work handler now
  Work-later handler port now w none kept untaken = record {
    handled = w.handled;
    run = w.run;
    came = subst (Takes (socket before.port).left (socket now).left) (append-nil (map (λ (x : Handled). x.datagram) w.handled))
        (Takes-more (socket before.port).left (socket port).left (socket now).left (map (λ (x : Handled). x.datagram) w.handled) [] w.came none);
    noted = Grows-Keeps _ _ _ _ w.noted kept;
    answered = Grows-Keeps _ _ _ _ w.answered untaken;
  }

  -- a datagram came, and was handled
  Work-more : (handler : H) (port came : U) (d : Datagram) (handler' : H) (port' : U) (outcome : Result (Unit {0}) IoFault) → Work handler port
      → Takes (socket port).left (socket came).left (d ∷ []) → Grows (socket port).received (socket came).received (d ∷ []) → Keeps (socket port).taken (socket came).taken
      → (h : Handles serves skips socket (record { handler = handler; port = came }) (record { handler = handler'; port = port' }) (ask_for d) outcome)
      → Work handler' port'
  Work-more handler port came d handler' port' outcome w takes grows untaken h =
      let one : Handled = record { datagram = d; fate = h.fate } in record {
        handled = w.handled ++ one ∷ [];
        run = Run-more serves skips before.handler w.handled handler one handler' w.run h.step;
        came = rw (map-append (λ (x : Handled). x.datagram) w.handled (one ∷ []))
            (Takes-more (socket before.port).left (socket port).left (socket port').left (map (λ (x : Handled). x.datagram) w.handled) (d ∷ []) w.came
            (Takes-Keeps (socket port).left (socket came).left (socket port').left (d ∷ []) takes h.unread));
        noted = rw (map-append (λ (x : Handled). x.datagram) w.handled (one ∷ []))
            (Grows-more (socket before.port).received (socket port).received (socket port').received (map (λ (x : Handled). x.datagram) w.handled) (d ∷ []) w.noted
            (Grows-Keeps (socket port).received (socket came).received (socket port').received (d ∷ []) grows h.unreceived));
        answered = rw (flat_map-append (λ (x : Handled). taken_by x.datagram.1 x.fate) w.handled (one ∷ []), append-nil (taken_by d.1 h.fate))
            (Grows-more (socket before.port).taken (socket port).taken (socket port').taken (answers_of w.handled) (taken_by d.1 h.fate) w.answered
            (Keeps-Grows (socket port).taken (socket came).taken (socket port').taken (taken_by d.1 h.fate) untaken h.answered));
      }

  -- and so for memory
  pub Going-more : (handler : H) (port came : U) (d : Datagram) (handler' : H) (port' : U) (is_short : Bool) (outcome : Result (Unit {0}) IoFault) (is_short' : Bool) → Going handler port is_short
      → GivesNext (socket port).left (socket came).left (Some d) → GrowsBy (socket port).received (socket came).received (Some d) → Keeps (socket port).taken (socket came).taken
      → (socket came).faults ≡ (socket port).faults
      → (h : Handles serves skips socket (record { handler = handler; port = came }) (record { handler = handler'; port = port' }) (ask_for d) outcome)
      → (is_short' ≡ false → (is_short ≡ false) × (found_memory outcome ≡ true))
      → Going handler' port' is_short'
  unfolding Work-more
  Going-more handler port came d handler' port' is_short outcome is_short' g takes grows untaken still h flag =
      let one : Handled = record { datagram = d; fate = h.fate } in record {
        work = Work-more handler port came d handler' port' outcome g.work takes grows untaken h;
        counted = counted_more _ _ _ _ _ _ (sum_snoc (λ (x : Handled). failed_by x.fate) g.work.handled one) (still ∙ g.counted) h.counted;
        met = λ e. let f = flag e in omega (arith, sum_snoc (λ (x : Handled). unmet_by x.fate) g.work.handled one, g.met f.0, none_unmet h.fate (ap found_memory (sym h.is) ∙ f.1));
      }

  -- the port gives no more
  pub Works-done : (handler : H) (port now : U) (is_short : Bool) (result : Result (Unit {0}) IoFault) → Going handler port is_short
      → GivesNext (socket port).left (socket now).left None → GrowsBy (socket port).received (socket now).received None → Keeps (socket port).taken (socket now).taken
      → (socket now).faults ≡ (socket port).faults → Ended is_short result
      → WorksSocket serves skips socket before (record { handler = handler; port = now }) result
  unfolding Work-later
  Works-done handler port now false (Ok done) g gives kept untaken still e = record {
    work = Work-later handler port now g.work (ended_takes _ _ gives) kept untaken;
    ends = (at_end _ _ gives, g.met refl, still ∙ g.counted);
  }
  Works-done handler port now true (Ok done) g gives kept untaken still e = absurd e
  Works-done handler port now is_short (Err Failed) g gives kept untaken still e = absurd e
  Works-done handler port now is_short (Err OutOfMemory) g gives kept untaken still e = record {
    work = Work-later handler port now g.work (ended_takes _ _ gives) kept untaken;
    ends = still ∙ g.counted;
  }

  -- a receiving failed, or found no memory
  pub Works-failed : (handler : H) (port now : U) (is_short : Bool) (fault : IoFault) → Going handler port is_short
      → Keeps (socket port).left (socket now).left → Keeps (socket port).received (socket now).received → Keeps (socket port).taken (socket now).taken
      → (socket now).faults ≡ counted {T = Unit {0}} (socket port).faults (Err fault)
      → WorksSocket serves skips socket before (record { handler = handler; port = now }) (Err fault)
  unfolding Work-later
  Works-failed handler port now is_short Failed g unread kept untaken counts = record {
    work = Work-later handler port now g.work (Takes-kept _ _ unread) kept untaken;
    ends = counted_more (failures g.work.handled) 1 (failures g.work.handled + 1) (socket before.port).faults (socket port).faults (socket now).faults refl g.counted (counts ∙ raised_once (socket port).faults);
  }
  Works-failed handler port now is_short OutOfMemory g unread kept untaken counts = record {
    work = Work-later handler port now g.work (Takes-kept _ _ unread) kept untaken;
    ends = counts ∙ g.counted;
  }
