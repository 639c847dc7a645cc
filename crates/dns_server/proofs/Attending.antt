-- A worker of a listener, from connection to connection.
use Rattle.std.proofs.Common.{◌≡◌, ◌≤◌, ◌∙◌, ℕ, List, [], ◌∷◌, ◌++◌, map, Bool, true, false, Some, None, Result, Ok, Err, refl, subst, arith}
use Rattle.std.proofs.lemmas.List.{append-nil, map-append}
use Rattle.dns_io.specs.declared.io_fault.IoFault.{IoFault}
use Rattle.dns_io.specs.declared.io_fault.IoFault.TheVariants.{Failed, OutOfMemory}
use Rattle.dns_io.specs.Told.{Takes, Grows, Keeps}
use Rattle.dns_io.proofs.ToldContents.{Keeps-Grows, Grows-Keeps, Grows-more, Grows-nothing, Takes-more, Takes-Keeps}
use Rattle.dns_edges.specs.Edges.{SourceOf, SinkOf, ClockOf, CountsBy}
use Rattle.dns_book.specs.declared.ask.Ask.{Ask}
use Rattle.dns_book.specs.declared.ask.Settled.{Settled}
use Rattle.dns_ports.specs.Ports.{ListenerOf, GivesNext, GrowsBy}
use Rattle.dns_ports.specs.declared.port.Accepted.{Accepted}
use Rattle.dns_server.specs.Sockets.{Post, Ended}
use Rattle.dns_server.specs.Listeners.{HandedBack, TreatsBy, Run, Attends, Attending, WorksListener, unmet, unmet_by}
use Rattle.dns_server.proofs.Handling.{Takes-nothing, Takes-kept, at_end, ended_takes, sum_snoc}

-- the meanings of a handler, and of a source, a sink and a clock
module _ {H R W C : Type 0} (serves : H → Ask → Settled → H → Type 0) (skips : H → H → Type 0) (source : SourceOf R) (sink : SinkOf W) (clock : ClockOf C) (limit : ℕ) where
  -- a run, and one connection more
  pub Run-more : (start : H) (handled : List (HandedBack R W C)) (between : H) (one : HandedBack R W C) (after : H)
      → Run serves skips source sink clock limit start handled between
      → TreatsBy serves skips source sink clock limit between one.came one.back one.answer after
      → Run serves skips source sink clock limit start (handled ++ one ∷ []) after
  Run-more start [] between one after run step = (after, subst (λ x. TreatsBy serves skips source sink clock limit x one.came one.back one.answer after) run step, refl)
  Run-more start (first ∷ handled) between one after run step = (run.0, run.1, Run-more run.0 handled between one after run.2 step)

-- the meanings of a handler, and of a listener and its connections
module _ {H T R W C : Type 0} (serves : H → Ask → Settled → H → Type 0) (skips : H → H → Type 0) (listener : ListenerOf T R W C) (limit : ℕ) (before : Post H T) where
  abbrev pub Work : H → T → Type 0
  Work handler port = Attending serves skips listener limit before (record { handler = handler; port = port })

  -- between two connections, where the flag says whether memory was wanting
  pub record Going (handler : H) (port : T) (is_short : Bool) : Type 0 where
    pub work : Work handler port
    pub calm : (listener.told port).faults ≡ (listener.told before.port).faults
    pub met : is_short ≡ false → unmet work.handled ≡ 0

  Work-begun : Work before.handler before.port
  Work-begun = record { handled = []; run = refl; came = Takes-nothing _; noted = Grows-nothing _; handed = Grows-nothing _; later = omega arith }

  pub Going-begun : Going before.handler before.port false
  unfolding Work-begun
  Going-begun = record { work = Work-begun; calm = refl; met = λ e. refl }

  -- a call of the port that gave nothing
  pub Work-later : (handler : H) (port now : T) → Work handler port → Takes (listener.told port).left (listener.told now).left [] → Keeps (listener.told port).accepted (listener.told now).accepted
      → Keeps (listener.told port).ended (listener.told now).ended → (listener.told port).faults ≤ (listener.told now).faults → Work handler now
  Work-later handler port now w none kept unended later = record {
    handled = w.handled;
    run = w.run;
    came = subst (Takes (listener.told before.port).left (listener.told now).left) (append-nil (map (λ (x : HandedBack R W C). x.came) w.handled))
        (Takes-more (listener.told before.port).left (listener.told port).left (listener.told now).left (map (λ (x : HandedBack R W C). x.came) w.handled) [] w.came none);
    noted = Grows-Keeps _ _ _ _ w.noted kept;
    handed = Grows-Keeps _ _ _ _ w.handed unended;
    later = omega (arith, w.later, later);
  }

  -- a connection came, and was handed back
  Work-more : (handler : H) (port between : T) (came : Accepted R W C) (handler' : H) (port' : T) (found : Bool) → Work handler port
      → Takes (listener.told port).left (listener.told between).left (came ∷ []) → Grows (listener.told port).accepted (listener.told between).accepted (came ∷ [])
      → Keeps (listener.told port).ended (listener.told between).ended → (listener.told between).faults ≡ (listener.told port).faults
      → Attends serves skips listener limit (record { handler = handler; port = between }) (record { handler = handler'; port = port' }) came found
      → Work handler' port'
  Work-more handler port between came handler' port' found w takes grows unended still h =
      let one : HandedBack R W C = record { came = came; back = h.back; answer = h.answer } in record {
        handled = w.handled ++ one ∷ [];
        run = Run-more serves skips listener.input listener.output listener.time limit before.handler w.handled handler one handler' w.run h.treated;
        came = rw (map-append (λ (x : HandedBack R W C). x.came) w.handled (one ∷ []))
            (Takes-more (listener.told before.port).left (listener.told port).left (listener.told port').left (map (λ (x : HandedBack R W C). x.came) w.handled) (came ∷ []) w.came
            (Takes-Keeps (listener.told port).left (listener.told between).left (listener.told port').left (came ∷ []) takes h.unread));
        noted = rw (map-append (λ (x : HandedBack R W C). x.came) w.handled (one ∷ []))
            (Grows-more (listener.told before.port).accepted (listener.told port).accepted (listener.told port').accepted (map (λ (x : HandedBack R W C). x.came) w.handled) (came ∷ []) w.noted
            (Grows-Keeps (listener.told port).accepted (listener.told between).accepted (listener.told port').accepted (came ∷ []) grows h.unaccepted));
        handed = rw (map-append (λ (x : HandedBack R W C). x.back) w.handled (one ∷ []))
            (Grows-more (listener.told before.port).ended (listener.told port).ended (listener.told port').ended (map (λ (x : HandedBack R W C). x.back) w.handled) (h.back ∷ []) w.handed
            (Keeps-Grows (listener.told port).ended (listener.told between).ended (listener.told port').ended (h.back ∷ []) unended h.handed));
        later = omega (arith, w.later, still, h.calm);
      }

  -- and so for memory
  pub Going-more : (handler : H) (port between : T) (came : Accepted R W C) (handler' : H) (port' : T) (is_short found is_short' : Bool) → Going handler port is_short
      → GivesNext (listener.told port).left (listener.told between).left (Some came) → GrowsBy (listener.told port).accepted (listener.told between).accepted (Some came)
      → Keeps (listener.told port).ended (listener.told between).ended → (listener.told between).faults ≡ (listener.told port).faults
      → (h : Attends serves skips listener limit (record { handler = handler; port = between }) (record { handler = handler'; port = port' }) came found)
      → (is_short' ≡ false → (is_short ≡ false) × (found ≡ true))
      → Going handler' port' is_short'
  unfolding Work-more
  Going-more handler port between came handler' port' is_short found is_short' g takes grows unended still h flag = record {
    work = Work-more handler port between came handler' port' found g.work takes grows unended still h;
    calm = h.calm ∙ still ∙ g.calm;
    met = λ e. let f = flag e in omega (arith, sum_snoc (λ (x : HandedBack R W C). unmet_by x.answer) g.work.handled (record { came = came; back = h.back; answer = h.answer }), g.met f.0, h.met f.1);
  }

  -- the port gives no more
  pub Works-done : (handler : H) (port now : T) (is_short : Bool) (result : Result (Unit {0}) IoFault) → Going handler port is_short
      → GivesNext (listener.told port).left (listener.told now).left None → GrowsBy (listener.told port).accepted (listener.told now).accepted None
      → Keeps (listener.told port).ended (listener.told now).ended → (listener.told now).faults ≡ (listener.told port).faults → Ended is_short result
      → WorksListener serves skips listener limit before (record { handler = handler; port = now }) result
  unfolding Work-later
  Works-done handler port now false (Ok done) g gives kept unended still e = record {
    work = Work-later handler port now g.work (ended_takes _ _ gives) kept unended (omega (arith, still));
    ends = (at_end _ _ gives, g.met refl, still ∙ g.calm);
  }
  Works-done handler port now true (Ok done) g gives kept unended still e = absurd e
  Works-done handler port now is_short (Err Failed) g gives kept unended still e = absurd e
  Works-done handler port now is_short (Err OutOfMemory) g gives kept unended still e = record {
    work = Work-later handler port now g.work (ended_takes _ _ gives) kept unended (omega (arith, still));
    ends = still ∙ g.calm;
  }

  -- an accepting failed, or found no memory
  pub Works-failed : (handler : H) (port now : T) (is_short : Bool) (fault : IoFault) → Going handler port is_short
      → Keeps (listener.told port).left (listener.told now).left → Keeps (listener.told port).accepted (listener.told now).accepted → Keeps (listener.told port).ended (listener.told now).ended
      → (listener.told port).faults ≤ (listener.told now).faults → CountsBy {T = Unit {0}} (listener.told port).faults (listener.told now).faults (Err fault)
      → WorksListener serves skips listener limit before (record { handler = handler; port = now }) (Err fault)
  unfolding Work-later
  Works-failed handler port now is_short Failed g unread kept unended later counts = record {
    work = Work-later handler port now g.work (Takes-kept _ _ unread) kept unended later;
    ends = omega (arith, g.calm, counts);
  }
  Works-failed handler port now is_short OutOfMemory g unread kept unended later counts = record {
    work = Work-later handler port now g.work (Takes-kept _ _ unread) kept unended later;
    ends = counts ∙ g.calm;
  }
