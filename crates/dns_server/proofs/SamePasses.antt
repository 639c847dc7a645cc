-- A pass that serves a port stays the same pass.
use Rattle.std.proofs.Common.{◌≡◌, ◌∙◌, ℕ, List, [], ◌∷◌, ◌++◌, Option, Some, None, Result, Ok, Err, refl, sym, subst, ⊎_elim}
use Rattle.dns_book.specs.declared.ask.Ask.{Ask}
use Rattle.dns_book.specs.Access.{Access}
use Rattle.dns_keeper.specs.Keeping.{KeeperOf}
use Rattle.dns_edges.specs.Edges.{SourceOf, SinkOf, ClockOf}
use Rattle.dns_ports.specs.declared.port.Accepted.{Accepted}
use Rattle.dns_requests.specs.declared.serve_fault.ServeFault.{ServeFault}
use Rattle.dns_requests.specs.declared.serve_fault.ServeFault.TheVariants.{Read, Write, Turns, TimedOut, OutOfMemory}
use Rattle.dns_requests.specs.Ends.{Ends, Parts, Terms}
use Rattle.dns_server_core.specs.FrameRuns.{Run as ReplyRun}
use Rattle.dns_requests.specs.Runs.{BreaksOff}
use Rattle.dns_ticket_lock.specs.Passes.{PassSeen, IsSame, SettledBy, LeftBy}
use Rattle.dns_server.specs.Sockets.{Answered, Refused, Skipped, Fate, Handled, Run as DatagramRun, Steps, ask_for}
use Rattle.dns_server.specs.Listeners.{HandedBack, TreatsBy, Run as ConnectionRun}
use Rattle.dns_server.specs.declared.worker.Worker.{Worker}
use Rattle.dns_server.specs.Servers.{IsServer, KeepsPasses, Matches, ServerSeen, their_passes}

pub Same-refl : (p : PassSeen) → IsSame p p
Same-refl p = record { book = refl; terms = refl; number = refl }

pub Same-of : (p q : PassSeen) → q ≡ p → IsSame p q
Same-of p q e = subst (λ (x : PassSeen). IsSame x q) e (Same-refl q)

pub Same-trans : (p q r : PassSeen) → IsSame p q → IsSame q r → IsSame p r
Same-trans p q r a b = record { book = b.book ∙ a.book; terms = b.terms ∙ a.terms; number = b.number ∙ a.number }

-- the meaning of a keeper, and who is let in
module _ {K : Type 0} (keeper : KeeperOf K) (access : Access) where
  step_same : (p : PassSeen) (ask : Ask) (fate : Fate) (q : PassSeen) → Steps (SettledBy keeper access) LeftBy p ask fate q → IsSame p q
  step_same p ask (Answered settled) q s = s.same
  step_same p ask (Refused settled fault) q s = s.0.same
  step_same p ask Skipped q s = ⊎_elim (λ e. Same-of p q e) (λ (l : LeftBy p q). l.same) s

  pub datagrams_same : (p : PassSeen) (handled : List Handled) (q : PassSeen) → DatagramRun (SettledBy keeper access) LeftBy p handled q → IsSame p q
  datagrams_same p [] q run = Same-of p q run
  datagrams_same p (one ∷ others) q run = Same-trans p run.0 q (step_same p (ask_for one.datagram) one.fate run.0 run.1) (datagrams_same run.0 others q run.2)

  replies_same : (p : PassSeen) (asks : List Ask) (bytes : List ℕ) (q : PassSeen) → ReplyRun (SettledBy keeper access) p asks bytes q → IsSame p q
  replies_same p [] bytes q run = Same-of p q run.0
  replies_same p (ask ∷ asks) bytes q run = Same-trans p run.1 q run.3.same (replies_same run.1 asks run.2 q run.5)

  breaks_same : (p : PassSeen) (asks : List Ask) (q : PassSeen) (taken now : Option (List ℕ)) → BreaksOff (SettledBy keeper access) LeftBy p asks q taken now → IsSame p q
  breaks_same p asks q taken now b = Same-trans p b.last q (replies_same p b.first b.answered.bytes b.last b.answered.run) (⊎_elim (λ e. Same-of b.last q e) (λ (l : LeftBy b.last q). l.same) b.end)

  ends_same : {S W C : Type 0} (source : SourceOf S) (sink : SinkOf W) (clock : ClockOf C) (terms : Terms) (before after : Parts PassSeen S W C) (result : Result ℕ ServeFault)
      → Ends (SettledBy keeper access) LeftBy source sink clock terms before after result → IsSame before.handler after.handler
  ends_same source sink clock terms before after (Ok n) e = replies_same _ _ _ _ e.answers.run
  ends_same source sink clock terms before after (Err Read) e = replies_same _ _ _ _ e.answers.run
  ends_same source sink clock terms before after (Err Write) e = replies_same _ _ _ _ e.answers.run
  ends_same source sink clock terms before after (Err (Turns n)) e = replies_same _ _ _ _ e.answers.run
  ends_same source sink clock terms before after (Err (TimedOut since limit at)) e = replies_same _ _ _ _ e.answers.run
  ends_same source sink clock terms before after (Err OutOfMemory) e = breaks_same _ _ _ _ _ e.answers

  module _ {R W C : Type 0} (source : SourceOf R) (sink : SinkOf W) (clock : ClockOf C) (limit : ℕ) where
    treats_same : (p : PassSeen) (came back : Accepted R W C) (answer : Option (Result ℕ ServeFault)) (q : PassSeen)
        → TreatsBy (SettledBy keeper access) LeftBy source sink clock limit p came back answer q → IsSame p q
    treats_same p came back None q t = Same-of p q t.still
    treats_same p came back (Some answer) q t = ends_same source sink clock _ _ _ answer t.ends

    pub connections_same : (p : PassSeen) (handled : List (HandedBack R W C)) (q : PassSeen)
        → ConnectionRun (SettledBy keeper access) LeftBy source sink clock limit p handled q → IsSame p q
    connections_same p [] q run = Same-of p q run
    connections_same p (one ∷ others) q run = Same-trans p run.0 q (treats_same p one.came one.back one.answer run.0 run.1) (connections_same run.0 others q run.2)

-- each at its place
pub passes_same : {P : Type 0} (R : Worker P → Worker P → Type 0) → ((a b : Worker P) → R a b → IsSame a.pass b.pass) → (xs ys : List (Worker P)) → Matches R xs ys → Matches IsSame (their_passes xs) (their_passes ys)
passes_same R same [] [] m = tt
passes_same R same [] (y ∷ ys) m = absurd m
passes_same R same (x ∷ xs) [] m = absurd m
passes_same R same (x ∷ xs) (y ∷ ys) m = (same x y m.0, passes_same R same xs ys m.1)

pub free_same : (ps : List PassSeen) → Matches IsSame ps ps
free_same [] = tt
free_same (p ∷ ps) = (Same-refl p, free_same ps)

pub both_same : (ps qs rs ss : List PassSeen) → Matches IsSame ps qs → Matches IsSame rs ss → Matches IsSame (ps ++ rs) (qs ++ ss)
both_same [] [] rs ss m n = n
both_same [] (q ∷ qs) rs ss m n = absurd m
both_same (p ∷ ps) [] rs ss m n = absurd m
both_same (p ∷ ps) (q ∷ qs) rs ss m n = (m.0, both_same ps qs rs ss m.1 n)

pub all_same : {U T : Type 0} (R : Worker U → Worker U → Type 0) (S : Worker T → Worker T → Type 0) → ((a b : Worker U) → R a b → IsSame a.pass b.pass) → ((a b : Worker T) → S a b → IsSame a.pass b.pass)
    → (before after : ServerSeen U T) → IsServer before after → Matches R before.sockets after.sockets → Matches S before.listeners after.listeners → KeepsPasses before after
all_same R S r s before after same m n =
    both_same before.free after.free _ _ (subst (Matches IsSame before.free) (sym same.free) (free_same before.free))
    (both_same (their_passes before.sockets) (their_passes after.sockets) (their_passes before.listeners) (their_passes after.listeners)
    (passes_same R r before.sockets after.sockets m) (passes_same S s before.listeners after.listeners n))
