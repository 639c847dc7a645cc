-- Those that are within their limits stay.
use Rattle.std.proofs.Common.{◌≡◌, ℕ, List, [], ap, false, subst, sym}
use Rattle.std.specs.List.{AllByRecursion}
use Rattle.dns_server_core.specs.Connections.{Connection, Kept}
use Rattle.dns_crowd.specs.Crowds.{event_of}
use Rattle.dns_crowd.specs.Turns.{IsShut, Shuts, ShutsAll, late_by, late_numbers, numbers_of, stays_by}
use Rattle.dns_crowd.proofs.Closings.{late_shut}
use Rattle.dns_crowd.proofs.Late.{all_moved}
use Rattle.dns_crowd.proofs.connections.Connections.close_late.Goals as goal

pub close_late-requires-clause-climbs : goal.close_late-requires-clause-climbs
close_late-requires-clause-climbs g c = c.self.invariant.table.climbs

pub invariant_of-self : goal.invariant_of-self
invariant_of-self g c = record {
  table = c.close_late.ensures.kept c.self.inside.last c.self.inside.greatest c.self.invariant.table;
  moment = c.self.invariant.moment;
  timed = c.close_late.ensures.timed;
}

pub invariant_of-self-in-Tick : goal.invariant_of-self-in-Tick
invariant_of-self-in-Tick g c = record {
  table = c.close_late.ensures.kept c.self.inside.last c.self.inside.greatest c.self.invariant.table;
  moment = c.self.invariant.moment;
  timed = c.close_late.ensures.timed;
}

pub returns-in-Ok-clause-left : goal.returns-in-Ok-clause-left
returns-in-Ok-clause-left g c =
    let kept : Kept = record { last = c.self.inside.last; greatest = c.self.inside.greatest; stopped = false; connections = c.self.inside.sessions } in
    let now : Kept = record kept { connections = c.close_late.new.sessions } in
    subst (λ (k : Kept). now ≡ record k { connections = stays_by (event_of [] c.args.came.now) k.last k.connections }) c.self.view_is
    (rw c.in-Tick.is (ap (λ (l : List Connection). record kept { connections = l }) c.in-Ok.ensures.left))

pub returns-in-Ok-clause-all : goal.returns-in-Ok-clause-all
returns-in-Ok-clause-all g c =
    let told = g.C.Crowd.told in
    subst (λ (k : Kept). ShutsAll (told c.args.crowd.now).closed (told c.close_late.new.crowd).closed (late_by (event_of [] c.args.came.now) k.last k.connections)) c.self.view_is (rw c.in-Tick.is c.in-Ok.ensures.all)

pub returns-in-Ok-clause-closed : goal.returns-in-Ok-clause-closed
returns-in-Ok-clause-closed g c =
    let told = g.C.Crowd.told in
    let late : List ℕ = late_numbers c.self.inside.last c.self.inside.sessions in
    let all = c.in-Ok.ensures.all in
    subst (λ (k : Kept). Shuts (told c.args.crowd.now).closed (told c.close_late.new.crowd).closed (numbers_of k.connections) c.close_late.new.sessions) c.self.view_is
    (record {
      closed = all.closed;
      grown = all.grown;
      shut = all_moved (IsShut (numbers_of c.self.inside.sessions) c.close_late.new.sessions) late all.closed all.all
          (subst (λ (l : List Connection). AllByRecursion (IsShut (numbers_of c.self.inside.sessions) l) late) (sym c.in-Ok.ensures.left)
          (late_shut c.self.inside.last c.self.inside.sessions c.self.invariant.table.climbs));
    })
