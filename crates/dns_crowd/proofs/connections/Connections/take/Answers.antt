-- What is kept, one event later.
use Rattle.std.proofs.Common.{◌≡◌, ◌≤◌, ◌<◌, ◌^◌, ◌∙◌, ◌++◌, ◌∷◌, [], ℕ, List, cond, sym, subst, false, arith}
use Rattle.std.specs.List.{AllByRecursion}
use Rattle.dns_readiness.specs.Came.{number_of}
use Rattle.dns_server_core.specs.Connections.{Connection, Kept}
use Rattle.dns_server_core.specs.Events.{moment, number_in}
use Rattle.dns_server_core.specs.Valid.{Rises}
use Rattle.dns_server_core.proofs.KeptOrder.{IsKept-next}
use Rattle.dns_crowd.specs.Crowds.{event_of}
use Rattle.dns_crowd.proofs.CameEvents.{greatest_is, moment_fits, moment_is}
use Rattle.dns_crowd.specs.Tables.{IsTimed}
use Rattle.dns_crowd.specs.Turns.{IsDone, IsShut, done_by, numbers_of}
use Rattle.dns_crowd.proofs.Closings.{done_shut, kept_lost}
use Rattle.dns_crowd.proofs.Placed.{above_all}
use Rattle.dns_crowd.proofs.connections.Connections.take.Goals as goal

pub apply-requires-clause-moment : goal.apply-requires-clause-moment
apply-requires-clause-moment g c = moment_fits c.args.room.now c.args.came.now c.requires.comes.fit

pub apply-requires-clause-above : goal.apply-requires-clause-above
apply-requires-clause-above g c =
    above_all c.self.inside.greatest (event_of c.args.room.now c.args.came.now) c.self.inside.sessions (rw (← c.self.view_is) at c.requires.comes.rises) c.self.invariant.table.below

pub invariant_of-self-2 : goal.invariant_of-self-2
invariant_of-self-2 g c =
    let kept : Kept = record { last = c.self.inside.last; greatest = c.self.inside.greatest; stopped = false; connections = c.self.inside.sessions } in
    let e = event_of c.args.room.now c.args.came.now in
    let n = IsKept-next kept e (rw (← c.self.view_is) at c.requires.comes.rises) c.self.invariant.table in
    let later : c.self.inside.last ≤ moment e = subst (λ (k : Kept). k.last ≤ moment e) (sym c.self.view_is) c.requires.comes.later in
    let fits : moment e < 2 ^ 47 = moment_fits c.args.room.now c.args.came.now c.requires.comes.fit in
    let at : c.moment-self-inside-2.result ≡ moment e = c.moment-self-inside-2.ensures ∙ moment_is c.args.room.now c.args.came.now in
    record {
      table = rw (c.in-Ok.ensures.ok, c.greatest_behind-self-inside-2.ensures, greatest_is c.args.room.now c.self.inside.greatest c.args.came.now) (record { rests = n.rests; going = n.going; climbs = n.climbs; below = n.below });
      moment = omega (arith, at, fits);
      timed = subst (λ (m : ℕ). AllByRecursion (IsTimed m c.apply.new.order) c.apply.new.sessions) (sym at) (c.apply.ensures.timed c.self.inside.last later c.self.invariant.timed);
    }

pub returns-clause-done : goal.returns-clause-done
returns-clause-done g c =
    let e = event_of c.args.room.now c.args.came.now in
    let old : List Connection = c.self.inside.sessions in
    let rises : Rises c.self.inside.greatest (number_in (event_of c.args.room.now c.args.came.now)) = rw (← c.self.view_is) at c.requires.comes.rises in
    λ h. subst (λ (k : Kept). IsShut (numbers_of k.connections ++ number_in e) c.apply.new.sessions (number_of c.args.came.now)) c.self.view_is
    (subst (λ (l : List Connection). IsShut (numbers_of old ++ number_in e) l (number_of c.args.came.now)) (sym c.in-Ok.ensures.ok)
    (done_shut c.self.inside.greatest c.args.room.now c.args.came.now old c.self.invariant.table.below rises
    (subst (λ (l : List Connection). IsDone e old l) c.in-Ok.ensures.ok (c.in-Ok.ensures.done h))))

pub invariant_of-self : goal.invariant_of-self
invariant_of-self g c =
    let kept : Kept = record { last = c.self.inside.last; greatest = c.self.inside.greatest; stopped = false; connections = c.self.inside.sessions } in
    let e = event_of c.args.room.now c.args.came.now in
    let n = kept_lost kept e (rw (← c.self.view_is) at c.requires.comes.rises) c.self.invariant.table in
    let later : c.self.inside.last ≤ moment e = subst (λ (k : Kept). k.last ≤ moment e) (sym c.self.view_is) c.requires.comes.later in
    let fits : moment e < 2 ^ 47 = moment_fits c.args.room.now c.args.came.now c.requires.comes.fit in
    let at : c.moment-self-inside.result ≡ moment e = c.moment-self-inside.ensures ∙ moment_is c.args.room.now c.args.came.now in
    record {
      table = rw (c.in-Err.ensures.err, c.greatest_behind-self-inside.ensures, greatest_is c.args.room.now c.self.inside.greatest c.args.came.now) (record { rests = n.rests; going = n.going; climbs = n.climbs; below = n.below });
      moment = omega (arith, at, fits);
      timed = subst (λ (m : ℕ). AllByRecursion (IsTimed m c.apply.new.order) c.apply.new.sessions) (sym at) (c.apply.ensures.timed c.self.inside.last later c.self.invariant.timed);
    }

pub returns-clause-shuts : goal.returns-clause-shuts
returns-clause-shuts g c =
    subst (λ (k : Kept). done_by (event_of c.args.room.now c.args.came.now) k.connections ≡ cond c.in-Ok.is_done (number_of c.args.came.now ∷ []) []) c.self.view_is c.in-Ok.ensures.shuts
