-- What the worker did.
use Rattle.std.proofs.Common.{[], ◌∙◌, sym, refl, subst₂}
use Rattle.dns_ticket_lock.specs.Passes.{PassSeen, SettledBy, LeftBy}
use Rattle.dns_crowd.specs.Turns.{ServesCrowd}
use Rattle.dns_crowd_server.specs.Stamps.{AtSomeMoment}
use Rattle.dns_crowd_server.proofs.SamePasses.{events_same}
use Rattle.dns_crowd_server.proofs.crowd_threads.end_one.Goals as goal

pub returns : goal.returns
returns g c =
    let works = subst₂
    (λ (p q : PassSeen). ServesCrowd (AtSomeMoment (SettledBy g.K.Keeper.keeper c.args.access.now)) LeftBy g.C.Crowd.told p c.args.worker.port q c.serve_crowd-answer.new.crowd c.serve_crowd-answer.result)
    (c.new-seat.ensures ∙ c.new-seated.ensures) (sym (c.into_pass.ensures ∙ c.into_inner.ensures)) c.serve_crowd-answer.ensures in
    record {
      same = events_same g.K.Keeper.keeper c.args.access.now c.args.worker.pass [] works.work.handled works.work.outs c.into_pass.result works.work.settled;
      limit = refl;
      works = works;
    }
