-- From event to event.
use Rattle.std.proofs.Common.{◌≡◌, ◌≤◌, ◌∙◌, length, Option, subst, sym, arith}
use Rattle.std.specs.Prelude.{IfSome}
use Rattle.dns_ports.specs.Ports.{GivesNext}
use Rattle.dns_readiness.specs.declared.came.Came.{Came}
use Rattle.dns_readiness.specs.Came.{count_of}
use Rattle.dns_server_core.specs.Connections.{Kept}
use Rattle.dns_crowd.specs.Crowds.{MayCome, came_into, event_of, moment_behind, number_behind}
use Rattle.dns_crowd.proofs.CameEvents.{never_stop}
use Rattle.dns_server_core.specs.Events.{moment}
use Rattle.dns_crowd.proofs.Wanting.{Keeping, Keeping-begun, Keeping-more, Working-broken, Working-done, takes_none}
use Rattle.dns_crowd.proofs.Crowding.{ended_takes, Going, Going-begun, Going-done, Going-more, Stands, Stands-begun, Stands-comes, Stands-more, ends_failed, ends_short}
use Rattle.dns_crowd.proofs.worker.serve_all.Goals as goal

pub loop-init : goal.loop-init
loop-init g c = (
  (tt, tt),
  λ e. subst (λ (k : Kept). Going (g.H.RequestHandler.serves c.args.access.now) g.C.Crowd.told c.args.handler.now c.args.crowd.now c.args.handler.now c.args.crowd.now k) (sym c.new-connections.ensures)
      (Going-begun (g.H.RequestHandler.serves c.args.access.now) g.C.Crowd.told c.args.handler.now c.args.crowd.now),
  subst (λ (k : Kept). Stands (g.H.RequestHandler.serves c.args.access.now) g.C.Crowd.told c.args.handler.now c.args.crowd.now c.args.crowd.now k) (sym c.new-connections.ensures)
      (Stands-begun (g.H.RequestHandler.serves c.args.access.now) g.C.Crowd.told c.args.handler.now c.args.crowd.now),
  c.new-replies.ensures.items,
  c.requires,
  subst (λ (k : Kept). Keeping (g.H.RequestHandler.serves c.args.access.now) g.H.RequestHandler.skips g.C.Crowd.told c.args.handler.now c.args.crowd.now c.args.handler.now c.args.crowd.now k) (sym c.new-connections.ensures)
      (Keeping-begun (g.H.RequestHandler.serves c.args.access.now) g.H.RequestHandler.skips g.C.Crowd.told c.args.handler.now c.args.crowd.now),
)

pub attend-requires-clause-size : goal.attend-requires-clause-size
attend-requires-clause-size g c =
    subst (λ (o : Option Came). IfSome o (λ one. count_of one ≤ length c.next-in-loop.new.room)) c.in-Ok-Some.field-0-is c.in-Ok-Some.ensures.told.size

pub attend-requires-clause-comes : goal.attend-requires-clause-comes
attend-requires-clause-comes g c =
    let told = g.C.Crowd.told in
    Stands-comes (g.H.RequestHandler.serves c.args.access.now) told c.args.handler.now c.args.crowd.now c.loop.crowd c.loop.connections (event_of c.next-in-loop.new.room c.in-Ok-Some.came) c.loop.invariant.2
    (subst (λ (o : Option Came). IfSome o (λ one. MayCome (told c.loop.crowd).last (told c.loop.crowd).greatest (event_of c.next-in-loop.new.room one))) c.in-Ok-Some.field-0-is c.in-Ok-Some.ensures.told.comes)

pub loop-preserved : goal.loop-preserved
loop-preserved g c =
    let told = g.C.Crowd.told in
    let here = told c.loop.crowd in
    let between = told c.next-in-loop.new.self in
    let room = c.next-in-loop.new.room in
    let comes = subst (λ (o : Option Came). IfSome o (λ one. MayCome here.last here.greatest (event_of room one))) c.in-Ok-Some.field-0-is c.in-Ok-Some.ensures.told.comes in
    let on_time : c.loop.connections.last ≤ moment (event_of room c.in-Ok-Some.came) = omega (arith, c.loop.invariant.2.later, comes.later) in
    let given = subst (λ (o : Option Came). GivesNext here.left between.left (came_into room o)) c.in-Ok-Some.field-0-is c.in-Ok-Some.ensures.told.given in
    let last = subst (λ (o : Option Came). between.last ≡ moment_behind here.last (came_into room o)) c.in-Ok-Some.field-0-is c.in-Ok-Some.ensures.told.last in
    let greatest = subst (λ (o : Option Came). between.greatest ≡ number_behind here.greatest (came_into room o)) c.in-Ok-Some.field-0-is c.in-Ok-Some.ensures.told.greatest in (
      (tt, tt),
      λ e. let f = c.is_short_then-is_short.ensures e in
          Going-more (g.H.RequestHandler.serves c.args.access.now) told c.args.handler.now c.args.crowd.now c.loop.handler c.loop.crowd c.next-in-loop.new.self c.loop.connections (event_of room c.in-Ok-Some.came)
          c.attend.new.handler c.attend.new.crowd c.attend.new.connections (c.loop.invariant.1 f.0) comes (never_stop room c.in-Ok-Some.came) given last greatest c.next-in-loop.ensures.told.untaken
          c.next-in-loop.ensures.told.unclosed c.in-Ok-Some.ensures.told.cause.counts
          (c.in-Ok.ensures.attends f.1),
      Stands-more (g.H.RequestHandler.serves c.args.access.now) told c.args.handler.now c.args.crowd.now c.loop.crowd c.next-in-loop.new.self c.loop.connections (event_of room c.in-Ok-Some.came)
          c.attend.new.crowd c.attend.new.connections c.loop.invariant.2 last greatest c.in-Ok-Some.ensures.told.cause.counts c.in-Ok.ensures.goes,
      c.in-Ok.ensures.none,
      omega (arith, c.next-in-loop.auto.room, c.loop.invariant.4),
      Keeping-more (g.H.RequestHandler.serves c.args.access.now) g.H.RequestHandler.skips told c.args.handler.now c.args.crowd.now c.loop.handler c.loop.crowd c.next-in-loop.new.self c.loop.connections (event_of room c.in-Ok-Some.came) c.in-Ok.ensures.treats.0
          c.attend.new.handler c.attend.new.crowd c.attend.new.connections c.loop.invariant.5 on_time given c.next-in-loop.ensures.told.untaken c.in-Ok.ensures.treats.1 c.in-Ok.ensures.goes.at c.in-Ok.ensures.treats.2,
    )

pub returns-in-Ok-None : goal.returns-in-Ok-None
returns-in-Ok-None g c =
    let told = g.C.Crowd.told in
    let given = subst (λ (o : Option Came). GivesNext (told c.loop.crowd).left (told c.next-in-loop.new.self).left (came_into c.next-in-loop.new.room o)) c.in-Ok-None.field-0-is c.in-Ok-None.ensures.told.given in
    record {
      work = Working-done (g.H.RequestHandler.serves c.args.access.now) g.H.RequestHandler.skips told c.args.handler.now c.args.crowd.now c.loop.handler c.loop.crowd c.next-in-loop.new.self c.loop.connections c.loop.invariant.5
          (ended_takes (told c.loop.crowd).left (told c.next-in-loop.new.self).left given) c.next-in-loop.ensures.told.untaken;
      ends =
          ends_short (g.H.RequestHandler.serves c.args.access.now) told c.args.handler.now c.args.crowd.now c.loop.is_short c.loop.handler c.next-in-loop.new.self c.ended.result c.ended.ensures
          (λ e. Going-done (g.H.RequestHandler.serves c.args.access.now) told c.args.handler.now c.args.crowd.now c.loop.handler c.loop.crowd c.next-in-loop.new.self c.loop.connections (c.loop.invariant.1 e) given
          c.next-in-loop.ensures.told.untaken c.next-in-loop.ensures.told.unclosed c.in-Ok-None.ensures.told.cause.counts)
          (c.in-Ok-None.ensures.told.cause.counts ∙ c.loop.invariant.2.calm);
    }

pub returns-in-Err : goal.returns-in-Err
returns-in-Err g c =
    let told = g.C.Crowd.told in
    record {
      work = Working-done (g.H.RequestHandler.serves c.args.access.now) g.H.RequestHandler.skips told c.args.handler.now c.args.crowd.now c.loop.handler c.loop.crowd c.next-in-loop.new.self c.loop.connections c.loop.invariant.5
          (takes_none (told c.loop.crowd).left (told c.next-in-loop.new.self).left c.in-Err.ensures.told.kept) c.next-in-loop.ensures.told.untaken;
      ends = ends_failed (g.H.RequestHandler.serves c.args.access.now) told c.args.handler.now c.args.crowd.now c.in-Err.fault c.loop.handler c.loop.crowd c.next-in-loop.new.self c.loop.invariant.2.calm
          c.in-Err.ensures.told.cause.counts;
    }

pub returns-in-Err-attend : goal.returns-in-Err-attend
returns-in-Err-attend g c =
    let told = g.C.Crowd.told in
    let here = told c.loop.crowd in
    let between = told c.next-in-loop.new.self in
    let room = c.next-in-loop.new.room in
    let comes = subst (λ (o : Option Came). IfSome o (λ one. MayCome here.last here.greatest (event_of room one))) c.in-Ok-Some.field-0-is c.in-Ok-Some.ensures.told.comes in
    let given = subst (λ (o : Option Came). GivesNext here.left between.left (came_into room o)) c.in-Ok-Some.field-0-is c.in-Ok-Some.ensures.told.given in
    let on_time : c.loop.connections.last ≤ moment (event_of room c.in-Ok-Some.came) = omega (arith, c.loop.invariant.2.later, comes.later) in
    record {
      work = Working-broken (g.H.RequestHandler.serves c.args.access.now) g.H.RequestHandler.skips told c.args.handler.now c.args.crowd.now c.loop.handler c.loop.crowd c.next-in-loop.new.self c.loop.connections (event_of room c.in-Ok-Some.came)
          c.attend.new.handler c.attend.new.crowd c.loop.invariant.5 on_time given c.next-in-loop.ensures.told.untaken c.in-Err-attend.ensures.broken;
      ends = ends_failed (g.H.RequestHandler.serves c.args.access.now) told c.args.handler.now c.args.crowd.now c.in-Err-attend.fault c.attend.new.handler c.next-in-loop.new.self c.attend.new.crowd
          (c.in-Ok-Some.ensures.told.cause.counts ∙ c.loop.invariant.2.calm) c.in-Err-attend.ensures.cause.counts;
    }
