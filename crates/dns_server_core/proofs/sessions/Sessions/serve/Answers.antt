-- The list, event by event.
use Rattle.std.proofs.Common.{sym, ap, ◌∙◌, subst}
use Rattle.std.proofs.lemmas.List.{take_all}
use Rattle.dns_server_core.specs.Connections.{Kept, done}
use Rattle.dns_server_core.specs.Order.{IsKept, closed}
use Rattle.dns_server_core.proofs.Running.{Front-none}
use Rattle.dns_server_core.proofs.ListsHanded.{listed-more, listed-broke}
use Rattle.dns_server_core.proofs.ListsKept.{so_far, so_far-nil, rises-next, parts, kept-more, cut_off, after-is}
use Rattle.dns_server_core.proofs.sessions.Sessions.serve.Goals as goal

pub loop-event-init : goal.loop-event-init
loop-event-init g c =
    let kept : IsKept c.args.self.now = subst (λ (k : Kept). IsKept k) c.self.view_is c.self.invariant in
    record {
      kept = sym (so_far-nil c.args.self.now kept.rests kept.going);
      front = Front-none _ _ _;
    }

pub take_event-requires-clause-rises : goal.take_event-requires-clause-rises
take_event-requires-clause-rises g c =
    rw c.loop-event.invariant.kept
    (rises-next c.args.self.now c.args.events.now _ _ c.event-item.result (parts c.args.events.now c.loop-event.event-index c.event-item.result c.loop-event-test.true c.event-item.is) c.requires.valid.numbers)

pub returns-in-Err-clause-err : goal.returns-in-Err-clause-err
returns-in-Err-clause-err g c =
    listed-broke g.H.RequestHandler.serves g.H.RequestHandler.skips c.args.self.now c.loop-event.self c.args.events.now c.loop-event.event-index c.event-item.result
    c.args.responder.now c.loop-event.responder c.take_event.new.responder (done c.args.self.now c.args.events.now)
    c.loop-event-test.true c.event-item.is c.loop-event.invariant.kept c.loop-event.invariant.front c.in-Err.ensures.err

pub returns-in-Err-clause-cut_off : goal.returns-in-Err-clause-cut_off
returns-in-Err-clause-cut_off g c =
    cut_off c.args.self.now c.loop-event.self c.take_event.new.self c.args.events.now c.loop-event.event-index c.event-item.result c.loop-event-test.true c.event-item.is
    c.requires.running c.requires.valid.stop c.loop-event.invariant.kept c.in-Err.ensures.closed

pub loop-event-preserved : goal.loop-event-preserved
loop-event-preserved g c =
    record {
      kept = kept-more c.args.self.now c.loop-event.self c.take_event.new.self c.args.events.now c.loop-event.event-index c.event-item.result c.loop-event-test.true c.event-item.is c.loop-event.invariant.kept c.in-Ok.ensures.ok;
      front = listed-more g.H.RequestHandler.serves c.args.self.now c.loop-event.self c.args.events.now c.loop-event.event-index c.event-item.result
          c.args.responder.now c.loop-event.responder c.take_event.new.responder (done c.args.self.now c.args.events.now)
          c.loop-event-test.true c.event-item.is c.loop-event.invariant.kept c.loop-event.invariant.front c.in-Ok.ensures.ran;
    }

pub returns-clause-after : goal.returns-clause-after
returns-clause-after g c =
    c.close_late.ensures ∙ ap closed (c.loop-event.invariant.kept ∙ ap (so_far c.args.self.now) (take_all c.loop-event.event-index c.args.events.now c.loop-event-test.false))
    ∙ after-is c.args.self.now c.args.events.now c.requires.running c.requires.valid.stop
