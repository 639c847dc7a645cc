-- What the handler did: a run over the messages, or over the first of them.
use Rattle.std.proofs.Common.{sym, subst, ap}
use Rattle.dns_server_core.specs.Connections.{done}
use Rattle.dns_server_core.specs.Runs.{Answers}
use Rattle.dns_server_core.specs.Handing.{ResponderOf}
use Rattle.dns_server_core.specs.Serving.{ServerOf, StopsAt}
use Rattle.dns_server_core.proofs.Running.{Breaks-first}
use Rattle.dns_server_core.proofs.server.Server.run_events.Goals as goal

pub returns-in-Err-clause-err : goal.returns-in-Err-clause-err
returns-in-Err-clause-err g c =
    let serves = g.T.RequestHandler.serves in
    let skips = g.T.RequestHandler.skips in
    let events = c.as_slice.ensures.value in
    let broke = rw events at c.in-Err.ensures.err in
    let first = Breaks-first serves skips c.begin.new.self c.serve.new.responder (done c.self.inside.sessions c.args.events.now.items) (ap (λ (r : ResponderOf _). r.settled) c.begin.ensures) broke in
    subst (λ (s : ServerOf _). StopsAt (serves s.access) skips s c.args.events.now.items (record { handler = c.finish-done.new.self.handler; access = c.finish-done.new.self.access; kept = c.serve.new.self }) c.args.out.now.items c.finish-done.new.out.items c.finish-done.result)
    c.self.view_is
    (rw (c.finish-done.ensures.settled, c.finish-done.ensures.outs, c.finish-done.ensures.handler)
    (record { running = sym c.if-is_stopped.ensures; some = first.0; last = broke.last; answered = rw c.begin.ensures at first.1; end = broke.end; cut_off = rw events at c.in-Err.ensures.cut_off }))

pub returns-in-Ok-clause-ok : goal.returns-in-Ok-clause-ok
returns-in-Ok-clause-ok g c =
    rw (c.finish.ensures.handler, c.finish.ensures.outs)
    (subst (λ (s : ServerOf _). Answers (g.T.RequestHandler.serves s.access) s.handler (done s.kept c.args.events.now.items) c.serve.new.responder.handler c.args.out.now.items c.serve.new.responder.outs)
    c.self.view_is (rw (c.as_slice.ensures.value, c.begin.ensures) at c.in-Ok.ensures.ran.answered))
