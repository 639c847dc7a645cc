-- The messages were settled at the clock's reading.
use Rattle.std.proofs.Common.{OnErr, OnOk, subst}
use Rattle.dns_server_core.specs.FrameRuns.{Adds, Halts, first_asks}
use Rattle.dns_crowd_server.proofs.Stamps.{adds_at, halts_at, on_err, on_ok}
use Rattle.dns_crowd_server.proofs.stamping.StampedRequestHandler.handle_frames.Goals as goal

pub returns-clause-ok : goal.returns-clause-ok
returns-clause-ok g c =
    let serves = g.H.RequestHandler.serves c.args.access.now in
    let asked = c.asked_by-asked.result in
    let given = subst
    (λ (h : g.row.H.Denot). OnOk c.handle_frames.result (Adds serves h (first_asks asked c.args.most asked.bytes) c.handle_frames.new.self c.args.replies.now.items c.handle_frames.new.replies.items))
    c.self.view_is c.handle_frames.ensures.ok in
    on_ok c.handle_frames.result
    (adds_at serves c.args.self.now c.args.stream.now asked (g.C.Clock.clock.last c.asked_by-asked.new.clock) c.args.most c.handle_frames.new.self c.args.replies.now.items c.handle_frames.new.replies.items
    c.asked_by-asked.ensures.is c.asked_by-asked.ensures.moment)
    given

pub returns-clause-err : goal.returns-clause-err
returns-clause-err g c =
    let serves = g.H.RequestHandler.serves c.args.access.now in
    let skips = g.H.RequestHandler.skips in
    let asked = c.asked_by-asked.result in
    let given = subst
    (λ (h : g.row.H.Denot). OnErr c.handle_frames.result (Halts serves skips h (first_asks asked c.args.most asked.bytes) c.handle_frames.new.self c.args.replies.now.items c.handle_frames.new.replies.items))
    c.self.view_is c.handle_frames.ensures.err in
    on_err c.handle_frames.result
    (halts_at serves skips c.args.self.now c.args.stream.now asked (g.C.Clock.clock.last c.asked_by-asked.new.clock) c.args.most c.handle_frames.new.self c.args.replies.now.items c.handle_frames.new.replies.items
    c.asked_by-asked.ensures.is c.asked_by-asked.ensures.moment)
    given
