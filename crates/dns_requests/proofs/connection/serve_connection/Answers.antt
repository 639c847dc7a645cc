-- From read to read, and how it ends.
use Rattle.std.proofs.Common.{◌≡◌, ◌≢◌, ◌∙◌, ℕ, List, [], length, map, take, refl, sym, ap, subst, arith}
use Rattle.std.proofs.lemmas.List.{length-take-le}
use Rattle.std.proofs.lemmas.Result.{err_from_is_err_and}
use Rattle.dns_io.proofs.ToldContents.{Keeps-same, Keeps-more}
use Rattle.dns_io.specs.declared.peer.Peer.{Peer}
use Rattle.dns_requests.specs.Arrivals.{ask_at}
use Rattle.dns_requests.specs.Ends.{Parts, Terms}
use Rattle.dns_server_core.specs.Connections.{Connection}
use Rattle.dns_server_core.specs.FrameRuns.{Adds, Halts}
use Rattle.dns_server_core.specs.Steps.{HearsPiece, messages_in, with_piece}
use Rattle.dns_server_core.specs.declared.session.Heard.TheVariants.{InTime}
use Rattle.dns_server_core.proofs.LongerRuns.{Halts-none}
use Rattle.dns_requests.proofs.Going.{Going, Going-begun, Heard-more, Heard-answered, ends_answering, ends_cut_off, ends_full, ends_late, ends_reading, ends_served, ends_writing}
use Rattle.dns_requests.proofs.connection.serve_connection.Goals as goal

pub loop-turn-init : goal.loop-turn-init
loop-turn-init g c =
    let before : Parts g.row.T.Denot g.row.R.Denot g.row.W.Denot g.row.C.Denot = record { handler = c.args.handler.now; source = c.args.source.now; sink = c.args.sink.now; clock = c.args.clock.now } in
    let terms : Terms = record { peer = c.args.peer; limit = c.args.limit; reads = c.args.reads } in
    record {
      going = subst (λ (k : Connection). Going (g.T.RequestHandler.serves c.args.access.now) g.T.RequestHandler.skips g.R.Source.source g.W.Sink.sink g.C.Clock.clock terms before
          (record { handler = c.args.handler.now; source = c.args.source.now; sink = c.args.sink.now; clock = c.now-began.new.self }) 0 k)
          (sym c.open-session.ensures)
          (Going-begun (g.T.RequestHandler.serves c.args.access.now) g.T.RequestHandler.skips g.R.Source.source g.W.Sink.sink g.C.Clock.clock terms before c.now-began.new.self c.now-began.result c.now-began.ensures.next);
      peer = ap (λ (k : Connection). k.peer) c.open-session.ensures;
      written = c.new-replies.ensures.items;
      unflushed = Keeps-same _;
    }

pub returns-in_err-count-clause-ends : goal.returns-in_err-count-clause-ends
returns-in_err-count-clause-ends g c =
    let now : Parts g.row.T.Denot g.row.R.Denot g.row.W.Denot g.row.C.Denot = record { handler = c.loop-turn.handler; source = c.loop-turn.source; sink = c.loop-turn.sink; clock = c.loop-turn.clock } in
    let p = err_from_is_err_and c.from_residual.result c.from_residual.ensures.1 in
    rw (p.1, p.2)
    (ends_reading _ _ _ _ _ _ _ now c.loop-turn._turn c.loop-turn.session c.receive.new.source c.in_err-count.field-0.0
    c.loop-turn.invariant.going c.loop-turn-test.true c.in_err-count.ensures.kept c.in_err-count.ensures.err)

pub returns-then-count-eq0-clause-ends : goal.returns-then-count-eq0-clause-ends
returns-then-count-eq0-clause-ends g c =
    let now : Parts g.row.T.Denot g.row.R.Denot g.row.W.Denot g.row.C.Denot = record { handler = c.loop-turn.handler; source = c.loop-turn.source; sink = c.loop-turn.sink; clock = c.loop-turn.clock } in
    let piece = take c.in_ok-count.count c.receive.new.room in
    let size : length piece ≡ c.in_ok-count.count = length-take-le c.in_ok-count.count c.receive.new.room c.in_ok-count.ensures.count in
    rw c.taken.ensures
    (ends_served _ _ _ _ _ _ _ now c.loop-turn._turn c.loop-turn.session c.receive.new.source piece
    c.loop-turn.invariant.going c.loop-turn-test.true c.in_ok-count.ensures.ok (size ∙ c.if-count-eq0.true))

pub returns-in_err-heard-clause-ends : goal.returns-in_err-heard-clause-ends
returns-in_err-heard-clause-ends g c =
    let serves = g.T.RequestHandler.serves c.args.access.now in
    let now : Parts g.row.T.Denot g.row.R.Denot g.row.W.Denot g.row.C.Denot = record { handler = c.loop-turn.handler; source = c.loop-turn.source; sink = c.loop-turn.sink; clock = c.loop-turn.clock } in
    let before : Parts g.row.T.Denot g.row.R.Denot g.row.W.Denot g.row.C.Denot = record { handler = c.args.handler.now; source = c.args.source.now; sink = c.args.sink.now; clock = c.args.clock.now } in
    let terms : Terms = record { peer = c.args.peer; limit = c.args.limit; reads = c.args.reads } in
    let at = c.now-at.result in
    let piece = take c.in_ok-count.count c.receive.new.room in
    let size : length piece ≡ c.in_ok-count.count = length-take-le c.in_ok-count.count c.receive.new.room c.in_ok-count.ensures.count in
    let some : length piece ≢ 0 = subst (λ (n : ℕ). n ≢ 0) (sym size) c.if-count-eq0.false in
    let new = with_piece c.loop-turn.session piece in
    let p = err_from_is_err_and c.from_residual-in_err-heard.result c.from_residual-in_err-heard.ensures.1 in
    let heard = Heard-more serves g.T.RequestHandler.skips g.R.Source.source g.W.Sink.sink g.C.Clock.clock terms before now c.loop-turn._turn c.loop-turn.session c.receive.new.source c.now-at.new.self at piece new
    c.loop-turn.invariant.going c.in_ok-count.ensures.ok some c.now-at.ensures.next (c.in_err-heard.ensures.timely, refl) in
    rw (p.1, p.2)
    (ends_answering serves g.T.RequestHandler.skips g.R.Source.source g.W.Sink.sink g.C.Clock.clock terms before now c.loop-turn._turn c.loop-turn.session
    c.receive.new.source c.now-at.new.self at new c.loop-turn.handler [] [] heard c.loop-turn-test.true (Halts-none serves g.T.RequestHandler.skips c.loop-turn.handler _ []))

pub returns-in-Late-clause-ends : goal.returns-in-Late-clause-ends
returns-in-Late-clause-ends g c =
    let serves = g.T.RequestHandler.serves c.args.access.now in
    let now : Parts g.row.T.Denot g.row.R.Denot g.row.W.Denot g.row.C.Denot = record { handler = c.loop-turn.handler; source = c.loop-turn.source; sink = c.loop-turn.sink; clock = c.loop-turn.clock } in
    let before : Parts g.row.T.Denot g.row.R.Denot g.row.W.Denot g.row.C.Denot = record { handler = c.args.handler.now; source = c.args.source.now; sink = c.args.sink.now; clock = c.args.clock.now } in
    let terms : Terms = record { peer = c.args.peer; limit = c.args.limit; reads = c.args.reads } in
    let at = c.now-at.result in
    let piece = take c.in_ok-count.count c.receive.new.room in
    let size : length piece ≡ c.in_ok-count.count = length-take-le c.in_ok-count.count c.receive.new.room c.in_ok-count.ensures.count in
    let some : length piece ≢ 0 = subst (λ (n : ℕ). n ≢ 0) (sym size) c.if-count-eq0.false in
    ends_late _ _ _ _ _ _ _ now c.loop-turn._turn c.loop-turn.session c.hear.new.self c.receive.new.source c.now-at.new.self at c.in-Late.since piece
    c.loop-turn.invariant.going c.loop-turn-test.true c.in_ok-count.ensures.ok some c.now-at.ensures.next (rw c.in-Late.is at c.in_ok-heard.ensures.ok)

pub returns-in_err-answer-clause-ends : goal.returns-in_err-answer-clause-ends
returns-in_err-answer-clause-ends g c =
    let serves = g.T.RequestHandler.serves c.args.access.now in
    let now : Parts g.row.T.Denot g.row.R.Denot g.row.W.Denot g.row.C.Denot = record { handler = c.loop-turn.handler; source = c.loop-turn.source; sink = c.loop-turn.sink; clock = c.loop-turn.clock } in
    let before : Parts g.row.T.Denot g.row.R.Denot g.row.W.Denot g.row.C.Denot = record { handler = c.args.handler.now; source = c.args.source.now; sink = c.args.sink.now; clock = c.args.clock.now } in
    let terms : Terms = record { peer = c.args.peer; limit = c.args.limit; reads = c.args.reads } in
    let at = c.now-at.result in
    let piece = take c.in_ok-count.count c.receive.new.room in
    let size : length piece ≡ c.in_ok-count.count = length-take-le c.in_ok-count.count c.receive.new.room c.in_ok-count.ensures.count in
    let some : length piece ≢ 0 = subst (λ (n : ℕ). n ≢ 0) (sym size) c.if-count-eq0.false in
    let new = c.hear.new.self in
    let p = err_from_is_err_and c.from_residual-in_err-answer.result c.from_residual-in_err-answer.ensures.1 in
    let in_time = subst (λ (l : List ℕ). HearsPiece c.loop-turn.session at l InTime c.hear.new.self) c.split_at.ensures.front (rw c.in-InTime.is at c.in_ok-heard.ensures.ok) in
    let heard = Heard-more serves g.T.RequestHandler.skips g.R.Source.source g.W.Sink.sink g.C.Clock.clock terms before now c.loop-turn._turn c.loop-turn.session c.receive.new.source c.now-at.new.self at piece c.hear.new.self
    c.loop-turn.invariant.going c.in_ok-count.ensures.ok some c.now-at.ensures.next in_time in
    let same_peer : new.peer ≡ c.args.peer = ap (λ (k : Connection). k.peer) in_time.1 ∙ c.loop-turn.invariant.peer in
    let halts = subst (λ (q : Peer). Halts serves g.T.RequestHandler.skips c.loop-turn.handler (map (ask_at q at) (messages_in new new.rest)) c.answer.new.handler c.loop-turn.replies.items c.answer.new.replies.items) same_peer c.in_err-answer.ensures.err in
    rw (p.1, p.2)
    (ends_answering serves g.T.RequestHandler.skips g.R.Source.source g.W.Sink.sink g.C.Clock.clock terms before now c.loop-turn._turn c.loop-turn.session
    c.receive.new.source c.now-at.new.self at new c.answer.new.handler _ _ heard c.loop-turn-test.true halts)

pub returns-in_err-send-clause-ends : goal.returns-in_err-send-clause-ends
returns-in_err-send-clause-ends g c =
    let serves = g.T.RequestHandler.serves c.args.access.now in
    let now : Parts g.row.T.Denot g.row.R.Denot g.row.W.Denot g.row.C.Denot = record { handler = c.loop-turn.handler; source = c.loop-turn.source; sink = c.loop-turn.sink; clock = c.loop-turn.clock } in
    let before : Parts g.row.T.Denot g.row.R.Denot g.row.W.Denot g.row.C.Denot = record { handler = c.args.handler.now; source = c.args.source.now; sink = c.args.sink.now; clock = c.args.clock.now } in
    let terms : Terms = record { peer = c.args.peer; limit = c.args.limit; reads = c.args.reads } in
    let at = c.now-at.result in
    let piece = take c.in_ok-count.count c.receive.new.room in
    let size : length piece ≡ c.in_ok-count.count = length-take-le c.in_ok-count.count c.receive.new.room c.in_ok-count.ensures.count in
    let some : length piece ≢ 0 = subst (λ (n : ℕ). n ≢ 0) (sym size) c.if-count-eq0.false in
    let in_time = subst (λ (l : List ℕ). HearsPiece c.loop-turn.session at l InTime c.hear.new.self) c.split_at.ensures.front (rw c.in-InTime.is at c.in_ok-heard.ensures.ok) in
    let heard = Heard-more serves g.T.RequestHandler.skips g.R.Source.source g.W.Sink.sink g.C.Clock.clock terms before now c.loop-turn._turn c.loop-turn.session c.receive.new.source c.now-at.new.self at piece c.hear.new.self
    c.loop-turn.invariant.going c.in_ok-count.ensures.ok some c.now-at.ensures.next in_time in
    let new = c.hear.new.self in
    let replies = c.answer.new.replies.items in
    let same_peer : new.peer ≡ c.args.peer = ap (λ (k : Connection). k.peer) in_time.1 ∙ c.loop-turn.invariant.peer in
    let adds = subst (λ (q : Peer). Adds serves c.loop-turn.handler (map (ask_at q at) (messages_in new new.rest)) c.answer.new.handler c.loop-turn.replies.items replies) same_peer c.in_ok-answer.ensures.ok in
    let added = subst (λ (l : List ℕ). Adds serves c.loop-turn.handler (map (ask_at c.args.peer at) (messages_in new new.rest)) c.answer.new.handler l replies) c.loop-turn.invariant.written adds in
    let p = err_from_is_err_and c.from_residual-in_err-send.result c.from_residual-in_err-send.ensures.1 in
    rw (p.1, p.2)
    (ends_writing serves g.T.RequestHandler.skips g.R.Source.source g.W.Sink.sink g.C.Clock.clock terms before now c.loop-turn._turn c.loop-turn.session
    c.receive.new.source c.now-at.new.self at new c.answer.new.handler c.send.new.sink replies c.in_err-send.field-0.0 heard c.loop-turn-test.true added c.in_err-send.ensures.err c.in_err-send.ensures.counts)

pub returns-clause-ends : goal.returns-clause-ends
returns-clause-ends g c =
    let now : Parts g.row.T.Denot g.row.R.Denot g.row.W.Denot g.row.C.Denot = record { handler = c.loop-turn.handler; source = c.loop-turn.source; sink = c.loop-turn.sink; clock = c.loop-turn.clock } in
    ends_cut_off _ _ _ _ _ _ _ now c.loop-turn._turn c.loop-turn.session c.loop-turn.invariant.going (omega (arith, c.loop-turn-test.false, c.loop-turn.auto._turn-end))

pub returns-then-is_over-clause-ends : goal.returns-then-is_over-clause-ends
returns-then-is_over-clause-ends g c =
    let serves = g.T.RequestHandler.serves c.args.access.now in
    let now : Parts g.row.T.Denot g.row.R.Denot g.row.W.Denot g.row.C.Denot = record { handler = c.loop-turn.handler; source = c.loop-turn.source; sink = c.loop-turn.sink; clock = c.loop-turn.clock } in
    let before : Parts g.row.T.Denot g.row.R.Denot g.row.W.Denot g.row.C.Denot = record { handler = c.args.handler.now; source = c.args.source.now; sink = c.args.sink.now; clock = c.args.clock.now } in
    let terms : Terms = record { peer = c.args.peer; limit = c.args.limit; reads = c.args.reads } in
    let at = c.now-at.result in
    let piece = take c.in_ok-count.count c.receive.new.room in
    let size : length piece ≡ c.in_ok-count.count = length-take-le c.in_ok-count.count c.receive.new.room c.in_ok-count.ensures.count in
    let some : length piece ≢ 0 = subst (λ (n : ℕ). n ≢ 0) (sym size) c.if-count-eq0.false in
    let in_time = subst (λ (l : List ℕ). HearsPiece c.loop-turn.session at l InTime c.hear.new.self) c.split_at.ensures.front (rw c.in-InTime.is at c.in_ok-heard.ensures.ok) in
    let heard = Heard-more serves g.T.RequestHandler.skips g.R.Source.source g.W.Sink.sink g.C.Clock.clock terms before now c.loop-turn._turn c.loop-turn.session c.receive.new.source c.now-at.new.self at piece c.hear.new.self
    c.loop-turn.invariant.going c.in_ok-count.ensures.ok some c.now-at.ensures.next in_time in
    let new = c.hear.new.self in
    let replies = c.answer.new.replies.items in
    let same_peer : new.peer ≡ c.args.peer = ap (λ (k : Connection). k.peer) in_time.1 ∙ c.loop-turn.invariant.peer in
    let adds = subst (λ (q : Peer). Adds serves c.loop-turn.handler (map (ask_at q at) (messages_in new new.rest)) c.answer.new.handler c.loop-turn.replies.items replies) same_peer c.in_ok-answer.ensures.ok in
    let added = subst (λ (l : List ℕ). Adds serves c.loop-turn.handler (map (ask_at c.args.peer at) (messages_in new new.rest)) c.answer.new.handler l replies) c.loop-turn.invariant.written adds in
    rw c.taken-then-is_over.ensures
    (ends_full serves g.T.RequestHandler.skips g.R.Source.source g.W.Sink.sink g.C.Clock.clock terms before now c.loop-turn._turn c.loop-turn.session
    c.receive.new.source c.now-at.new.self at new c.answer.new.session c.answer.new.handler c.send.new.sink replies heard c.loop-turn-test.true added c.in_ok-send.ensures.ok c.in_ok-send.ensures.counts
    c.in_ok-answer.ensures.fed (sym c.is_over.ensures ∙ c.if-is_over.true))

pub loop-turn-preserved : goal.loop-turn-preserved
loop-turn-preserved g c =
    let serves = g.T.RequestHandler.serves c.args.access.now in
    let now : Parts g.row.T.Denot g.row.R.Denot g.row.W.Denot g.row.C.Denot = record { handler = c.loop-turn.handler; source = c.loop-turn.source; sink = c.loop-turn.sink; clock = c.loop-turn.clock } in
    let before : Parts g.row.T.Denot g.row.R.Denot g.row.W.Denot g.row.C.Denot = record { handler = c.args.handler.now; source = c.args.source.now; sink = c.args.sink.now; clock = c.args.clock.now } in
    let terms : Terms = record { peer = c.args.peer; limit = c.args.limit; reads = c.args.reads } in
    let at = c.now-at.result in
    let piece = take c.in_ok-count.count c.receive.new.room in
    let size : length piece ≡ c.in_ok-count.count = length-take-le c.in_ok-count.count c.receive.new.room c.in_ok-count.ensures.count in
    let some : length piece ≢ 0 = subst (λ (n : ℕ). n ≢ 0) (sym size) c.if-count-eq0.false in
    let in_time = subst (λ (l : List ℕ). HearsPiece c.loop-turn.session at l InTime c.hear.new.self) c.split_at.ensures.front (rw c.in-InTime.is at c.in_ok-heard.ensures.ok) in
    let heard = Heard-more serves g.T.RequestHandler.skips g.R.Source.source g.W.Sink.sink g.C.Clock.clock terms before now c.loop-turn._turn c.loop-turn.session c.receive.new.source c.now-at.new.self at piece c.hear.new.self
    c.loop-turn.invariant.going c.in_ok-count.ensures.ok some c.now-at.ensures.next in_time in
    let new = c.hear.new.self in
    let replies = c.answer.new.replies.items in
    let same_peer : new.peer ≡ c.args.peer = ap (λ (k : Connection). k.peer) in_time.1 ∙ c.loop-turn.invariant.peer in
    let adds = subst (λ (q : Peer). Adds serves c.loop-turn.handler (map (ask_at q at) (messages_in new new.rest)) c.answer.new.handler c.loop-turn.replies.items replies) same_peer c.in_ok-answer.ensures.ok in
    let added = subst (λ (l : List ℕ). Adds serves c.loop-turn.handler (map (ask_at c.args.peer at) (messages_in new new.rest)) c.answer.new.handler l replies) c.loop-turn.invariant.written adds in
    record {
      going = Heard-answered serves g.T.RequestHandler.skips g.R.Source.source g.W.Sink.sink g.C.Clock.clock terms before now c.loop-turn._turn c.loop-turn.session
          c.receive.new.source c.now-at.new.self at new c.answer.new.session c.answer.new.handler c.send.new.sink replies heard added c.in_ok-send.ensures.ok c.in_ok-send.ensures.counts
          c.in_ok-answer.ensures.fed (sym c.is_over.ensures ∙ c.if-is_over.false);
      peer = ap (λ (k : Connection). k.peer) c.in_ok-answer.ensures.fed ∙ same_peer;
      written = c.in_ok-send.ensures.sent;
      unflushed = Keeps-more _ _ _ c.loop-turn.invariant.unflushed c.send.ensures.unflushed;
    }
