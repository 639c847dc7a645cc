-- Each event is a turn of one connection, or of none.
use Rattle.std.proofs.Common.{◌∙◌, ap, append-nil, sym, refl, List, ◌++◌, []}
use Rattle.dns_server_core.specs.declared.event.Event.TheVariants.{Accepted, Bytes, Ended, Tick}
use Rattle.dns_server_core.specs.Connections.{Connection, accepted, is_safe}
use Rattle.std.specs.List.{filter_map}
use Rattle.dns_server_core.specs.Steps.{completed_now, step}
use Rattle.dns_server_core.proofs.OnePiece.{on_err, on_ok, ok_lists}
use Rattle.dns_server_core.proofs.ConnectionTurns.{idle_conns, idle_next, idle_list, ended_silent}
use Rattle.dns_crowd.proofs.Closings.{unsafe_done}
use Rattle.dns_crowd.proofs.Shutting.{unsafe_shuts}
use Rattle.dns_crowd.proofs.Timed.{kept_timed, same_timed, times_same}
use Rattle.dns_crowd.proofs.FramedReplies.{falters_none, ok_replies, replies_none, replies_same}
use Rattle.dns_crowd.proofs.connections.apply.Goals as goal

pub returns-in-Accepted-clause-ok : goal.returns-in-Accepted-clause-ok
returns-in-Accepted-clause-ok g c = rw c.in-Accepted.is (ok_lists _ _ _ _ c.accept.ensures.ok (ap (λ (l : List Connection). l ++ accepted (Accepted c.in-Accepted.at c.in-Accepted.conn c.in-Accepted.peer c.in-Accepted.limit)) (sym (idle_conns (Accepted c.in-Accepted.at c.in-Accepted.conn c.in-Accepted.peer c.in-Accepted.limit) (λ n. refl) c.args.sessions.now))))

pub returns-in-Accepted-clause-ran : goal.returns-in-Accepted-clause-ran
returns-in-Accepted-clause-ran g c =
    let serves = g.H.RequestHandler.serves c.args.access.now in
    let e = Accepted c.in-Accepted.at c.in-Accepted.conn c.in-Accepted.peer c.in-Accepted.limit in
    rw c.in-Accepted.is
    (ok_replies serves c.accept.result c.in-Accepted.conn c.args.handler.now c.args.handler.now [] (completed_now e c.args.sessions.now) c.args.replies.now.items c.args.replies.now.items
    (idle_list e (λ k. refl) c.args.sessions.now) (on_ok c.accept.result (replies_none serves c.in-Accepted.conn c.args.handler.now c.args.replies.now.items)))

pub returns-in-Accepted-clause-done : goal.returns-in-Accepted-clause-done
returns-in-Accepted-clause-done g c = rw c.in-Accepted.is (unsafe_done c.accept.result (is_safe c.in-Accepted.peer) c.accept.ensures.done)

pub returns-in_ok-is_done-in-Bytes-clause-ok : goal.returns-in_ok-is_done-in-Bytes-clause-ok
returns-in_ok-is_done-in-Bytes-clause-ok g c = rw c.in-Bytes.is ((rw c.split_at.ensures.front at c.in_ok-is_done-in-Bytes.ensures.ok) ∙ sym (append-nil _))

pub returns-in_ok-is_done-in-Bytes-clause-done : goal.returns-in_ok-is_done-in-Bytes-clause-done
returns-in_ok-is_done-in-Bytes-clause-done g c = rw c.in-Bytes.is c.in_ok-is_done-in-Bytes.ensures.done

pub returns-in_ok-is_done-in-Bytes-clause-ran : goal.returns-in_ok-is_done-in-Bytes-clause-ran
returns-in_ok-is_done-in-Bytes-clause-ran g c = rw c.in-Bytes.is (rw c.split_at.ensures.front at c.in_ok-is_done-in-Bytes.ensures.ran)

pub returns-in-Ended-clause-ran : goal.returns-in-Ended-clause-ran
returns-in-Ended-clause-ran g c =
    let serves = g.H.RequestHandler.serves c.args.access.now in
    let e = Ended c.in-Ended.at c.in-Ended.conn in
    rw c.in-Ended.is
    (replies_same serves c.in-Ended.conn c.args.handler.now c.args.handler.now [] (completed_now e c.args.sessions.now) c.args.replies.now.items c.args.replies.now.items
    (idle_list e (λ k. ended_silent c.in-Ended.at c.in-Ended.conn k) c.args.sessions.now) (replies_none serves c.in-Ended.conn c.args.handler.now c.args.replies.now.items))

pub returns-in-Tick-clause-ok : goal.returns-in-Tick-clause-ok
returns-in-Tick-clause-ok g c = rw c.in-Tick.is (idle_next (Tick c.in-Tick.at) (λ n. refl) refl c.args.sessions.now)

pub returns-in-Tick-clause-ran : goal.returns-in-Tick-clause-ran
returns-in-Tick-clause-ran g c =
    let serves = g.H.RequestHandler.serves c.args.access.now in
    let e = Tick c.in-Tick.at in
    rw c.in-Tick.is
    (replies_same serves 0 c.args.handler.now c.args.handler.now [] (completed_now e c.args.sessions.now) c.args.replies.now.items c.args.replies.now.items
    (idle_list e (λ k. refl) c.args.sessions.now) (replies_none serves 0 c.args.handler.now c.args.replies.now.items))

pub returns-in-Accepted-clause-err : goal.returns-in-Accepted-clause-err
returns-in-Accepted-clause-err g c = rw c.in-Accepted.is c.accept.ensures.err

pub returns-in-Accepted-clause-halted : goal.returns-in-Accepted-clause-halted
returns-in-Accepted-clause-halted g c = on_err c.accept.result (falters_none (g.H.RequestHandler.serves c.args.access.now) g.H.RequestHandler.skips c.args.handler.now _)

pub returns-in_err-is_done-in-Bytes-clause-err : goal.returns-in_err-is_done-in-Bytes-clause-err
returns-in_err-is_done-in-Bytes-clause-err g c = rw c.in-Bytes.is (on_err c.from_residual.result c.in_err-is_done-in-Bytes.ensures.err)

pub returns-in_err-is_done-in-Bytes-clause-halted : goal.returns-in_err-is_done-in-Bytes-clause-halted
returns-in_err-is_done-in-Bytes-clause-halted g c = rw c.in-Bytes.is (on_err c.from_residual.result (rw c.split_at.ensures.front at c.in_err-is_done-in-Bytes.ensures.halted))

pub returns-in-Accepted-clause-timed : goal.returns-in-Accepted-clause-timed
returns-in-Accepted-clause-timed g c = rw c.in-Accepted.is c.accept.ensures.timed

pub returns-in_ok-is_done-in-Bytes-clause-timed : goal.returns-in_ok-is_done-in-Bytes-clause-timed
returns-in_ok-is_done-in-Bytes-clause-timed g c =
    let e = Bytes c.in-Bytes.at c.in-Bytes.conn c.split_at.result.0.now in
    rw c.in-Bytes.is
    (times_same e c.args.order.now c.args.order.now c.args.sessions.now (filter_map (step e) c.args.sessions.now) c.hear.new.self c.in_ok-is_done-in-Bytes.ensures.ok
    (kept_timed e c.args.order.now c.args.sessions.now))

pub returns-in_err-is_done-in-Bytes-clause-timed : goal.returns-in_err-is_done-in-Bytes-clause-timed
returns-in_err-is_done-in-Bytes-clause-timed g c =
    rw c.in-Bytes.is
    (times_same (Ended c.in-Bytes.at c.in-Bytes.conn) c.args.order.now c.args.order.now c.args.sessions.now _ c.hear.new.self c.in_err-is_done-in-Bytes.ensures.err
    (kept_timed (Ended c.in-Bytes.at c.in-Bytes.conn) c.args.order.now c.args.sessions.now))

pub returns-in-Ended-clause-timed : goal.returns-in-Ended-clause-timed
returns-in-Ended-clause-timed g c =
    let e = Ended c.in-Ended.at c.in-Ended.conn in
    rw c.in-Ended.is
    (times_same e c.args.order.now c.args.order.now c.args.sessions.now (filter_map (step e) c.args.sessions.now) c.end.new.self c.end.ensures (kept_timed e c.args.order.now c.args.sessions.now))

pub returns-in-Ended-clause-ok : goal.returns-in-Ended-clause-ok
returns-in-Ended-clause-ok g c = rw c.in-Ended.is (c.end.ensures ∙ sym (append-nil _))

pub returns-in-Tick-clause-timed : goal.returns-in-Tick-clause-timed
returns-in-Tick-clause-timed g c = rw c.in-Tick.is (same_timed (Tick c.in-Tick.at) c.args.order.now c.args.sessions.now)

pub accept-requires : goal.accept-requires
accept-requires g c = record { moment = rw c.in-Accepted.is at c.requires.moment; above = (rw c.in-Accepted.is at c.requires.above).0 }

pub returns-in-Accepted-clause-shuts : goal.returns-in-Accepted-clause-shuts
returns-in-Accepted-clause-shuts g c = rw c.in-Accepted.is (unsafe_shuts c.accept.result (is_safe c.in-Accepted.peer) c.in-Accepted.conn c.accept.ensures.done)

pub returns-in_ok-is_done-in-Bytes-clause-shuts : goal.returns-in_ok-is_done-in-Bytes-clause-shuts
returns-in_ok-is_done-in-Bytes-clause-shuts g c = rw c.in-Bytes.is (rw c.split_at.ensures.front at c.in_ok-is_done-in-Bytes.ensures.shuts)
