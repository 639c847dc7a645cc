-- Each event is a turn of one connection, or of none.
use Rattle.std.proofs.Common.{ap, sym, refl, List, ◌++◌, []}
use Rattle.dns_server_core.specs.declared.event.Event.TheVariants.{Accepted, Ended, Datagram, Tick, Stop}
use Rattle.dns_server_core.specs.Connections.{Connection, accepted}
use Rattle.dns_server_core.specs.Steps.{completed_now}
use Rattle.dns_server_core.proofs.Running.{Hands-none, Hands-same, ok_hands, breaks_none, breaks_same}
use Rattle.dns_server_core.proofs.OnePiece.{on_ok, ok_lists}
use Rattle.dns_server_core.proofs.ConnectionTurns.{idle_conns, idle_next, idle_list, ended_silent}
use Rattle.dns_server_core.proofs.sessions.apply.Goals as goal

pub returns-in-Accepted-clause-ok : goal.returns-in-Accepted-clause-ok
returns-in-Accepted-clause-ok g c = rw c.in-Accepted.is (ok_lists _ _ _ _ c.accept.ensures (ap (λ (l : List Connection). l ++ accepted (Accepted c.in-Accepted.at c.in-Accepted.conn c.in-Accepted.peer c.in-Accepted.limit)) (sym (idle_conns (Accepted c.in-Accepted.at c.in-Accepted.conn c.in-Accepted.peer c.in-Accepted.limit) (λ n. refl) c.args.connections.now.items))))

pub returns-in-Accepted-clause-ran : goal.returns-in-Accepted-clause-ran
returns-in-Accepted-clause-ran g c = rw c.in-Accepted.is (ok_hands g.H.RequestHandler.serves c.accept.result c.args.responder.now c.args.responder.now [] (completed_now (Accepted c.in-Accepted.at c.in-Accepted.conn c.in-Accepted.peer c.in-Accepted.limit) c.args.connections.now.items) (idle_list (Accepted c.in-Accepted.at c.in-Accepted.conn c.in-Accepted.peer c.in-Accepted.limit) (λ k. refl) c.args.connections.now.items) (on_ok c.accept.result (Hands-none g.H.RequestHandler.serves c.args.responder.now)))

pub returns-in-Accepted-clause-err : goal.returns-in-Accepted-clause-err
returns-in-Accepted-clause-err g c = breaks_none g.H.RequestHandler.serves c.accept.result g.H.RequestHandler.skips c.args.responder.now (completed_now c.args.event.now c.args.connections.now.items)

pub returns-in-Ended-clause-ran : goal.returns-in-Ended-clause-ran
returns-in-Ended-clause-ran g c = rw c.in-Ended.is (Hands-same g.H.RequestHandler.serves c.args.responder.now c.args.responder.now [] (completed_now (Ended c.in-Ended.at c.in-Ended.conn) c.args.connections.now.items) (idle_list (Ended c.in-Ended.at c.in-Ended.conn) (λ k. ended_silent c.in-Ended.at c.in-Ended.conn k) c.args.connections.now.items) (Hands-none g.H.RequestHandler.serves c.args.responder.now))

pub returns-in-Datagram-clause-ok : goal.returns-in-Datagram-clause-ok
returns-in-Datagram-clause-ok g c = rw c.in-Datagram.is (on_ok _ (idle_next (Datagram c.in-Datagram.at c.in-Datagram.peer c.in-Datagram.bytes) (λ n. refl) refl c.args.connections.now.items))

pub returns-in-Datagram-clause-ran : goal.returns-in-Datagram-clause-ran
returns-in-Datagram-clause-ran g c = rw c.in-Datagram.is (ok_hands g.H.RequestHandler.serves c.settle_datagram.result c.args.responder.now c.settle_datagram.new.self _ (completed_now (Datagram c.in-Datagram.at c.in-Datagram.peer c.in-Datagram.bytes) c.args.connections.now.items) (idle_list (Datagram c.in-Datagram.at c.in-Datagram.peer c.in-Datagram.bytes) (λ k. refl) c.args.connections.now.items) c.settle_datagram.ensures.ran)

pub returns-in-Datagram-clause-err : goal.returns-in-Datagram-clause-err
returns-in-Datagram-clause-err g c = rw c.in-Datagram.is (breaks_same g.H.RequestHandler.serves c.settle_datagram.result g.H.RequestHandler.skips c.args.responder.now c.settle_datagram.new.self _ (completed_now (Datagram c.in-Datagram.at c.in-Datagram.peer c.in-Datagram.bytes) c.args.connections.now.items) (idle_list (Datagram c.in-Datagram.at c.in-Datagram.peer c.in-Datagram.bytes) (λ k. refl) c.args.connections.now.items) c.settle_datagram.ensures.err)

pub returns-in-Tick-clause-ok : goal.returns-in-Tick-clause-ok
returns-in-Tick-clause-ok g c = rw c.in-Tick.is (idle_next (Tick c.in-Tick.at) (λ n. refl) refl c.args.connections.now.items)

pub returns-in-Tick-clause-ran : goal.returns-in-Tick-clause-ran
returns-in-Tick-clause-ran g c = rw c.in-Tick.is (Hands-same g.H.RequestHandler.serves c.args.responder.now c.args.responder.now [] (completed_now (Tick c.in-Tick.at) c.args.connections.now.items) (idle_list (Tick c.in-Tick.at) (λ k. refl) c.args.connections.now.items) (Hands-none g.H.RequestHandler.serves c.args.responder.now))

pub returns-in-Stop-clause-ok : goal.returns-in-Stop-clause-ok
returns-in-Stop-clause-ok g c = rw c.in-Stop.is (idle_next (Stop c.in-Stop.at) (λ n. refl) refl c.args.connections.now.items)

pub returns-in-Stop-clause-ran : goal.returns-in-Stop-clause-ran
returns-in-Stop-clause-ran g c = rw c.in-Stop.is (Hands-same g.H.RequestHandler.serves c.args.responder.now c.args.responder.now [] (completed_now (Stop c.in-Stop.at) c.args.connections.now.items) (idle_list (Stop c.in-Stop.at) (λ k. refl) c.args.connections.now.items) (Hands-none g.H.RequestHandler.serves c.args.responder.now))
