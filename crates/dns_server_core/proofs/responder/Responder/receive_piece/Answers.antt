-- Nothing was handed over, or all that was whole and may still come.
use Rattle.std.proofs.Common.{ap, not}
use Rattle.dns_server_core.proofs.Running.{Hands-none, Hands-same, Breaks-same, breaks_none}
use Rattle.dns_server_core.proofs.OnePiece.{on_err, heard_in_time, heard_late, moved_in_time, moved_late}
use Rattle.dns_server_core.proofs.responder.Responder.receive_piece.Goals as goal

pub returns-in_err-heard-clause-err : goal.returns-in_err-heard-clause-err
returns-in_err-heard-clause-err g c = breaks_none g.H.RequestHandler.serves c.from_residual.result g.H.RequestHandler.skips c.args.self.now _

pub returns-in-Late-clause-ok : goal.returns-in-Late-clause-ok
returns-in-Late-clause-ok g c = moved_late c.args.connection.now c.hear.new.self c.args.at c.args.piece.now c.in-Late._since (rw c.in-Late.is at c.in_ok-heard.ensures.ok)

pub returns-in-Late-clause-ran : goal.returns-in-Late-clause-ran
returns-in-Late-clause-ran g c =
    Hands-same g.H.RequestHandler.serves c.args.self.now c.args.self.now _ _
    (heard_late c.args.connection.now c.hear.new.self c.args.at c.args.piece.now c.in-Late._since (rw c.in-Late.is at c.in_ok-heard.ensures.ok)) (Hands-none g.H.RequestHandler.serves c.args.self.now)

pub returns-in_err-answered-in-InTime-clause-err : goal.returns-in_err-answered-in-InTime-clause-err
returns-in_err-answered-in-InTime-clause-err g c =
    on_err c.from_residual-in_err-answered-in-InTime.result
    (Breaks-same g.H.RequestHandler.serves g.H.RequestHandler.skips c.args.self.now c.settle_unread.new.self _ _
    (heard_in_time c.args.connection.now c.hear.new.self c.args.at c.args.piece.now (rw c.in-InTime.is at c.in_ok-heard.ensures.ok)) c.in_err-answered-in-InTime.ensures.err)

pub returns-in_ok-answered-in-InTime-clause-ok : goal.returns-in_ok-answered-in-InTime-clause-ok
returns-in_ok-answered-in-InTime-clause-ok g c =
    moved_in_time c.args.connection.now c.hear.new.self c.settled.new.self c.args.at c.args.piece.now (not c.is_over.result) (rw c.in-InTime.is at c.in_ok-heard.ensures.ok) c.settled.ensures
    (ap not c.is_over.ensures)

pub returns-in_ok-answered-in-InTime-clause-ran : goal.returns-in_ok-answered-in-InTime-clause-ran
returns-in_ok-answered-in-InTime-clause-ran g c =
    Hands-same g.H.RequestHandler.serves c.args.self.now c.settle_unread.new.self _ _
    (heard_in_time c.args.connection.now c.hear.new.self c.args.at c.args.piece.now (rw c.in-InTime.is at c.in_ok-heard.ensures.ok)) c.in_ok-answered-in-InTime.ensures.ok
