-- Nothing was handed over, or all that was whole and may still come.
use Rattle.std.proofs.Common.{◌≡◌, ℕ, ap, subst}
use Rattle.dns_server_core.specs.Connections.{Connection}
use Rattle.dns_server_core.specs.Steps.{heard_messages, piece_at, unread_messages}
use Rattle.dns_server_core.proofs.OnePiece.{on_err, heard_in_time, heard_late, moved_late}
use Rattle.dns_crowd.specs.Replies.{RepliesTo}
use Rattle.dns_crowd.proofs.FramedReplies.{falters_none, falters_same, falters_settled, replies_none, replies_same, replies_settled}
use Rattle.dns_crowd.proofs.serving.serve_piece.Goals as goal

pub returns-in-Late-clause-ok : goal.returns-in-Late-clause-ok
returns-in-Late-clause-ok g c = moved_late c.args.session.now c.hear.new.self c.args.at c.args.piece.now c.in-Late._since (rw c.in-Late.is at c.in_ok-heard.ensures.ok)

pub returns-in-Late-clause-ran : goal.returns-in-Late-clause-ran
returns-in-Late-clause-ran g c =
    let serves = g.H.RequestHandler.serves c.args.access.now in
    replies_same serves c.args.session.now.number c.args.handler.now c.args.handler.now _ _ c.args.replies.now.items c.args.replies.now.items
    (heard_late c.args.session.now c.hear.new.self c.args.at c.args.piece.now c.in-Late._since (rw c.in-Late.is at c.in_ok-heard.ensures.ok)) (replies_none serves c.args.session.now.number c.args.handler.now c.args.replies.now.items)

pub returns-in_err-heard-clause-halted : goal.returns-in_err-heard-clause-halted
returns-in_err-heard-clause-halted g c =
    on_err c.from_residual.result
    (falters_none (g.H.RequestHandler.serves c.args.access.now) g.H.RequestHandler.skips c.args.handler.now (heard_messages c.args.at c.args.session.now (piece_at c.args.at c.args.piece.now)))

pub returns-in_err-answer-in-InTime-clause-halted : goal.returns-in_err-answer-in-InTime-clause-halted
returns-in_err-answer-in-InTime-clause-halted g c =
    on_err c.from_residual-in_err-answer-in-InTime.result
    (falters_same (g.H.RequestHandler.serves c.args.access.now) g.H.RequestHandler.skips c.args.handler.now c.answer.new.handler _ _
    (heard_in_time c.args.session.now c.hear.new.self c.args.at c.args.piece.now (rw c.in-InTime.is at c.in_ok-heard.ensures.ok))
    (falters_settled (g.H.RequestHandler.serves c.args.access.now) g.H.RequestHandler.skips c.hear.new.self c.args.at c.args.handler.now _ _ _ c.in_err-answer-in-InTime.ensures.err))

pub returns-in_ok-answer-in-InTime-clause-ran : goal.returns-in_ok-answer-in-InTime-clause-ran
returns-in_ok-answer-in-InTime-clause-ran g c =
    let serves = g.H.RequestHandler.serves c.args.access.now in
    let heard = rw c.in-InTime.is at c.in_ok-heard.ensures.ok in
    let number : c.hear.new.self.number ≡ c.args.session.now.number = ap (λ (k : Connection). k.number) heard.1 in
    replies_same serves c.args.session.now.number c.args.handler.now c.answer.new.handler _ _ c.args.replies.now.items c.answer.new.replies.items
    (heard_in_time c.args.session.now c.hear.new.self c.args.at c.args.piece.now heard)
    (subst (λ (n : ℕ). RepliesTo serves c.args.handler.now (unread_messages c.args.at c.hear.new.self) c.answer.new.handler n c.args.replies.now.items c.answer.new.replies.items) number
    (replies_settled serves c.hear.new.self c.args.at c.args.handler.now _ c.args.replies.now.items _ c.in_ok-answer-in-InTime.ensures.ok))
