-- One message more, or a message in front of which it stopped.
use Rattle.std.proofs.Common.{◌≡◌, ◌∙◌, ◌∷◌, [], List, ℕ, ◌+◌, ◌-◌, map, length, subst, ap, sym, arith}
use Rattle.dns_server_core.specs.Connections.{message_of, messages_left}
use Rattle.dns_server_core.specs.FrameRuns.{behind_first, first_messages}
use Rattle.dns_server_core.specs.Handing.{HandsFront}
use Rattle.dns_server_core.specs.Steps.{unread_messages}
use Rattle.dns_server_core.proofs.FirstFrames.{behind_none}
use Rattle.dns_server_core.proofs.OnePiece.{on_err}
use Rattle.dns_server_core.proofs.Running.{Front-end, Front-more, Breaks-within}
use Rattle.dns_server_core.proofs.responder.Responder.settle_unread.Goals as goal

pub returns-in_err-settle_message-clause-err : goal.returns-in_err-settle_message-clause-err
returns-in_err-settle_message-clause-err g c =
    let asked = message_of c.args.at c.args.connection.now in
    let all = unread_messages c.args.at c.args.connection.now in
    let most : ℕ = messages_left c.args.connection.now - c.loop-message.messages in
    let to_come : first_messages most c.loop-message.left.now ≡ c.in-Some.message.now ∷ first_messages (most - 1) c.in-Some.after.now = rw c.most.ensures at c.in-Some.ensures.messages in
    let front = subst (λ (ms : List (List ℕ)). HandsFront g.H.RequestHandler.serves c.args.self.now all c.loop-message.self (map asked ms)) to_come c.loop-message.invariant.front in
    on_err c.from_residual.result
    (Breaks-within g.H.RequestHandler.serves g.H.RequestHandler.skips c.args.self.now c.loop-message.self c.settle_message.new.self all
    (asked c.in-Some.message.now ∷ []) (map asked (first_messages (most - 1) c.in-Some.after.now)) front
    (rw (c.number.ensures, c.peer.ensures) at c.in_err-settle_message.ensures.err))

pub loop-message-preserved : goal.loop-message-preserved
loop-message-preserved g c =
    let asked = message_of c.args.at c.args.connection.now in
    let all = unread_messages c.args.at c.args.connection.now in
    let most : ℕ = messages_left c.args.connection.now - c.loop-message.messages in
    let i = c.loop-message.invariant in
    let after = c.in-Some.after.now in
    let less : most - 1 ≡ messages_left c.args.connection.now - (c.loop-message.messages + 1) = omega arith in
    let first : first_messages most c.loop-message.left.now ≡ c.in-Some.message.now ∷ first_messages (most - 1) after = rw c.most.ensures at c.in-Some.ensures.messages in
    let to_come : first_messages most c.loop-message.left.now ≡ c.in-Some.message.now ∷ first_messages (messages_left c.args.connection.now - (c.loop-message.messages + 1)) after =
    first ∙ ap (λ (n : ℕ). c.in-Some.message.now ∷ first_messages n after) less
    in
    let behind : behind_first most c.loop-message.left.now ≡ behind_first (most - 1) after = rw c.most.ensures at c.in-Some.ensures.behind in
    let front = subst (λ (ms : List (List ℕ)). HandsFront g.H.RequestHandler.serves c.args.self.now all c.loop-message.self (map asked ms)) to_come i.front in
    record {
      front = Front-more g.H.RequestHandler.serves c.args.self.now c.loop-message.self c.settle_message.new.self all
          (map asked (first_messages (messages_left c.args.connection.now - (c.loop-message.messages + 1)) after))
          (asked c.in-Some.message.now) front (rw (c.number.ensures, c.peer.ensures) at c.in_ok-settle_message.ensures.ok);
      within = omega (arith, i.within, c.in-Some.ensures.some, c.most.ensures);
      count = omega (arith, i.count, ap length to_come);
      behind = sym (behind ∙ ap (λ (n : ℕ). behind_first n after) less) ∙ i.behind;
    }

pub returns-clause-ok : goal.returns-clause-ok
returns-clause-ok g c =
    let none : first_messages (messages_left c.args.connection.now - c.loop-message.messages) c.loop-message.left.now ≡ [] = rw c.most.ensures at c.in_default.ensures.none in
    Front-end g.H.RequestHandler.serves c.args.self.now c.loop-message.self (unread_messages c.args.at c.args.connection.now)
    (subst (λ (ms : List (List ℕ)). HandsFront g.H.RequestHandler.serves c.args.self.now (unread_messages c.args.at c.args.connection.now) c.loop-message.self (map (message_of c.args.at c.args.connection.now) ms))
    none c.loop-message.invariant.front)

pub returns-clause-rest : goal.returns-clause-rest
returns-clause-rest g c =
    let none : first_messages (messages_left c.args.connection.now - c.loop-message.messages) c.loop-message.left.now ≡ [] = rw c.most.ensures at c.in_default.ensures.none in
    ap length (sym (behind_none (messages_left c.args.connection.now - c.loop-message.messages) c.loop-message.left.now none) ∙ c.loop-message.invariant.behind)
