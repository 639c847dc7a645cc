-- One message more, or a message in front of which memory ran out.
use Rattle.std.proofs.Common.{◌≡◌, ◌∷◌, [], List, ℕ, map, length, subst, ap, sym, ◌∙◌, ◌+◌, ◌-◌, arith}
use Rattle.dns_book.specs.declared.ask.Ask.{Ask}
use Rattle.dns_server_core.specs.FrameRuns.{Adds, AddsFront, behind_first, first_asks, first_messages}
use Rattle.dns_server_core.proofs.FirstFrames.{behind_none}
use Rattle.dns_server_core.proofs.LongerRuns.{on_err, Adds-one, AddsFront-more, AddsFront-end, AddsFront-halts, Halts-skips}
use Rattle.dns_server_core.proofs.handler.RequestHandler.handle_frames.Goals as goal

pub returns-in_err-_settled-clause-err : goal.returns-in_err-_settled-clause-err
returns-in_err-_settled-clause-err g c =
    let serves = g.Self.RequestHandler.serves c.args.access.now in
    let skips = g.Self.RequestHandler.skips in
    let with_message : List ℕ → Ask = λ m. record c.args.stream.now { bytes = m } in
    let all = first_asks c.args.stream.now c.args.most c.args.stream.now.bytes in
    let later = first_messages (c.args.most - c.loop-message.messages - 1) c.in-Some.after.now in
    let goes = subst (λ (ms : List (List ℕ)). AddsFront serves c.args.self.now all c.loop-message.self (map with_message ms) c.args.replies.now.items c.loop-message.replies.items) c.in-Some.ensures.messages c.loop-message.invariant.goes in
    on_err c.from_residual.result
    (AddsFront-halts serves skips c.args.self.now c.loop-message.self c.handle_into.new.self all (with_message c.in-Some.message.now ∷ []) (map with_message later) _ _ _ goes
    (Halts-skips serves skips c.loop-message.self c.handle_into.new.self _ c.loop-message.replies.items c.handle_into.new.out.items c.in_err-_settled.ensures.err c.in_err-_settled.ensures.out))

pub loop-message-preserved : goal.loop-message-preserved
loop-message-preserved g c =
    let serves = g.Self.RequestHandler.serves c.args.access.now in
    let with_message : List ℕ → Ask = λ m. record c.args.stream.now { bytes = m } in
    let i = c.loop-message.invariant in
    let after = c.in-Some.after.now in
    let all = first_asks c.args.stream.now c.args.most c.args.stream.now.bytes in
    let less : c.args.most - c.loop-message.messages - 1 ≡ c.args.most - (c.loop-message.messages + 1) = omega arith in
    let to_come : first_messages (c.args.most - c.loop-message.messages) c.loop-message.left.now ≡ c.in-Some.message.now ∷ first_messages (c.args.most - (c.loop-message.messages + 1)) after =
    c.in-Some.ensures.messages ∙ ap (λ (n : ℕ). c.in-Some.message.now ∷ first_messages n after) less
    in
    let goes = subst (λ (ms : List (List ℕ)). AddsFront serves c.args.self.now all c.loop-message.self (map with_message ms) c.args.replies.now.items c.loop-message.replies.items) to_come i.goes in
    let one = Adds-one serves c.loop-message.self c.handle_into.new.self c.message_in-ask.result _ _ c.in_ok-_settled._settled c.in_ok-_settled.ensures.ok in
    record {
      within = omega (arith, i.within, c.in-Some.ensures.some);
      goes = AddsFront-more serves c.args.self.now c.loop-message.self c.handle_into.new.self all (first_asks c.args.stream.now (c.args.most - (c.loop-message.messages + 1)) after)
          (with_message c.in-Some.message.now) _ c.loop-message.replies.items _ goes
          (subst (λ (k : Ask). Adds serves c.loop-message.self (k ∷ []) c.handle_into.new.self c.loop-message.replies.items c.handle_into.new.out.items) c.message_in-ask.ensures one);
      count = omega (arith, i.count, ap length to_come);
      behind = sym (c.in-Some.ensures.behind ∙ ap (λ (n : ℕ). behind_first n after) less) ∙ i.behind;
      shorter = omega (arith, i.shorter, c.in-Some.ensures.inside);
    }

pub returns-clause-ok : goal.returns-clause-ok
returns-clause-ok g c =
    let serves = g.Self.RequestHandler.serves c.args.access.now in
    let with_message : List ℕ → Ask = λ m. record c.args.stream.now { bytes = m } in
    let all = first_asks c.args.stream.now c.args.most c.args.stream.now.bytes in
    AddsFront-end serves c.args.self.now c.loop-message.self all c.args.replies.now.items c.loop-message.replies.items
    (subst (λ (ms : List (List ℕ)). AddsFront serves c.args.self.now all c.loop-message.self (map with_message ms) c.args.replies.now.items c.loop-message.replies.items)
    c.in_default.ensures.none c.loop-message.invariant.goes)

pub returns-clause-rest : goal.returns-clause-rest
returns-clause-rest g c =
    ap length (sym (behind_none (c.args.most - c.loop-message.messages) c.loop-message.left.now c.in_default.ensures.none) ∙ c.loop-message.invariant.behind)
