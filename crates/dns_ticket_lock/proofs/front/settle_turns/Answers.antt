-- One turn more, or a turn in which memory ran out.
use Rattle.std.proofs.Common.{◌≡◌, ◌+◌, ◌-◌, ℕ, List, [], length, sym, ap, subst, ◌∙◌, arith}
use Rattle.std.proofs.lemmas.List.{append-nil}
use Rattle.dns_book.specs.declared.ask.Ask.{Ask}
use Rattle.dns_server_core.specs.FrameRuns.{AddsFront, Halts, behind_first, first_asks, first_messages}
use Rattle.dns_server_core.proofs.FirstFrames.{behind_none}
use Rattle.dns_server_core.proofs.LongerRuns.{on_err as if_err, AddsFront-append, AddsFront-halts}
use Rattle.dns_ticket_lock.specs.declared.view.Terms.{Terms}
use Rattle.dns_ticket_lock.specs.Rule.{own}
use Rattle.dns_ticket_lock.specs.Settling.{SettledAs, LeftAs}
use Rattle.dns_ticket_lock.proofs.Fronts.{if_ok, on_err}
use Rattle.dns_ticket_lock.proofs.front.settle_turns.Goals as goal

pub returns-in_err-front-clause-err : goal.returns-in_err-front-clause-err
returns-in_err-front-clause-err g c =
    let i = c.loop-message.invariant in
    let s = c.settle_turn-rows in
    let by : Terms → ℕ → _ = λ t n. SettledAs g.K.Keeper.keeper t c.args.access.now n in
    let start = own c.args.seat.now.me.0.accounts in
    let before = own c.loop-message.seat.me.0.accounts in
    let after = own s.new.seat.me.0.accounts in
    let left = c.loop-message.left.now in
    let more = c.args.most - c.loop-message.messages in
    let all : List Ask = first_asks c.args.ask.now c.args.most c.args.ask.now.bytes in
    let to_come : List Ask = first_asks c.args.ask.now more left in
    let err = on_err s.result.0 c.in_err-front.field-0.0 _ c.in_err-front.was s.ensures.err in
    let halts = subst (λ (t : Terms). Halts (by t c.args.ask.now.client) LeftAs before to_come after c.loop-message.replies.items s.new.replies.items) i.low.1 err in
    let front = subst (λ (l : List Ask). AddsFront (by c.args.seat.now.me.0.terms c.args.ask.now.client) start all before l c.args.replies.now.items c.loop-message.replies.items) (sym (append-nil to_come)) i.front in
    if_err c.from_residual.result (AddsFront-halts (by c.args.seat.now.me.0.terms c.args.ask.now.client) LeftAs start before after all to_come [] _ _ _ front halts)

pub loop-message-preserved : goal.loop-message-preserved
loop-message-preserved g c =
    let i = c.loop-message.invariant in
    let s = c.settle_turn-rows in
    let f = c.in_ok-front.front in
    let by : Terms → ℕ → _ = λ t n. SettledAs g.K.Keeper.keeper t c.args.access.now n in
    let before = own c.loop-message.seat.me.0.accounts in
    let after = own s.new.seat.me.0.accounts in
    let left = c.loop-message.left.now in
    let more = c.args.most - c.loop-message.messages in
    let less : more - f.messages ≡ c.args.most - (c.loop-message.messages + f.messages) = omega arith in
    let ok = if_ok s.result.0 f _ c.in_ok-front.was s.ensures.ok in
    let front = subst (λ (t : Terms). AddsFront (by t c.args.ask.now.client) before (first_asks c.args.ask.now more left) after (first_asks c.args.ask.now (more - f.messages) f.left.now) c.loop-message.replies.items s.new.replies.items) i.low.1 ok in
    let fewer = subst (λ (n : ℕ). AddsFront (by c.args.seat.now.me.0.terms c.args.ask.now.client) before (first_asks c.args.ask.now more left) after (first_asks c.args.ask.now n f.left.now) c.loop-message.replies.items s.new.replies.items) less front in
    let count = if_ok s.result.0 f _ c.in_ok-front.was s.ensures.count in
    let shorter = if_ok s.result.0 f _ c.in_ok-front.was s.ensures.shorter in
    let few = if_ok s.result.0 f _ c.in_ok-front.was s.ensures.few in
    record {
      table = s.ensures.same ∙ i.table;
      idle = s.ensures.idle;
      low = (s.ensures.low.0 ∙ i.low.0, s.ensures.low.1 ∙ i.low.1);
      seen = s.ensures.seen;
      front = AddsFront-append (by c.args.seat.now.me.0.terms c.args.ask.now.client) (own c.args.seat.now.me.0.accounts) before after (first_asks c.args.ask.now c.args.most c.args.ask.now.bytes) (first_asks c.args.ask.now more left) (first_asks c.args.ask.now (c.args.most - (c.loop-message.messages + f.messages)) f.left.now)
          c.args.replies.now.items c.loop-message.replies.items s.new.replies.items i.front fewer;
      within = omega (arith, i.within, few.0);
      count = omega (arith, i.count, count, ap (λ (n : ℕ). length (first_messages n f.left.now)) less);
      behind = sym (ap (λ (n : ℕ). behind_first n f.left.now) less) ∙ if_ok s.result.0 f _ c.in_ok-front.was s.ensures.behind ∙ i.behind;
      shorter = omega (arith, i.shorter, shorter);
    }

pub returns-clause-rest : goal.returns-clause-rest
returns-clause-rest g c =
    ap length (sym (behind_none (c.args.most - c.loop-message.messages) c.loop-message.left.now c.in_default.ensures.none) ∙ c.loop-message.invariant.behind)
