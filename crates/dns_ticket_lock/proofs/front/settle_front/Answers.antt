-- Messages behind those of which nothing came.
use Rattle.std.proofs.Common.{◌≡◌, ◌∷◌, ◌+◌, ◌-◌, ℕ, length, true, sym, ap, subst, ◌∙◌, arith}
use Rattle.dns_book.specs.declared.ask.Ask.{Ask}
use Rattle.dns_book.specs.Book.{Settles}
use Rattle.dns_book.specs.Into.{SettlesInto}
use Rattle.dns_ticket_lock.specs.Naming.{Advances}
use Rattle.dns_server_core.specs.FrameRuns.{AddsFront, behind_first, first_asks, first_messages}
use Rattle.dns_ticket_lock.specs.declared.held.Told.{Told}
use Rattle.dns_ticket_lock.specs.Rule.{settled}
use Rattle.dns_ticket_lock.specs.Settling.{SettledAs, done_by, receipt_in}
use Rattle.dns_ticket_lock.proofs.Fronts.{Quiet, Quiet-begun, Quiet-more, Quiet-end, Quiet-halts, one_more, if_ok, on_err}
use Rattle.dns_ticket_lock.proofs.front.settle_front.Goals as goal

pub loop-message-init : goal.loop-message-init
loop-message-init g c =
    let bytes = c.args.bytes.now in
    let none : c.args.most - 0 ≡ c.args.most = omega arith in
    record {
      within = (omega arith, omega arith);
      quiet = subst (λ (n : ℕ). Quiet g.K.Keeper.keeper c.args.access.now c.args.ask.now c.args.book.now c.args.book.now c.args.most n bytes bytes c.args.replies.now.items c.args.replies.now.items 0) (sym none)
          (Quiet-begun g.K.Keeper.keeper c.args.access.now c.args.ask.now c.args.book.now c.args.most bytes c.args.replies.now.items);
      count = omega (arith, ap (λ (n : ℕ). length (first_messages n bytes)) none);
      behind = ap (λ (n : ℕ). behind_first n bytes) none;
      shorter = omega arith;
    }

pub returns-in_default-answer-clause-err : goal.returns-in_default-answer-clause-err
returns-in_default-answer-clause-err g c =
    let s = c.settle_book-answer in
    let receipt = s.ensures.receipt ∙ ap receipt_in c.in_default-answer.is in
    Quiet-halts g.K.Keeper.keeper c.args.access.now c.args.ask.now c.args.book.now c.loop-message.book s.new.book c.args.most (c.args.most - c.loop-message.messages) c.args.bytes.now c.loop-message.left.now c.args.replies.now.items
    c.loop-message.replies.items s.new.out.items c.loop-message.messages s.result.1 c.loop-message.invariant.quiet (on_err s.result.0 c.in_default-answer.field-0 _ c.in_default-answer.is s.ensures.err)
    (on_err s.result.0 c.in_default-answer.field-0 _ c.in_default-answer.is s.ensures.out) receipt s.ensures.rise

pub returns-then-not-goes_on-clause-ok : goal.returns-then-not-goes_on-clause-ok
returns-then-not-goes_on-clause-ok g c =
    let s = c.settle_book-answer in
    let access = c.args.access.now in
    let same = c.message_in-asked.ensures in
    let client = ap (λ (x : Ask). x.client) same in
    let ok = if_ok s.result.0 c.in-Ok._settled _ c.in-Ok.is s.ensures.ok in
    let less : c.args.most - c.loop-message.messages - 1 ≡ c.args.most - (c.loop-message.messages + 1) = omega arith in
    let to_come : first_messages (c.args.most - c.loop-message.messages) c.loop-message.left.now ≡ c.in-Some.message.now ∷ first_messages (c.args.most - (c.loop-message.messages + 1)) c.in-Some.after.now =
    c.in-Some.ensures.messages ∙ ap (λ (n : ℕ). c.in-Some.message.now ∷ first_messages n c.in-Some.after.now) less
    in
    one_more g.K.Keeper.keeper access c.args.ask.now c.args.book.now c.loop-message.book s.new.book c.args.most (c.args.most - c.loop-message.messages) (c.args.most - (c.loop-message.messages + 1)) c.args.bytes.now c.loop-message.left.now c.in-Some.after.now c.in-Some.message.now c.args.replies.now.items
    c.loop-message.replies.items s.new.out.items c.loop-message.messages s.result.1 c.in-Ok._settled to_come c.loop-message.invariant.quiet
    (subst (λ (k : Ask). SettlesInto (λ settled. Settles g.K.Keeper.keeper access c.loop-message.book k settled s.new.book) true c.loop-message.replies.items s.new.out.items c.in-Ok._settled) same ok)
    (subst (λ (n : ℕ). Advances g.K.Keeper.keeper n c.loop-message.book s.result.1.receipt s.result.1.count s.new.book) client s.ensures.advances)
    (s.ensures.receipt ∙ ap receipt_in c.in-Ok.is) s.ensures.rise s.ensures.rose

pub loop-message-preserved : goal.loop-message-preserved
loop-message-preserved g c =
    let s = c.settle_book-answer in
    let access = c.args.access.now in
    let same = c.message_in-asked.ensures in
    let client = ap (λ (x : Ask). x.client) same in
    let ok = if_ok s.result.0 c.in-Ok._settled _ c.in-Ok.is s.ensures.ok in
    let less : c.args.most - c.loop-message.messages - 1 ≡ c.args.most - (c.loop-message.messages + 1) = omega arith in
    let to_come : first_messages (c.args.most - c.loop-message.messages) c.loop-message.left.now ≡ c.in-Some.message.now ∷ first_messages (c.args.most - (c.loop-message.messages + 1)) c.in-Some.after.now =
    c.in-Some.ensures.messages ∙ ap (λ (n : ℕ). c.in-Some.message.now ∷ first_messages n c.in-Some.after.now) less
    in
    let nothing = c.goes_on.ensures.nothing c.if-not-goes_on.false in
    let within = c.goes_on.ensures.more c.if-not-goes_on.false in
    record {
      within = (omega (arith, within.0), within.1);
      quiet = Quiet-more g.K.Keeper.keeper access c.args.ask.now c.args.book.now c.loop-message.book s.new.book c.args.most (c.args.most - c.loop-message.messages) (c.args.most - (c.loop-message.messages + 1)) c.args.bytes.now c.loop-message.left.now c.in-Some.after.now c.in-Some.message.now c.args.replies.now.items
          c.loop-message.replies.items s.new.out.items c.loop-message.messages s.result.1 c.in-Ok._settled to_come c.loop-message.invariant.quiet
          (subst (λ (k : Ask). SettlesInto (λ settled. Settles g.K.Keeper.keeper access c.loop-message.book k settled s.new.book) true c.loop-message.replies.items s.new.out.items c.in-Ok._settled) same ok)
          (subst (λ (n : ℕ). Advances g.K.Keeper.keeper n c.loop-message.book s.result.1.receipt s.result.1.count s.new.book) client s.ensures.advances)
          (s.ensures.receipt ∙ ap receipt_in c.in-Ok.is) s.ensures.rise s.ensures.rose nothing.0 nothing.1 nothing.2;
      count = omega (arith, c.loop-message.invariant.count, ap length to_come);
      behind = sym (c.in-Some.ensures.behind ∙ ap (λ (n : ℕ). behind_first n c.in-Some.after.now) less) ∙ c.loop-message.invariant.behind;
      shorter = omega (arith, c.loop-message.invariant.shorter, c.in-Some.ensures.inside);
    }

pub returns-clause-ok : goal.returns-clause-ok
returns-clause-ok g c t rows a terms named begins =
    let none = ap length c.in_default.ensures.none in
    let some = c.requires.some in
    let count = c.loop-message.invariant.count in
    subst (λ (told : Told). AddsFront (SettledAs g.K.Keeper.keeper t c.args.access.now c.args.ask.now.client) a (first_asks c.args.ask.now c.args.most c.args.bytes.now)
    (settled rows (done_by g.K.Keeper.keeper c.args.ask.now.client rows c.loop-message.book told) a) (first_asks c.args.ask.now (c.args.most - c.loop-message.messages) c.loop-message.left.now) c.args.replies.now.items c.loop-message.replies.items)
    (sym c.nothing_told.ensures)
    (Quiet-end g.K.Keeper.keeper c.args.access.now c.args.ask.now c.args.book.now c.loop-message.book c.args.most (c.args.most - c.loop-message.messages) c.args.bytes.now c.loop-message.left.now c.args.replies.now.items c.loop-message.replies.items
    c.loop-message.messages c.loop-message.invariant.quiet (omega arith) t rows a terms named begins)
