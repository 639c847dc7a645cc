use Rattle.std.proofs.Common.{◌≡◌, ℕ, ◌+◌, ap, sym, ◌∙◌, List}
use Rattle.dns_ticket_lock.specs.declared.view.View.{View}
use Rattle.dns_ticket_lock.specs.Rule.{own, view_of}
use Rattle.dns_book.proofs.IntoBuffer.{into_ok}
use Rattle.dns_ticket_lock.specs.Settling.{SettledAs, asked_by}
use Rattle.dns_ticket_lock.specs.Passes.{PassSeen, IsSame, SettledBy}
use Rattle.dns_ticket_lock.proofs.Turning.{settled_by}
use Rattle.dns_ticket_lock.proofs.pass.TicketBook.settle_into.Goals as goal

pub returns-clause-ok : goal.returns-clause-ok
returns-clause-ok g c =
    let before : PassSeen = c.args.pass.now in
    let inside = c.pass.inside in
    let views : List View = c.into_badge.result.views in
    let after : PassSeen = record { book = c.into_badge.result.table_id; terms = (view_of views).terms; number = inside.number; account = own (view_of views).accounts } in
    let old : View = c.into_seat-seat.result.me.0 in
    let new : View = c.settle_seat-answer.new.seat.me.0 in
    let e = c.settle_seat-answer.ensures in
    let i = c.into_seat-seat.ensures in
    let b = c.into_badge.ensures in
    let is : before ≡ record { book = inside.badge.table_id; terms = (view_of inside.badge.views).terms; number = inside.number; account = own (view_of inside.badge.views).accounts } = sym c.pass.view_is in
    let taken : c.replace-badge.result ≡ inside.badge = c.replace-badge.ensures.value in
    let view : view_of inside.badge.views ≡ old = ap (λ (x : _). view_of x.views) (sym taken) ∙ ap view_of i.2 in
    let view2 : view_of views ≡ new = ap view_of b.2 in
    let number : inside.number ≡ old.low + 1 = sym c.pass.invariant.1.place ∙ ap (λ (x : View). x.low + 1) view in
    let same : IsSame before after = record {
      book = b.0 ∙ (e.same ∙ (i.0 ∙ (ap (λ (x : _). x.table_id) taken ∙ sym (ap (λ (p : PassSeen). p.book) is))));
      terms = ap (λ (x : View). x.terms) view2 ∙ (e.low.1 ∙ (ap (λ (x : View). x.terms) (sym view) ∙ sym (ap (λ (p : PassSeen). p.terms) is)));
      number = sym (ap (λ (p : PassSeen). p.number) is);
    } in
    into_ok (λ s. SettledAs g.K.Keeper.keeper old.terms c.args.access.now (old.low + 1) (own old.accounts) c.asked_as-asked.result s (own new.accounts))
    (λ s. SettledBy g.K.Keeper.keeper c.args.access.now before c.args.ask.now s after) _ _ _ c.settle_seat-answer.result.0
    (λ s. settled_by g.K.Keeper.keeper c.args.access.now before after c.args.ask.now c.asked_as-asked.result s old new
    (ap (λ (p : PassSeen). p.terms) is ∙ ap (λ (x : View). x.terms) view)
    (ap (λ (p : PassSeen). p.number) is ∙ number)
    (ap (λ (p : PassSeen). p.account) is ∙ ap (λ (x : View). own x.accounts) view)
    (c.asked_as-asked.ensures ∙ ap (λ (n : ℕ). asked_by n c.args.ask.now) (sym (ap (λ (p : PassSeen). p.number) is)))
    same (ap (λ (x : View). own x.accounts) view2)) e.ok
