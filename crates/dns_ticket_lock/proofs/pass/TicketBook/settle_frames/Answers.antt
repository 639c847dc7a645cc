-- What the turns of a seat come to for its pass.
use Rattle.std.proofs.Common.{◌≡◌, ◌+◌, ◌*◌, ◌≤◌, ℕ, List, IfOk, length, sym, ap, subst, subst₂, ◌∙◌}
use Rattle.dns_book.specs.declared.ask.Ask.{Ask}
use Rattle.dns_server_core.specs.FrameRuns.{Adds, Halts, behind_first, first_asks, first_messages}
use Rattle.dns_ticket_lock.specs.declared.view.Account.{Account}
use Rattle.dns_ticket_lock.specs.declared.view.Terms.{Terms}
use Rattle.dns_ticket_lock.specs.declared.view.View.{View}
use Rattle.dns_ticket_lock.specs.Rule.{own, view_of}
use Rattle.dns_ticket_lock.specs.Settling.{SettledAs, LeftAs, asked_by}
use Rattle.dns_ticket_lock.specs.Passes.{PassSeen, SettledBy, LeftBy}
use Rattle.dns_ticket_lock.proofs.Fronts.{on_ok_map, on_err_map}
use Rattle.dns_ticket_lock.proofs.Passing.{pass_of, same_pass, passes-adds, passes-halts}
use Rattle.dns_ticket_lock.proofs.pass.TicketBook.settle_frames.Goals as goal

pub returns-clause-book : goal.returns-clause-book
returns-clause-book g c =
    let inside = c.pass.inside in
    let taken : c.replace-badge.result ≡ inside.badge = c.replace-badge.ensures.value in
    c.into_badge.ensures.0 ∙ (c.settle_turns-answer.ensures.same ∙ (c.into_seat-seat.ensures.0 ∙ (ap (λ (x : _). x.table_id) taken ∙ ap (λ (x : PassSeen). x.book) c.pass.view_is)))

pub returns-clause-ok : goal.returns-clause-ok
returns-clause-ok g c =
    let p : PassSeen = c.args.pass.now in
    let inside = c.pass.inside in
    let views : List View = c.into_badge.result.views in
    let old : View = c.into_seat-seat.result.me.0 in
    let new : View = c.settle_turns-answer.new.seat.me.0 in
    let e = c.settle_turns-answer.ensures in
    let i = c.into_seat-seat.ensures in
    let b = c.into_badge.ensures in
    let is : p ≡ record { book = inside.badge.table_id; terms = (view_of inside.badge.views).terms; number = inside.number; account = own (view_of inside.badge.views).accounts } = sym c.pass.view_is in
    let taken : c.replace-badge.result ≡ inside.badge = c.replace-badge.ensures.value in
    let view : view_of inside.badge.views ≡ old = ap (λ (x : _). view_of x.views) (sym taken) ∙ ap view_of i.2 in
    let view2 : view_of views ≡ new = ap view_of b.2 in
    let terms : p.terms ≡ old.terms = ap (λ (x : PassSeen). x.terms) is ∙ ap (λ (x : View). x.terms) view in
    let asked : c.asked_as-asked.result ≡ asked_by p.number c.args.stream.now = c.asked_as-asked.ensures ∙ ap (λ (n : ℕ). asked_by n c.args.stream.now) (sym (ap (λ (x : PassSeen). x.number) is)) in
    let before : record p { account = own old.accounts } ≡ p = ap (λ (a : Account). record p { account = a }) (sym (ap (λ (x : PassSeen). x.account) is ∙ ap (λ (x : View). own x.accounts) view)) in
    let after : pass_of c.into_badge.result.table_id (view_of views).terms inside.number (own (view_of views).accounts) ≡ record p { account = own new.accounts } =
    same_pass p.book c.into_badge.result.table_id p.terms (view_of views).terms p.number inside.number (own new.accounts) (own (view_of views).accounts)
    (b.0 ∙ (e.same ∙ (i.0 ∙ (ap (λ (x : _). x.table_id) taken ∙ sym (ap (λ (x : PassSeen). x.book) is)))))
    (ap (λ (x : View). x.terms) view2 ∙ (e.low.1 ∙ sym terms))
    (sym (ap (λ (x : PassSeen). x.number) is))
    (ap (λ (x : View). own x.accounts) view2) in
    let by : Terms → ℕ → _ = λ t n. SettledAs g.K.Keeper.keeper t c.args.access.now n in
    let by_pass = SettledBy g.K.Keeper.keeper c.args.access.now in
    let asks : List Ask = first_asks c.args.stream.now c.args.most c.args.stream.now.bytes in
    let had = c.args.replies.now.items in
    let now = c.settle_turns-answer.new.replies.items in
    on_ok_map c.settle_turns-answer.result _ _
    (λ x.
    let numbered = subst (λ (k : Ask). Adds (by old.terms k.client) (own old.accounts) (first_asks k c.args.most k.bytes) (own new.accounts) had now) asked x in
    let mine = subst (λ (t : Terms). Adds (by t p.number) (own old.accounts) (first_asks (asked_by p.number c.args.stream.now) c.args.most c.args.stream.now.bytes) (own new.accounts) had now) (sym terms) numbered in
    subst₂ (λ (one other : PassSeen). Adds by_pass one asks other had now) before (sym after)
    (passes-adds g.K.Keeper.keeper c.args.access.now p c.args.stream.now (first_messages c.args.most c.args.stream.now.bytes) (own old.accounts) (own new.accounts) had now mine)) e.ok

pub returns-clause-err : goal.returns-clause-err
returns-clause-err g c =
    let p : PassSeen = c.args.pass.now in
    let inside = c.pass.inside in
    let views : List View = c.into_badge.result.views in
    let old : View = c.into_seat-seat.result.me.0 in
    let new : View = c.settle_turns-answer.new.seat.me.0 in
    let e = c.settle_turns-answer.ensures in
    let i = c.into_seat-seat.ensures in
    let b = c.into_badge.ensures in
    let is : p ≡ record { book = inside.badge.table_id; terms = (view_of inside.badge.views).terms; number = inside.number; account = own (view_of inside.badge.views).accounts } = sym c.pass.view_is in
    let taken : c.replace-badge.result ≡ inside.badge = c.replace-badge.ensures.value in
    let view : view_of inside.badge.views ≡ old = ap (λ (x : _). view_of x.views) (sym taken) ∙ ap view_of i.2 in
    let view2 : view_of views ≡ new = ap view_of b.2 in
    let terms : p.terms ≡ old.terms = ap (λ (x : PassSeen). x.terms) is ∙ ap (λ (x : View). x.terms) view in
    let asked : c.asked_as-asked.result ≡ asked_by p.number c.args.stream.now = c.asked_as-asked.ensures ∙ ap (λ (n : ℕ). asked_by n c.args.stream.now) (sym (ap (λ (x : PassSeen). x.number) is)) in
    let before : record p { account = own old.accounts } ≡ p = ap (λ (a : Account). record p { account = a }) (sym (ap (λ (x : PassSeen). x.account) is ∙ ap (λ (x : View). own x.accounts) view)) in
    let after : pass_of c.into_badge.result.table_id (view_of views).terms inside.number (own (view_of views).accounts) ≡ record p { account = own new.accounts } =
    same_pass p.book c.into_badge.result.table_id p.terms (view_of views).terms p.number inside.number (own new.accounts) (own (view_of views).accounts)
    (b.0 ∙ (e.same ∙ (i.0 ∙ (ap (λ (x : _). x.table_id) taken ∙ sym (ap (λ (x : PassSeen). x.book) is)))))
    (ap (λ (x : View). x.terms) view2 ∙ (e.low.1 ∙ sym terms))
    (sym (ap (λ (x : PassSeen). x.number) is))
    (ap (λ (x : View). own x.accounts) view2) in
    let by : Terms → ℕ → _ = λ t n. SettledAs g.K.Keeper.keeper t c.args.access.now n in
    let by_pass = SettledBy g.K.Keeper.keeper c.args.access.now in
    let asks : List Ask = first_asks c.args.stream.now c.args.most c.args.stream.now.bytes in
    let had = c.args.replies.now.items in
    let now = c.settle_turns-answer.new.replies.items in
    on_err_map c.settle_turns-answer.result _ _
    (λ x.
    let numbered = subst (λ (k : Ask). Halts (by old.terms k.client) LeftAs (own old.accounts) (first_asks k c.args.most k.bytes) (own new.accounts) had now) asked x in
    let mine = subst (λ (t : Terms). Halts (by t p.number) LeftAs (own old.accounts) (first_asks (asked_by p.number c.args.stream.now) c.args.most c.args.stream.now.bytes) (own new.accounts) had now) (sym terms) numbered in
    subst₂ (λ (one other : PassSeen). Halts by_pass LeftBy one asks other had now) before (sym after)
    (passes-halts g.K.Keeper.keeper c.args.access.now p c.args.stream.now (first_messages c.args.most c.args.stream.now.bytes) (own old.accounts) (own new.accounts) had now mine)) e.err

pub returns-clause-count : goal.returns-clause-count
returns-clause-count g c =
    subst (λ (k : Ask). IfOk c.settle_turns-answer.result (λ a. a.messages ≡ length (first_messages c.args.most k.bytes))) c.asked_as-asked.ensures c.settle_turns-answer.ensures.count

pub returns-clause-rest : goal.returns-clause-rest
returns-clause-rest g c =
    subst (λ (k : Ask). IfOk c.settle_turns-answer.result (λ a. a.rest ≡ length (behind_first c.args.most k.bytes))) c.asked_as-asked.ensures c.settle_turns-answer.ensures.rest

pub returns-clause-shorter : goal.returns-clause-shorter
returns-clause-shorter g c =
    subst (λ (k : Ask). IfOk c.settle_turns-answer.result (λ a. 2 * a.messages + a.rest ≤ length k.bytes)) c.asked_as-asked.ensures c.settle_turns-answer.ensures.shorter
