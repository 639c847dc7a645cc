use Rattle.std.proofs.Common.{◌≡◌, ℕ, ◌+◌, ◌++◌, List, ap, sym, ◌∙◌, subst, subst₂, ◌-◌, ◌||◌, set, length, arith}
use Rattle.atomic_table.specs.Table.{Me}
use Rattle.dns_keeper.specs.declared.row.Row.{Row}
use Rattle.dns_ticket_lock.specs.declared.held.Member.{Member}
use Rattle.dns_ticket_lock.specs.declared.view.Account.{Account}
use Rattle.dns_ticket_lock.specs.declared.view.View.{View}
use Rattle.dns_ticket_lock.specs.Lists.{with_head}
use Rattle.dns_ticket_lock.specs.Rule.{has, waits, own, settled, with_member, IsDone}
use Rattle.dns_ticket_lock.specs.Settling.{Names, SettledAs, LeftAs, done_by}
use Rattle.dns_ticket_lock.specs.Naming.{Advances}
use mathlib.Core.Option.{some}
use lib.ListN.{get_elem?}
use Rattle.dns_server_core.specs.FrameRuns.{AddsFront, Halts, first_asks}
use Rattle.dns_ticket_lock.proofs.Fronts.{ok_map, on_err_map, own_begins, own_head}
use Rattle.dns_ticket_lock.proofs.Turning.{finds_place, members_are, seen_is, turn_of}
use Rattle.dns_ticket_lock.proofs.front.settle_turn.Goals as goal

pub settle_held_front-requires-clause-low : goal.settle_held_front-requires-clause-low
settle_held_front-requires-clause-low g c =
    let v : View = c.args.seat.now.me.0 in
    let was = c.as_mut.result.now in
    let took = c.begin_turn-held.ensures.took in
    let n : Names g.K.Keeper.keeper v.terms took.1 took.2 was.book was.members.items was.start = subst (λ (x : _). Names g.K.Keeper.keeper v.terms took.1 took.2 x.book x.members.items x.start) (sym c.as_mut.ensures.value) took.4.0 in
    let one = c.requires.idle.2 in
    let small = finds_place v.accounts v.low took.1 took.2 (omega arith) took.4.1 in
    let many = ap (λ (l : List Member). length l) n.has_members in
    let client = c.requires.number in
    let same = c.client_of.ensures in
    omega arith

pub end_turn-requires-clause-done : goal.end_turn-requires-clause-done
end_turn-requires-clause-done g c =
    let v : View = c.args.seat.now.me.0 in
    let was = c.as_mut.result.now in
    let now = c.settle_held_front.result in
    let then = c.settle_held_front.new.held in
    let took = c.begin_turn-held.ensures.took in
    let n : Names g.K.Keeper.keeper v.terms took.1 took.2 was.book was.members.items was.start = subst (λ (x : _). Names g.K.Keeper.keeper v.terms took.1 took.2 x.book x.members.items x.start) (sym c.as_mut.ensures.value) took.4.0 in
    let view : c.begin_turn-held.new.seat.me.0 ≡ has took.1 took.2 (waits took.0 v) = ap (λ (m : Me _ View). m.0) took.3 in
    let step = subst (λ (n : ℕ). Advances g.K.Keeper.keeper n was.book now.1.receipt now.1.count then.book) c.requires.number c.settle_held_front.ensures.advances in
    let turn = turn_of g.K.Keeper.keeper (v.low + 1) took.1 was.book then.book now.1 n.has_rows step in
    subst (λ (x : View). IsDone (x.low + 1) x.rows (done_by g.K.Keeper.keeper (x.low + 1) x.rows then.book now.1)) (sym view) turn.fit

pub end_turn-requires-clause-many : goal.end_turn-requires-clause-many
end_turn-requires-clause-many g c =
    let v : View = c.args.seat.now.me.0 in
    let was = c.as_mut.result.now in
    let now = c.settle_held_front.result in
    let then = c.settle_held_front.new.held in
    let took = c.begin_turn-held.ensures.took in
    let n : Names g.K.Keeper.keeper v.terms took.1 took.2 was.book was.members.items was.start = subst (λ (x : _). Names g.K.Keeper.keeper v.terms took.1 took.2 x.book x.members.items x.start) (sym c.as_mut.ensures.value) took.4.0 in
    let view : c.begin_turn-held.new.seat.me.0 ≡ has took.1 took.2 (waits took.0 v) = ap (λ (m : Me _ View). m.0) took.3 in
    let step = subst (λ (n : ℕ). Advances g.K.Keeper.keeper n was.book now.1.receipt now.1.count then.book) c.requires.number c.settle_held_front.ensures.advances in
    let turn = turn_of g.K.Keeper.keeper (v.low + 1) took.1 was.book then.book now.1 n.has_rows step in
    subst (λ (x : View). (now.1.count ≡ length (done_by g.K.Keeper.keeper (x.low + 1) x.rows then.book now.1).batch) × (length x.rows + length (done_by g.K.Keeper.keeper (x.low + 1) x.rows then.book now.1).batch ≡ then.book.row_count))
    (sym view) (turn.many, turn.long)

pub end_turn-requires-clause-names : goal.end_turn-requires-clause-names
end_turn-requires-clause-names g c =
    let v : View = c.args.seat.now.me.0 in
    let was = c.as_mut.result.now in
    let now = c.settle_held_front.result in
    let then = c.settle_held_front.new.held in
    let took = c.begin_turn-held.ensures.took in
    let n : Names g.K.Keeper.keeper v.terms took.1 took.2 was.book was.members.items was.start = subst (λ (x : _). Names g.K.Keeper.keeper v.terms took.1 took.2 x.book x.members.items x.start) (sym c.as_mut.ensures.value) took.4.0 in
    let one = c.requires.idle.2 in
    let client = c.requires.number in
    let view : c.begin_turn-held.new.seat.me.0 ≡ has took.1 took.2 (waits took.0 v) = ap (λ (m : Me _ View). m.0) took.3 in
    let step = subst (λ (n : ℕ). Advances g.K.Keeper.keeper n was.book now.1.receipt now.1.count then.book) c.requires.number c.settle_held_front.ensures.advances in
    let turn = turn_of g.K.Keeper.keeper (v.low + 1) took.1 was.book then.book now.1 n.has_rows step in
    let done = done_by g.K.Keeper.keeper (v.low + 1) took.1 then.book now.1 in
    let same = c.client_of.ensures in
    let low : c.client_of.result - 1 ≡ v.low = omega arith in
    let later = subst₂ (λ (ms : List Member) (i : ℕ). (m : Member) → get_elem? ms i ≡ some m → then.members.items ≡ set ms i (record { share = m.share + now.1.rise; mark = m.mark || now.1.mark }))
    n.has_members low c.settle_held_front.ensures.members in
    let members = members_are v.accounts v.low took.1 took.2 then.members.items done (omega arith) took.4.1 later in
    let start = c.settle_held_front.ensures.start in
    subst (λ (x : View). Names g.K.Keeper.keeper x.terms (x.rows ++ (done_by g.K.Keeper.keeper (x.low + 1) x.rows then.book now.1).batch) (with_member (with_head (settled x.rows (done_by g.K.Keeper.keeper (x.low + 1) x.rows then.book now.1)) x.accounts) x.low x.members) then.book then.members.items then.start)
    (sym view) (record {
      has_rows = turn.named;
      has_members = members;
      same_start = start ∙ n.same_start;
      same_terms = record { origin = step.origin ∙ n.same_terms.origin; updates = step.updates ∙ n.same_terms.updates };
    })

pub returns-clause-seen : goal.returns-clause-seen
returns-clause-seen g c =
    let v : View = c.args.seat.now.me.0 in
    let was = c.as_mut.result.now in
    let now = c.settle_held_front.result in
    let then = c.settle_held_front.new.held in
    let took = c.begin_turn-held.ensures.took in
    let n : Names g.K.Keeper.keeper v.terms took.1 took.2 was.book was.members.items was.start = subst (λ (x : _). Names g.K.Keeper.keeper v.terms took.1 took.2 x.book x.members.items x.start) (sym c.as_mut.ensures.value) took.4.0 in
    let one = c.requires.idle.2 in
    let view : c.begin_turn-held.new.seat.me.0 ≡ has took.1 took.2 (waits took.0 v) = ap (λ (m : Me _ View). m.0) took.3 in
    let step = subst (λ (n : ℕ). Advances g.K.Keeper.keeper n was.book now.1.receipt now.1.count then.book) c.requires.number c.settle_held_front.ensures.advances in
    let turn = turn_of g.K.Keeper.keeper (v.low + 1) took.1 was.book then.book now.1 n.has_rows step in
    let done = done_by g.K.Keeper.keeper (v.low + 1) took.1 then.book now.1 in
    let accounts : c.end_turn.new.seat.me.0.accounts ≡ with_head (settled took.1 done) v.accounts =
    ap (λ (m : Me _ View). m.0.accounts) c.end_turn.ensures.rests
    ∙ ap (λ (x : View). with_head (settled x.rows (done_by g.K.Keeper.keeper (x.low + 1) x.rows then.book now.1)) x.accounts) view in
    ap (λ (l : List Account). length (own l).seen) accounts ∙ (ap (λ (l : List Row). length l) (seen_is g.K.Keeper.keeper v.accounts took.1 done (omega arith)) ∙ (turn.named.count ∙ (ap (λ (x : _). x.book.row_count) (sym c.deref.ensures) ∙ sym c.journal_len-rows.ensures.is)))

pub returns-clause-ok : goal.returns-clause-ok
returns-clause-ok g c =
    let v : View = c.args.seat.now.me.0 in
    let was = c.as_mut.result.now in
    let now = c.settle_held_front.result in
    let then = c.settle_held_front.new.held in
    let took = c.begin_turn-held.ensures.took in
    let n : Names g.K.Keeper.keeper v.terms took.1 took.2 was.book was.members.items was.start = subst (λ (x : _). Names g.K.Keeper.keeper v.terms took.1 took.2 x.book x.members.items x.start) (sym c.as_mut.ensures.value) took.4.0 in
    let one = c.requires.idle.2 in
    let view : c.begin_turn-held.new.seat.me.0 ≡ has took.1 took.2 (waits took.0 v) = ap (λ (m : Me _ View). m.0) took.3 in
    let done = done_by g.K.Keeper.keeper (v.low + 1) took.1 then.book now.1 in
    let accounts : c.end_turn.new.seat.me.0.accounts ≡ with_head (settled took.1 done) v.accounts =
    ap (λ (m : Me _ View). m.0.accounts) c.end_turn.ensures.rests
    ∙ ap (λ (x : View). with_head (settled x.rows (done_by g.K.Keeper.keeper (x.low + 1) x.rows then.book now.1)) x.accounts) view in
    let is_own : own c.end_turn.new.seat.me.0.accounts ≡ settled took.1 (done_by g.K.Keeper.keeper c.args.ask.now.client took.1 then.book now.1) (own v.accounts) =
    ap own accounts ∙ (own_head v.accounts (settled took.1 done) (omega arith) ∙ ap (λ (k : ℕ). settled took.1 (done_by g.K.Keeper.keeper k took.1 then.book now.1) (own v.accounts)) (sym c.requires.number)) in
    let begins = own_begins v.accounts v.low took.1 took.2 (omega arith) took.4.1 in
    let by_account = SettledAs g.K.Keeper.keeper v.terms c.args.access.now c.args.ask.now.client in
    ok_map now.0 _ _ (λ f x. subst (λ (y : Account). AddsFront by_account (own v.accounts) (first_asks c.args.ask.now c.args.most c.args.bytes.now) y (first_asks c.args.ask.now (c.args.most - f.messages) f.left.now) c.args.replies.now.items c.settle_held_front.new.replies.items) (sym is_own)
    (x v.terms took.1 (own v.accounts) n.same_terms n.has_rows begins)) c.settle_held_front.ensures.ok

pub returns-clause-err : goal.returns-clause-err
returns-clause-err g c =
    let v : View = c.args.seat.now.me.0 in
    let was = c.as_mut.result.now in
    let now = c.settle_held_front.result in
    let then = c.settle_held_front.new.held in
    let took = c.begin_turn-held.ensures.took in
    let n : Names g.K.Keeper.keeper v.terms took.1 took.2 was.book was.members.items was.start = subst (λ (x : _). Names g.K.Keeper.keeper v.terms took.1 took.2 x.book x.members.items x.start) (sym c.as_mut.ensures.value) took.4.0 in
    let one = c.requires.idle.2 in
    let view : c.begin_turn-held.new.seat.me.0 ≡ has took.1 took.2 (waits took.0 v) = ap (λ (m : Me _ View). m.0) took.3 in
    let done = done_by g.K.Keeper.keeper (v.low + 1) took.1 then.book now.1 in
    let accounts : c.end_turn.new.seat.me.0.accounts ≡ with_head (settled took.1 done) v.accounts =
    ap (λ (m : Me _ View). m.0.accounts) c.end_turn.ensures.rests
    ∙ ap (λ (x : View). with_head (settled x.rows (done_by g.K.Keeper.keeper (x.low + 1) x.rows then.book now.1)) x.accounts) view in
    let is_own : own c.end_turn.new.seat.me.0.accounts ≡ settled took.1 (done_by g.K.Keeper.keeper c.args.ask.now.client took.1 then.book now.1) (own v.accounts) =
    ap own accounts ∙ (own_head v.accounts (settled took.1 done) (omega arith) ∙ ap (λ (k : ℕ). settled took.1 (done_by g.K.Keeper.keeper k took.1 then.book now.1) (own v.accounts)) (sym c.requires.number)) in
    let begins = own_begins v.accounts v.low took.1 took.2 (omega arith) took.4.1 in
    let by_account = SettledAs g.K.Keeper.keeper v.terms c.args.access.now c.args.ask.now.client in
    on_err_map now.0 _ _ (λ x. subst (λ (y : Account). Halts by_account LeftAs (own v.accounts) (first_asks c.args.ask.now c.args.most c.args.bytes.now) y c.args.replies.now.items c.settle_held_front.new.replies.items) (sym is_own) (x v.terms took.1 (own v.accounts) n.same_terms n.has_rows begins))
    c.settle_held_front.ensures.err
