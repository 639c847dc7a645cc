use Rattle.std.proofs.Common.{◌≡◌, ◌+◌, ap, sym, ◌∙◌, subst}
use Rattle.atomic_table.specs.Table.{Me}
use Rattle.dns_ticket_lock.specs.declared.view.View.{View}
use Rattle.dns_ticket_lock.specs.Rule.{Done, has_counted}
use Rattle.dns_ticket_lock.specs.Settling.{Names, done_by}
use Rattle.dns_ticket_lock.proofs.turns.end_turn.Goals as goal

pub leave-requires-clause-counted : goal.leave-requires-clause-counted
leave-requires-clause-counted g c =
    let gave = c.give.ensures.gave in
    let v : View = c.args.seat.now.me.0 in
    let h = c.args.held in
    let done : Done = done_by g.K.Keeper.keeper (v.low + 1) v.rows h.value.book c.args.told.now in
    let now : View = has_counted done v in
    let view : c.give.new.seat.me.0 ≡ now = ap (λ (m : Me _ View). m.0) gave ∙ ap (λ (m : Me _ View). m.0) c.count_done.ensures.counted in
    (ap (λ (x : View). x.phase) view, (h, ap (λ (m : Me _ View). m.1) gave, subst (λ (x : View). Names g.K.Keeper.keeper x.terms x.rows x.members h.value.book h.value.members.items h.value.start) (sym view) c.requires.names))
