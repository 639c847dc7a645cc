use Rattle.std.proofs.Common.{◌≡◌, [], ◌∷◌, ap, sym, ◌∙◌, subst₂, Option, None}
use Rattle.atomic_table.specs.Table.{Me}
use Rattle.dns_ticket_lock.specs.declared.view.View.{View}
use Rattle.dns_ticket_lock.specs.Rule.{has, waits, Takes}
use Rattle.dns_ticket_lock.proofs.Turning.{same_held}
use Rattle.dns_ticket_lock.proofs.turns.begin_turn.Goals as goal

pub take-requires-clause-has : goal.take-requires-clause-has
take-requires-clause-has g c = let t = c.wait_for_turn.ensures.turn in (t.0, ap (λ (m : Me (Option g.row.T.Denot) View). m.1) t.3)

pub returns-clause-took : goal.returns-clause-took
returns-clause-took g c =
    let t = c.wait_for_turn.ensures.turn in
    let w = c.draw-ticket.ensures.waits in
    let e = c.take.ensures.held in
    let ticket = c.draw-ticket.result in
    let v : View = c.args.seat.now.me.0 in
    let same : c.take.result ≡ t.0 = same_held c.wait_for_turn.new.seat.me.1 c.take.result t.0 e.0 (ap (λ (m : Me (Option g.row.T.Denot) View). m.1) t.3) in
    let old : c.draw-ticket.new.seat.me.0 ≡ waits ticket v = ap (λ (m : Me (Option g.row.T.Denot) View). m.0) w in
    let view : c.wait_for_turn.new.seat.me.0 ≡ has t.1 t.2 (waits ticket v) = ap (λ (m : Me (Option g.row.T.Denot) View). m.0) t.3 ∙ ap (λ (x : View). has t.1 t.2 x) old in (
      ticket,
      t.1,
      t.2,
      e.1 ∙ ap (λ (x : View). (x, (0, None) ∷ [])) view,
      subst₂ (λ (x : View) (h : g.row.T.Denot). Takes g.T.Carried.names x t.1 t.2 h) old (sym same) t.4,
    )
