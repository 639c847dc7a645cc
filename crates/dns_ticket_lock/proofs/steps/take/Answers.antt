use Rattle.std.proofs.Common.{◌≡◌, ℕ, List, [], ◌∷◌, ap, sym, ◌∙◌, Option, Some, None}
use Rattle.atomic_table.specs.Table.{rest}
use Rattle.dns_ticket_lock.proofs.Moves.{gave}
use Rattle.dns_ticket_lock.proofs.steps.take.Goals as goal

pub exchange-requires : goal.exchange-requires
exchange-requires g c = let h = c.requires.has in (c.requires.board.2, (Some h.0, h.1 ∙ ap (λ (r : List (ℕ × Option _)). (0, Some h.0) ∷ r) (sym (ap rest h.1))))

pub returns-clause-held : goal.returns-clause-held
returns-clause-held g c =
    let h = c.requires.has in
    let one = c.exchange.ensures in
    let took : c.exchange.result ≡ Some h.0 = gave g.T.Carried.names c.args.seat.now.me.1 h.0 c.exchange.result h.1 one.2 in
    let is : Some c.in-Some.held ≡ Some h.0 = sym c.in-Some.is ∙ took in
    let same : c.in-Some.held ≡ h.0 = cc in
    let bare : rest c.args.seat.now.me.1 ≡ [] = ap rest h.1 in
    (h.1 ∙ ap (λ (x : _). (0, Some x) ∷ []) (sym same), one.3 ∙ ap (λ (r : List (ℕ × Option _)). (c.args.seat.now.me.0, (0, None) ∷ r)) bare)
