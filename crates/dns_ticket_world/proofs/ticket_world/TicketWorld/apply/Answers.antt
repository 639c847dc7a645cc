use Rattle.std.proofs.Common.{◌≡◌, true, sym, subst, ◌∙◌, arith}
use Rattle.dns_ticket_world.specs.Facts.{Holds}
use Rattle.dns_ticket_world.proofs.Stepping.{keeps}
use Rattle.dns_ticket_world.proofs.ticket_world.TicketWorld.apply.Goals as goal

pub invariant_of-self-2 : goal.invariant_of-self-2
invariant_of-self-2 c =
    let made : c.allows.result ≡ true = grind arith in
    subst Holds (sym c.in_ok-make.ensures.ok) (keeps _ _ c.self.invariant (sym c.allows.ensures ∙ made))

pub returns-clause-facts : goal.returns-clause-facts
returns-clause-facts c =
    let made : c.allows.result ≡ true = grind arith in
    subst Holds (sym c.in_ok-make.ensures.ok) (keeps _ _ c.self.invariant (sym c.allows.ensures ∙ made))
