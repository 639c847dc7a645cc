use Rattle.std.proofs.Common.{sym, ◌∙◌}
use Rattle.dns_connections.proofs.Own.{acts_closed, on}
use Rattle.dns_connections.proofs.link.Link.go_on.Goals as goal

pub returns-in-Ends-clause-acts : goal.returns-in-Ends-clause-acts
returns-in-Ends-clause-acts g c =
    let h = rw c.in-Ends.is at c.requires.cause in
    acts_closed _ _ _ _ _ c.close.ensures.told c.close.ensures.is c.requires.stands (λ e. on (sym e ∙ h.1))
