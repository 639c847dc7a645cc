use Rattle.std.proofs.Common.{rules, sym, ◌∙◌}
use Rattle.dns_connections.proofs.Own.{acts_closed, on}
use Rattle.dns_connections.proofs.link.Link.end_for.Goals as goal

pub returns-then-stands-clause-acts : goal.returns-then-stands-clause-acts
returns-then-stands-clause-acts g c =
    acts_closed _ _ c.args.why _ _ c.close.ensures.told c.close.ensures.is (search rules) (λ e. on (sym e ∙ c.requires.unfinished))
