use Rattle.std.proofs.Common.{List, not, rules, subst, sym, ◌≤◌, ◌||◌, ◌&&◌}
use Rattle.std.proofs.lemmas.Fn.{filter_same}
use Rattle.dns_readiness.specs.Decisions.{LinkSeen}
use Rattle.dns_readiness.specs.Links.{is_over, is_served, standing, stands}
use Rattle.dns_readiness.proofs.Standing.{standing_fewer}
use Rattle.dns_readiness.proofs.links.drop_closed.Goals as goal

-- the closure tells each by what is seen of it, and keeps nothing
pub returns-clause-rest : goal.returns-clause-rest
returns-clause-rest c = filter_same _ _ _ (λ x b f' k. search rules) _ _ c.retain.ensures.filtered

pub returns-clause-few : goal.returns-clause-few
returns-clause-few c =
    subst (λ (l : List LinkSeen). standing l ≤ standing c.args.links.now.items) (sym (returns-clause-rest c))
    (standing_fewer (λ (one : LinkSeen). stands one && (is_served one.stage || not (is_over c.args.patience c.args.now one))) c.args.links.now.items)
