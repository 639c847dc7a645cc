use Rattle.std.proofs.Common.{◌∙◌, ap, rules}
use Rattle.std.proofs.lemmas.Fn.{filter_same}
use Rattle.dns_readiness.specs.Links.{standing}
use Rattle.dns_readiness.proofs.Standing.{standing_kept}
use Rattle.dns_readiness.proofs.links.drop_ended.Goals as goal

-- the closure tells each by what is seen of it, and keeps nothing
pub returns-clause-rest : goal.returns-clause-rest
returns-clause-rest c = filter_same _ _ _ (λ x b f' k. search rules) _ _ c.retain.ensures.filtered

pub returns-clause-all : goal.returns-clause-all
returns-clause-all c = ap standing (returns-clause-rest c) ∙ standing_kept c.args.links.now.items
