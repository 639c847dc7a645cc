use Rattle.std.proofs.Common.{◌∙◌, sym, ap}
use Rattle.dns_connections.specs.Crowds.{CrowdSeen}
use Rattle.dns_connections.proofs.Finding.{asked_none, asked_shut, rises}
use Rattle.dns_connections.proofs.crowd.Crowd.close.Goals as goal

pub place_of-requires : goal.place_of-requires
place_of-requires g c = rises _ _ c.self.invariant.0.climb

pub returns-in_default-clause-asked : goal.returns-in_default-clause-asked
returns-in_default-clause-asked g c = asked_none c.args.conn _ _ (sym (ap (λ (s : CrowdSeen _). s.links) c.self.view_is)) c.args.self.now.handed c.in_default.ensures.none

pub returns-else-is_open-clause-asked : goal.returns-else-is_open-clause-asked
returns-else-is_open-clause-asked g c =
    asked_shut c.args.conn _ _ (sym (ap (λ (s : CrowdSeen _). s.links) c.self.view_is)) c.args.self.now.handed c.in-Some.place _ c.index.result.now
    c.self.invariant.0.climb c.in-Some.ensures.found c.index.ensures (sym c.is_open.ensures ∙ c.if-is_open.false)
