use Rattle.std.proofs.Common.{sym, ap}
use Rattle.dns_connections.specs.Crowds.{CrowdSeen}
use Rattle.dns_connections.proofs.Finding.{full_at, full_none, rises}
use Rattle.dns_connections.proofs.crowd.Crowd.is_full.Goals as goal

pub place_of-requires : goal.place_of-requires
place_of-requires g c = rises _ _ c.self.invariant.0.climb

pub returns-in-Some : goal.returns-in-Some
returns-in-Some g c =
    full_at c.args.conn _ _ (sym (ap (λ (s : CrowdSeen _). s.links) c.self.view_is)) c.in-Some.place _ c.owes.result c.index.result.now
    c.self.invariant.0.climb c.in-Some.ensures.found c.index.ensures c.owes.ensures

pub returns-in-None : goal.returns-in-None
returns-in-None g c = full_none c.args.conn _ _ (sym (ap (λ (s : CrowdSeen _). s.links) c.self.view_is)) c.in-None.ensures.none
