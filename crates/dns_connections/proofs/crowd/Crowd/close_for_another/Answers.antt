use Rattle.std.proofs.Common.{rules}
use Rattle.dns_connections.specs.Links.{StandsAt}
use Rattle.dns_connections.proofs.Stepping.{stood_still}
use Rattle.dns_connections.proofs.crowd.Crowd.close_for_another.Goals as goal

pub invariant_of-self : goal.invariant_of-self
invariant_of-self g c =
    let at : StandsAt c.self.inside.links.items c.args.place = search rules in
    stood_still _ _ _ _ _ c.args.place _ c.self.inside.moments c.self.inside.places c.keep.new.self _ _ _ _ c.stands.result c.index_mut-link.result.now c.end_for.new.self
    c.self.invariant at c.index_mut-link.ensures.value c.stands.ensures c.keep.ensures c.end_for.ensures.acts c.end_for.ensures.watched
