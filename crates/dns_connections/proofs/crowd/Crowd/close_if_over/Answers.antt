use Rattle.std.proofs.Common.{rules, ◌<◌, length}
use Rattle.dns_connections.proofs.Stepping.{any_still}
use Rattle.dns_connections.proofs.crowd.Crowd.close_if_over.Goals as goal

pub invariant_of-self : goal.invariant_of-self
invariant_of-self g c =
    let inside : c.args.place < length c.self.inside.links.items = search rules in
    any_still _ _ _ _ _ c.args.place _ c.self.inside.moments c.self.inside.places c.keep.new.self _ _ _ _ c.stands-stood.result c.stands.result c.is_still.result
    c.index_mut-link.result.now c.end_if_over.new.self
    c.self.invariant inside c.index_mut-link.ensures.value c.stands-stood.ensures c.stands.ensures c.is_still.ensures c.keep.ensures
    c.end_if_over.ensures.acts c.end_if_over.ensures.watched c.end_if_over.ensures.gone
