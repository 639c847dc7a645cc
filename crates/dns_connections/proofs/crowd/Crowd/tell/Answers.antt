use Rattle.std.proofs.Common.{rules, ◌<◌, length, ap, refl}
use Rattle.dns_connections.specs.Kept.{same_account}
use Rattle.dns_connections.specs.Links.{LinkSeen}
use Rattle.dns_connections.proofs.Stepping.{as_before, told_acts, told_watched}
use Rattle.dns_connections.proofs.crowd.Crowd.tell.Goals as goal

pub invariant_of-self : goal.invariant_of-self
invariant_of-self g c =
    let inside : c.args.place < length c.self.inside.links.items = search rules in
    as_before _ _ _ _ _ _ c.args.place _ c.self.inside.moments _ _ _ _ _ same_account c.index_mut-link.result.now c.tell.new.self
    c.self.invariant inside c.index_mut-link.ensures.value (ap (λ (o : LinkSeen). o.stands) c.tell.ensures)
    (told_acts (g.N.Network.calls c.self.inside.network) c.index_mut-link.result.now c.tell.new.self c.tell.ensures) (told_watched (g.N.Network.calls c.self.inside.network) c.index_mut-link.result.now c.tell.new.self c.tell.ensures) (λ m h. refl) refl
