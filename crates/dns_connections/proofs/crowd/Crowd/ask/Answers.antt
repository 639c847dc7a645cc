use Rattle.std.proofs.Common.{rules, ◌≡◌, ◌+◌, ◌++◌, ◌∷◌, [], IfSome, ap, ◌∙◌}
use Rattle.dns_connections.specs.Crowds.{CrowdSeen}
use Rattle.dns_connections.specs.Links.{StandsAt}
use Rattle.dns_connections.proofs.Coming.{admitted, crowds_victim, not_taken, taken, wanting_crowds}
use Rattle.dns_connections.proofs.crowd.Crowd.ask.Goals as goal

pub invariant_of-self-in-Ok : goal.invariant_of-self-in-Ok
invariant_of-self-in-Ok g c =
    let links : c.push_back_reserved.new.self.items ≡ c.self.inside.links.items ++ c.watch_on.new.self ∷ [] = search rules in
    let next : c.args.next ≡ c.self.inside.next + 1 = search rules in
    taken _ _ _ _ _ c.self.inside.links.items c.self.inside.next c.self.inside.moments c.self.inside.places _ _ _ _ c.in-Ok.whom c.new-link.result c.watch_on.new.self
    c.in-Ok.ensures.told c.self.invariant c.watch_on.ensures.acts c.push_back_reserved.new.self.items c.args.next c.ticks-now.result c.hold.new.self c.stands.result
    c.new-link.ensures c.ticks-now.ensures c.watch_on.ensures.watched links next c.stands.ensures c.hold.ensures

pub give_way-requires-clause-crowded : goal.give_way-requires-clause-crowded
give_way-requires-clause-crowded g c =
    let links : c.push_back_reserved.new.self.items ≡ c.self.inside.links.items ++ c.watch_on.new.self ∷ [] = search rules in
    let victim : IfSome c.args.victim (StandsAt c.self.inside.links.items) = rw (← c.self.view_is) at c.requires.victim in
    crowds_victim _ _ _ _ _ c.self.inside.links.items c.self.inside.next c.self.inside.moments c.self.inside.places _ _ _ _ c.in-Ok.whom c.new-link.result c.watch_on.new.self
    c.in-Ok.ensures.told c.self.invariant c.watch_on.ensures.acts c.push_back_reserved.new.self.items c.args.victim links victim

pub invariant_of-self-in-Err : goal.invariant_of-self-in-Err
invariant_of-self-in-Err g c =
    not_taken _ _ _ _ c.self.inside.links.items c.reserve.new.self.items c.self.inside.next c.self.inside.moments c.self.inside.places c.unclaim-in-Err.new.self _ _ _ _ c.in-Err.refused
    c.in-Err.ensures.told c.reserve.ensures.items c.unclaim-in-Err.ensures c.self.invariant

pub refuse-requires : goal.refuse-requires
refuse-requires g c = record { wanting = wanting_crowds _ _ c.self.inside.next c.in-Err.refused c.in-Err.ensures.told }

pub returns-in-Ok-clause-next : goal.returns-in-Ok-clause-next
returns-in-Ok-clause-next g c =
    admitted g.N.Network.calls c.args.self.now c.give_way.new.self c.admit.result c.admit.ensures
    (c.give_way.ensures.quiet.next ∙ c.requires.next)
    (c.give_way.ensures.quiet.told ∙ ap (λ (s : CrowdSeen _). s.came) c.self.view_is)
    (ap (λ (s : CrowdSeen _). s.limit) c.give_way.ensures.moved.same ∙ ap (λ (s : CrowdSeen _). s.limit) c.self.view_is)
