use Rattle.std.proofs.Common.{rules, ◌≡◌, ℕ, true}
use Rattle.dns_network.specs.Words.{is_crowded}
use Rattle.dns_network.specs.declared.refused.Refused.TheVariants.{Wanting}
use Rattle.dns_connections.proofs.Coming.{crowded_any}
use Rattle.dns_connections.proofs.crowd.Crowd.refuse.Goals as goal

pub give_way-requires-clause-crowded : goal.give_way-requires-clause-crowded
give_way-requires-clause-crowded g c =
    let e : c.args.refusal ≡ Wanting = search rules in
    let h : (n : ℕ) → is_crowded n (g.N.Network.calls c.self.inside.network) ≡ true = rw (← c.self.view_is) at (c.requires.wanting e) in
    crowded_any c.gives_way-victim.result c.self.inside.links.items (g.N.Network.calls c.self.inside.network) h
