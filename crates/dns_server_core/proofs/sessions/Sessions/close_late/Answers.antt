-- Those that are within their limits stay.
use Rattle.std.proofs.Common.{ap, ◌∙◌, rules}
use Rattle.std.proofs.lemmas.Fn.{filter_same}
use Rattle.dns_server_core.specs.Connections.{Connection, Kept, is_within}
use Rattle.dns_server_core.specs.Order.{closed}
use Rattle.dns_server_core.proofs.Leaving.{IsKept-alive, closed-running}
use Rattle.dns_server_core.proofs.sessions.Sessions.close_late.Goals as goal

pub invariant_of-self-else-self : goal.invariant_of-self-else-self
invariant_of-self-else-self c =
    let kept : Kept = record { last = c.self.inside.last; greatest = c.self.inside.greatest; stopped = c.self.inside.stopped; connections = c.self.inside.connections.items } in
    IsKept-alive kept c.self.inside.last c.self.inside.stopped c.self.inside.last c.retain.new.self.items
    (filter_same _ (λ (k : Connection). is_within k.limit k.base c.self.inside.last) _ (λ x b f k. search rules) _ _ c.retain.ensures.filtered) c.self.invariant

pub returns-else-self : goal.returns-else-self
returns-else-self c =
    let kept : Kept = record { last = c.self.inside.last; greatest = c.self.inside.greatest; stopped = c.self.inside.stopped; connections = c.self.inside.connections.items } in
    closed-running kept c.retain.new.self.items c.if-self.false
    (filter_same _ (λ (k : Connection). is_within k.limit k.base c.self.inside.last) _ (λ x b f k. search rules) _ _ c.retain.ensures.filtered) ∙ ap closed c.self.view_is
