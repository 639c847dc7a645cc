use Rattle.std.proofs.Common.{rules, ap}
use Rattle.dns_connections.specs.Kept.{asked_now}
use Rattle.dns_connections.specs.Links.{LinkSeen, StandsAt}
use Rattle.dns_connections.proofs.Stepping.{as_before, asked_accounts}
use Rattle.dns_connections.proofs.crowd.Crowd.ask_to_close.Goals as goal

pub invariant_of-self : goal.invariant_of-self
invariant_of-self g c =
    let at : StandsAt c.self.inside.links.items c.args.place = search rules in
    let accounts = asked_accounts c.self.inside.handed.calls c.note.new.self.calls c.self.inside.came.calls c.number-number.result c.index_mut-link.result.now.number c.note.ensures c.number-number.ensures in
    as_before _ _ _ _ _ _ c.args.place _ c.self.inside.moments _ _ _ _ _ asked_now c.index_mut-link.result.now c.ask_to_close.new.self
    c.self.invariant at.inside c.index_mut-link.ensures.value (ap (λ (o : LinkSeen). o.stands) c.ask_to_close.ensures.same)
    c.ask_to_close.ensures.acts c.ask_to_close.ensures.watched accounts.0 accounts.1
