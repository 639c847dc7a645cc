use Rattle.std.proofs.Common.{rules}
use Rattle.dns_connections.specs.Kept.{handed_more}
use Rattle.dns_connections.specs.Links.{StandsAt}
use Rattle.dns_connections.proofs.Stepping.{handed_accounts, stood_acts}
use Rattle.dns_connections.proofs.crowd.Crowd.hand.Goals as goal

pub invariant_of-self : goal.invariant_of-self
invariant_of-self g c =
    let at : StandsAt c.self.inside.links.items c.args.place = search rules in
    let accounts = handed_accounts c.self.inside.handed.calls c.note.new.self.calls c.self.inside.came.calls c.number-number.result c.index_mut-link.result.now.number c.args.bytes.now c.note.ensures c.number-number.ensures in
    stood_acts _ _ _ _ _ c.args.place _ c.self.inside.moments c.self.inside.places c.keep.new.self _ _ _ _ c.stands.result c.index_mut-link.result.now c.send.new.self
    c.self.invariant at c.index_mut-link.ensures.value c.stands.ensures c.keep.ensures _ _ (handed_more c.args.bytes.now) c.in-Ok.ensures.acts c.in-Ok.ensures.watched accounts.0 accounts.1
