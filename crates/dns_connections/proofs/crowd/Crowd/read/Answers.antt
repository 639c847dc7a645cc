use Rattle.std.proofs.Common.{rules, take, refl}
use Rattle.dns_connections.specs.Kept.{account_of, given_more}
use Rattle.dns_connections.specs.Links.{StandsAt}
use Rattle.dns_connections.proofs.Stepping.{given_accounts, none_given, stood_acts}
use Rattle.dns_connections.proofs.crowd.Crowd.read.Goals as goal

pub invariant_of-self : goal.invariant_of-self
invariant_of-self g c =
    let at : StandsAt c.self.inside.links.items c.args.place = search rules in
    stood_acts _ _ _ _ _ c.args.place _ c.self.inside.moments c.self.inside.places c.keep.new.self _ _ _ _ c.stands.result c.index_mut-link.result.now c.read_on-count.new.self
    c.self.invariant at c.index_mut-link.ensures.value c.stands.ensures c.keep.ensures _ _ (given_more (take c.read_on-count.result c.read_on-count.new.room)) c.read_on-count.ensures.acts c.read_on-count.ensures.watched
    (λ m h. refl) (none_given (account_of c.index_mut-link.result.now.number c.self.inside.handed.calls c.self.inside.came.calls) c.read_on-count.result c.read_on-count.new.room c.if-count-eq0.true)

pub invariant_of-self-2 : goal.invariant_of-self-2
invariant_of-self-2 g c =
    let at : StandsAt c.self.inside.links.items c.args.place = search rules in
    let accounts = given_accounts c.self.inside.handed.calls c.self.inside.came.calls c.note.new.self.calls c.number-number.result c.index_mut-link.result.now.number c.read_on-count.result
    (take c.read_on-count.result c.read_on-count.new.room) c.note.ensures c.number-number.ensures in
    stood_acts _ _ _ _ _ c.args.place _ c.self.inside.moments c.self.inside.places c.keep.new.self _ _ _ _ c.stands.result c.index_mut-link.result.now c.read_on-count.new.self
    c.self.invariant at c.index_mut-link.ensures.value c.stands.ensures c.keep.ensures _ _ (given_more (take c.read_on-count.result c.read_on-count.new.room)) c.read_on-count.ensures.acts c.read_on-count.ensures.watched
    accounts.0 accounts.1
