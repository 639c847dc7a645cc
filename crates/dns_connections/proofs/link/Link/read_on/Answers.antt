use Rattle.std.proofs.Common.{◌≡◌, rules}
use Rattle.dns_connections.specs.Kept.{given_more, same_account}
use Rattle.dns_connections.specs.Links.{given_of}
use Rattle.dns_connections.proofs.Causing.{stays_read}
use Rattle.dns_connections.proofs.Own.{acts_read, acts_then}
use Rattle.dns_connections.proofs.link.Link.read_on.Goals as goal

pub go_on-requires-clause-stays : goal.go_on-requires-clause-stays
go_on-requires-clause-stays g c = stays_read _ _ c.args.now _ c.read_some-given.result _ _ _ c.read_some-given.ensures.told c.read_some-given.ensures.is c.requires.watched

pub returns-clause-acts : goal.returns-clause-acts
returns-clause-acts g c =
    let e : c.given_of-count.result ≡ given_of c.args.self.now.stage c.read_some-given.result = search rules in
    rw e (acts_then _ _ _ (given_more _) same_account _ _ _
    (acts_read _ _ c.args.now _ c.read_some-given.result _ _ c.read_some-given.ensures.told c.read_some-given.ensures.is c.requires.now) c.go_on.ensures.acts)
