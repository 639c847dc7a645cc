use Rattle.std.proofs.Common.{rules}
use Rattle.dns_connections.specs.Kept.{handed_more, same_account}
use Rattle.dns_connections.proofs.Causing.{stays_sent}
use Rattle.dns_connections.proofs.Own.{acts_sent, acts_then}
use Rattle.dns_connections.proofs.link.Link.hand.Goals as goal

pub go_on-requires-clause-stays : goal.go_on-requires-clause-stays
go_on-requires-clause-stays g c =
    rw c.after_send.ensures (stays_sent _ _ c.args.now _ c.args.bytes.now c.write_first-given.result _ _ c.write_first-given.ensures.told c.write_first-given.ensures.is (search rules) c.requires.watched (search rules))

pub returns-clause-acts : goal.returns-clause-acts
returns-clause-acts g c =
    acts_then _ _ _ (handed_more _) same_account _ _ _
    (acts_sent _ _ c.args.now c.args.bytes.now c.write_first-given.result _ _ c.write_first-given.ensures.told c.write_first-given.ensures.is c.requires.now c.requires.stands (search rules) c.requires.served)
    c.go_on.ensures.acts
