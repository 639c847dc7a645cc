use Rattle.dns_connections.specs.Kept.{same_account}
use Rattle.dns_connections.proofs.Causing.{stays_write}
use Rattle.dns_connections.proofs.Own.{acts_then, acts_written}
use Rattle.dns_connections.proofs.link.Link.write_on.Goals as goal

pub go_on-requires-clause-stays : goal.go_on-requires-clause-stays
go_on-requires-clause-stays g c =
    rw c.after_write.ensures (stays_write _ _ c.args.now c.write_owed-given.result _ _ c.write_owed-given.ensures.told c.write_owed-given.ensures.is c.requires.watched c.write_owed-given.ensures.some)

pub returns-clause-acts : goal.returns-clause-acts
returns-clause-acts g c =
    acts_then _ _ _ same_account same_account _ _ _
    (acts_written _ _ c.args.now c.write_owed-given.result _ _ c.write_owed-given.ensures.told c.write_owed-given.ensures.is c.requires.now c.requires.stands c.requires.owed c.write_owed-given.ensures.some)
    c.go_on.ensures.acts
