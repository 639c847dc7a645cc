use Rattle.std.proofs.Common.{sym}
use Rattle.dns_ports.proofs.Passed.{read, unread}
use Rattle.dns_ports.proofs.datagrams.read_moment.Goals as goal

pub returns-in-Ok-clause-told : goal.returns-in-Ok-clause-told
returns-in-Ok-clause-told g c = rw (c.moment_from.ensures.is, c.from.ensures) (read _ _ c.in-Ok.reading c.in-Ok.ensures.told)

pub returns-in-Err-clause-told : goal.returns-in-Err-clause-told
returns-in-Err-clause-told g c = rw (sym c.requires.last) (unread _ _ c.in-Err.field-0 c.in-Err.ensures.told)
