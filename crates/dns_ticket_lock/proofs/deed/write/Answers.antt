use Rattle.std.proofs.Common.{refl}
use Rattle.atomic_table.specs.Table.{keeps}
use Rattle.dns_ticket_lock.proofs.deed.write.Goals as goal

pub load-requires : goal.load-requires
load-requires g c = (c.requires.1, c.requires.0, λ s held slots at room. (g.J.Named.terms, keeps, tt, tt, refl))
