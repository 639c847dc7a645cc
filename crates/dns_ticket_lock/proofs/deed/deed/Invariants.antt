use Rattle.dns_ticket_lock.specs.Naming.{terms_at}
use Rattle.dns_ticket_lock.proofs.deed.deed.Given as goal

abbrev pub ghosts-write_these : goal.ghosts-write_these
ghosts-write_these g a = record { terms = terms_at g.K.Keeper.keeper a._book.now a._seats }
