use Rattle.std.proofs.Common.{◌+◌}
use Rattle.dns_ticket_lock.specs.Settling.{done_by}
use Rattle.dns_ticket_lock.proofs.counting.count_done.Given as goal

abbrev pub ghosts-note : goal.ghosts-note
ghosts-note g a = record { done = done_by g.K.Keeper.keeper (a.seat.now.me.0.low + 1) a.seat.now.me.0.rows a.held.now.value.book a.told.now }
