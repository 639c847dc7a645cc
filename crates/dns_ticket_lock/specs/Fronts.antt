-- Messages of a connection that are settled in one turn: the first ones, up to one that adds rows or counts a fault.
use Rattle.std.specs.Prelude.{false, None}
use Rattle.dns_ticket_lock.specs.declared.held.Told.{Told}

-- nothing was done
abbrev pub nothing_told : Told
nothing_told = record { receipt = None; count = 0; rise = 0; mark = false }
