use Rattle.dns_ticket_world.proofs.Sharing.{joined_faults}
use Rattle.dns_ticket_world.proofs.state.State.make.Goals as goal

pub join-requires-clause-fits : goal.join-requires-clause-fits
join-requires-clause-fits c =
    rw (c.place-in-Join.ensures, c.place-in-Join-2.ensures)
    (joined_faults c.args.self.now c.in-Join.seat c.in-Join.other c.requires.holds (rw c.in-Join.is at c.requires.allowed))
