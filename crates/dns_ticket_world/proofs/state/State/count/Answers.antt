use Rattle.std.proofs.Common.{length}
use Rattle.dns_ticket_world.proofs.Sharing.{counted_faults, halves}
use Rattle.dns_ticket_world.proofs.state.State.count.Goals as goal

pub settle-requires-clause-fits : goal.settle-requires-clause-fits
settle-requires-clause-fits c =
    rw (c.in_ok-add.ensures.ok, c.place.ensures, c.place-2.ensures)
    (counted_faults c.args.self.now c.args.number c.in_ok-copy.field-0 c.receipt.result c.args.faults c.requires.holds (rw c.in_ok-copy.ensures c.requires.allowed))

pub returns-clause-ok : goal.returns-clause-ok
returns-clause-ok c =
    rw (c.settle.ensures, c.in_ok-add.ensures.ok, c.place.ensures, c.place-2.ensures, c.in_ok-copy.ensures)
    (halves c.args.self.now c.args.number c.args.batch.now c.receipt.result c.args.faults c.requires.allowed (c.receipt.ensures (length c.args.self.now.rows)))
