use Rattle.std.proofs.Common.{arith}
use Rattle.dns_ticket_lock.specs.Rule.{terms_of}
use Rattle.dns_ticket_lock.proofs.Moves.{counts}
use Rattle.dns_ticket_lock.proofs.steps.count.Goals as goal

pub fetch_add-requires : goal.fetch_add-requires
fetch_add-requires g c =
    let b = c.requires.board in
    let words = b.0 in
    let h = c.requires.many in
    (b.2, omega arith, counts g.T.Carried.names (terms_of c.args.board.now.key.views) c.args.board.now.table_id.slots c.args.seat.now.id c.args.seat.now.me g.J.Batch.done c.args.many c.requires.has c.requires.done h.0 h.1)
