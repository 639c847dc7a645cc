use Rattle.std.proofs.Common.{arith}
use Rattle.dns_ticket_lock.specs.Rule.{terms_of}
use Rattle.dns_ticket_lock.proofs.Moves.{passes_me}
use Rattle.dns_ticket_lock.proofs.steps.leave.Goals as goal

pub fetch_add-requires : goal.fetch_add-requires
fetch_add-requires g c =
    let b = c.requires.board in
    let words = b.0 in
    let h = c.requires.counted in
    (b.2, omega arith, passes_me g.T.Carried.names (terms_of c.args.board.now.key.views) c.args.board.now.table_id.slots c.args.seat.now.id c.args.seat.now.me h.1.0 h.1.1 h.0 h.1.2)
