use Rattle.std.proofs.Common.{arith}
use Rattle.dns_ticket_lock.specs.Rule.{terms_of}
use Rattle.dns_ticket_lock.proofs.Moves.{draws_me}
use Rattle.dns_ticket_lock.proofs.steps.draw.Goals as goal

pub fetch_add-requires : goal.fetch_add-requires
fetch_add-requires g c =
    let b = c.requires.board in
    let words = b.0 in
    let i = c.requires.idle in
    (b.2, omega arith, draws_me g.T.Carried.names (terms_of c.args.board.now.key.views) c.args.board.now.table_id.slots c.args.seat.now.id c.args.seat.now.me i.0 i.1 i.2)
