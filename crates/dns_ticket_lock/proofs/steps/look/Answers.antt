use Rattle.std.proofs.Common.{arith}
use Rattle.dns_ticket_lock.specs.Rule.{terms_of}
use Rattle.dns_ticket_lock.proofs.Moves.{looks_me}
use Rattle.dns_ticket_lock.proofs.steps.look.Goals as goal

pub load-requires : goal.load-requires
load-requires g c =
    let b = c.requires.board in
    let words = b.0 in
    (b.2, omega arith, looks_me g.T.Carried.names (terms_of c.args.board.now.key.views) c.args.board.now.table_id.slots c.args.seat.now.id c.args.seat.now.me c.requires.waits.0 c.requires.waits.1)

pub returns-clause-turn : goal.returns-clause-turn
returns-clause-turn g c = c.load.ensures.2
