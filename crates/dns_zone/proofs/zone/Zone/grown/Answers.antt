use Rattle.dns_zone.proofs.TakenBehind.{tells_behind_zone}
use Rattle.dns_zone.proofs.zone.Zone.grown.Goals as goal

pub returns-in-Err-clause-fault : goal.returns-in-Err-clause-fault
returns-in-Err-clause-fault c =
    let was = c.loop-row in
    tells_behind_zone c.args.self.now c.args.done was.replaying c.args.rows.now was.row-index c.row-item.result was.invariant.origin was.invariant.taken
    c.loop-row-test.true c.row-item.is c.in-Err.fault c.in-Err.ensures.fault
