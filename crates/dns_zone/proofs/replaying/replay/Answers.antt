use Rattle.std.proofs.Common.{◌≡◌, List, take, sym, subst}
use Rattle.dns_name.specs.Name.{fold_of}
use Rattle.dns_keeper.specs.declared.row.Row.{Row}
use Rattle.dns_update.specs.Replay.{Replays}
use Rattle.dns_zone.specs.Replaying.{HasTaken, TellsEnd}
use Rattle.dns_zone.proofs.TakenRows.{tells_all}
use Rattle.dns_zone.proofs.replaying.replay.Goals as goal

pub returns-in-Err-clause-fault : goal.returns-in-Err-clause-fault
returns-in-Err-clause-fault c =
    let was = c.loop-row in
    let rows = c.as_slice-row-items.result.now in
    let same : rows ≡ c.args.rows.now.items = c.as_slice-row-items.ensures.value in
    let taken : HasTaken was.replaying (take was.row-index rows) = subst (λ (l : List Row). HasTaken was.replaying (take was.row-index l)) (sym same) was.invariant.taken in
    subst (λ (l : List Row). TellsEnd (Replays (fold_of c.args.origin.now) l) c.in-Err.fault) same
    (tells_all (fold_of c.args.origin.now) was.replaying rows was.row-index c.row-item.result c.in-Err.fault was.invariant.origin taken c.loop-row-test.true c.row-item.is c.in-Err.ensures.fault)
