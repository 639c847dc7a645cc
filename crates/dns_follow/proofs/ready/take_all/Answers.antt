use Rattle.std.proofs.Common.{◌≡◌, ◌++◌, List, take, sym, subst}
use Rattle.dns_keeper.specs.declared.row.Row.{Row}
use Rattle.dns_update.specs.Replay.{Replays}
use Rattle.dns_zone.specs.Replaying.{HasTaken, TellsEnd}
use Rattle.dns_zone.proofs.TakenBehind.{tells_behind}
use Rattle.dns_follow.proofs.ready.take_all.Goals as goal

pub returns-in-Err-clause-fault : goal.returns-in-Err-clause-fault
returns-in-Err-clause-fault c =
    let was = c.loop-row in
    let old = c.args.growing.now.now in
    let rows = c.as_slice-row-items.result.now in
    let same : rows ≡ c.args.rows.now.items = c.as_slice-row-items.ensures.value in
    let taken : (front : List Row) → HasTaken old front → HasTaken was.growing.now (front ++ take was.row-index rows) =
    subst (λ (l : List Row). (front : List Row) → HasTaken old front → HasTaken was.growing.now (front ++ take was.row-index l)) (sym same) was.invariant.taken in
    subst (λ (l : List Row). TellsEnd (λ end. (front : List Row) → HasTaken old front → Replays old.origin (front ++ l) end) c.in-Err.fault) same
    (tells_behind (HasTaken old) old.origin was.growing.now rows was.row-index c.row-item.result was.invariant.named taken c.loop-row-test.true c.row-item.is c.in-Err.fault c.in-Err.ensures.fault)
