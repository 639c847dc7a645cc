use Rattle.std.proofs.Common.{◌∙◌, Option, subst}
use Rattle.std.specs.Prelude.{IfSome}
use Rattle.dns_keeper.specs.declared.row.Row.{Row}
use Rattle.dns_store.specs.Front.{IsNext}
use Rattle.dns_store.proofs.FrontRows.{front_goes_on, front_short}
use Rattle.dns_store.proofs.ReadRows.{kept_on}
use Rattle.dns_store.proofs.ToldBatches.{batches_on}
use Rattle.dns_store.proofs.front.replay_front.Goals as goal

pub loop-rows-preserved : goal.loop-rows-preserved
loop-rows-preserved g c =
    let was = c.loop-rows in
    let keeper = g.K.Keeper.keeper in
    let next = subst (λ (found : Option Row). IfSome (keeper.told c.next_row.new.keeper).rows (IsNext was.last found)) c.in-Some.is c.in_ok-row.ensures.found in
    record {
      read = front_goes_on c.args.origin.now was.state c.take_next-state.result was.rows was.last c.in-Some.row (keeper.told was.keeper).rows (keeper.told c.next_row.new.keeper).rows
          c.next_row.ensures.reads.kept was.invariant.read next c.take_next-state.ensures;
      kept = kept_on (keeper.told c.args.keeper.now).rows (keeper.told was.keeper).rows (keeper.told c.next_row.new.keeper).rows was.invariant.kept c.next_row.ensures.reads.kept;
      batches = batches_on (keeper.told c.args.keeper.now) (keeper.told was.keeper) (keeper.told c.next_row.new.keeper) was.invariant.kept was.invariant.batches c.next_row.ensures.reads.batches;
      left = λ rows now. was.invariant.left rows (c.next_row.ensures.reads.left rows now);
      uncounted = c.in_ok-row.ensures.reads.counts ∙ was.invariant.uncounted;
    }

pub returns-in_default-clause-ok : goal.returns-in_default-clause-ok
returns-in_default-clause-ok g c =
    let was = c.loop-rows in
    let keeper = g.K.Keeper.keeper in
    let next = subst (λ (found : Option Row). IfSome (keeper.told c.next_row.new.keeper).rows (IsNext was.last found)) c.in_default.is c.in_ok-row.ensures.found in
    front_short c.args.origin.now was.state was.rows c.args.length was.last (keeper.told was.keeper).rows (keeper.told c.next_row.new.keeper).rows
    c.next_row.ensures.reads.kept was.invariant.read next c.loop-rows-test.true
