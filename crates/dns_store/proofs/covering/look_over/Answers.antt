use Rattle.std.proofs.Common.{◌∙◌, Option, subst}
use Rattle.std.specs.Prelude.{IfSome}
use Rattle.std.proofs.lemmas.Result.{on_ok_weaker}
use Rattle.dns_keeper.specs.declared.batch_row.BatchRow.{BatchRow}
use Rattle.dns_store.specs.Covering.{IsCoveredUpTo}
use Rattle.dns_store.proofs.ReadRows.{kept_on}
use Rattle.dns_store.proofs.ReadBatches.{covering_goes_on, covering_ends}
use Rattle.dns_store.proofs.ToldBatches.{batches_on}
use Rattle.dns_store.proofs.covering.look_over.Goals as goal

pub loop-preserved : goal.loop-preserved
loop-preserved g c =
    let was = c.loop in
    let keeper = g.K.Keeper.keeper in
    let told = keeper.told was.keeper in
    let read = subst (λ (next : Option BatchRow). IfSome told.rows (IsCoveredUpTo was.coverage next told.batches)) c.in-Some.is was.invariant.read in
    record {
      read = covering_goes_on told (keeper.told c.batch_behind.new.keeper) was.coverage c.take_batch.new.coverage c.in-Some.batch c.in_ok-next-2.next
          c.batch_behind.ensures.reads.kept c.batch_behind.ensures.reads.batches read c.in_ok-take_batch.ensures.ok c.in_ok-next-2.ensures.found;
      kept = kept_on (keeper.told c.args.keeper.now).rows told.rows (keeper.told c.batch_behind.new.keeper).rows was.invariant.kept c.batch_behind.ensures.reads.kept;
      batches = batches_on (keeper.told c.args.keeper.now) told (keeper.told c.batch_behind.new.keeper) was.invariant.kept was.invariant.batches c.batch_behind.ensures.reads.batches;
      left = λ some now. was.invariant.left some (c.batch_behind.ensures.reads.left some now);
      uncounted = c.in_ok-next-2.ensures.reads.counts ∙ was.invariant.uncounted;
    }

pub returns-in_default-clause-ok : goal.returns-in_default-clause-ok
returns-in_default-clause-ok g c =
    let was = c.loop in
    let told = g.K.Keeper.keeper.told was.keeper in
    let read = subst (λ (next : Option BatchRow). IfSome told.rows (IsCoveredUpTo was.coverage next told.batches)) c.in_default.is was.invariant.read in
    on_ok_weaker c.end.result (λ ends. covering_ends told was.coverage read ends) c.end.ensures.ok
