use Rattle.std.proofs.Common.{◌∙◌, Option, subst}
use Rattle.std.specs.Prelude.{IfSome}
use Rattle.dns_keeper.specs.declared.row.Row.{Row}
use Rattle.dns_store.specs.Recovering.{IsReadUpTo}
use Rattle.dns_store.proofs.ReadRows.{goes_on, kept_on}
use Rattle.dns_store.proofs.ToldBatches.{batches_on}
use Rattle.dns_store.proofs.recovering.take_rows.Goals as goal

pub loop-row_count-preserved : goal.loop-row_count-preserved
loop-row_count-preserved g c =
    let was = c.loop-row_count in
    let keeper = g.K.Keeper.keeper in
    let read = subst (λ (next : Option Row). IfSome (keeper.told was.keeper).rows (IsReadUpTo was.replaying was.runs was.row_count next)) c.in-Some.is was.invariant.read in
    record {
      origin = c.take_row.ensures.origin ∙ was.invariant.origin;
      read = goes_on was.replaying c.take_row.new.replaying was.runs c.count_row.new.runs was.row_count c.in-Some.row c.in_ok-next-2.next (keeper.told was.keeper).rows (keeper.told c.row_behind.new.keeper).rows
          c.row_behind.ensures.reads.kept read c.in_ok-take_row.ensures.taken c.in_ok-count_row.ensures.counted c.in_ok-next-2.ensures.found;
      kept = kept_on (keeper.told c.args.keeper.now).rows (keeper.told was.keeper).rows (keeper.told c.row_behind.new.keeper).rows was.invariant.kept c.row_behind.ensures.reads.kept;
      batches = batches_on (keeper.told c.args.keeper.now) (keeper.told was.keeper) (keeper.told c.row_behind.new.keeper) was.invariant.kept was.invariant.batches c.row_behind.ensures.reads.batches;
      left = λ rows now. was.invariant.left rows (c.row_behind.ensures.reads.left rows now);
      uncounted = c.in_ok-next-2.ensures.reads.counts ∙ was.invariant.uncounted;
    }
