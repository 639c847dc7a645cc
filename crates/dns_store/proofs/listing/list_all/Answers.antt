use Rattle.std.proofs.Common.{◌∙◌, Option, subst}
use Rattle.std.specs.Prelude.{IfSome}
use Rattle.dns_keeper.specs.declared.batch_row.BatchRow.{BatchRow}
use Rattle.dns_store.specs.Listing.{IsListedUpTo}
use Rattle.dns_store.proofs.ReadRows.{kept_on}
use Rattle.dns_store.proofs.ListedBatches.{list_goes_on}
use Rattle.dns_store.proofs.ToldBatches.{batches_on}
use Rattle.dns_store.proofs.listing.list_all.Goals as goal

pub loop-preserved : goal.loop-preserved
loop-preserved g c =
    let was = c.loop in
    let keeper = g.K.Keeper.keeper in
    let told = keeper.told was.keeper in
    let between = keeper.told c.listed_batch.new.keeper in
    let now = keeper.told c.batch_behind.new.keeper in
    let start = keeper.told c.args.keeper.now in
    let kept = kept_on start.rows told.rows between.rows was.invariant.kept c.listed_batch.ensures.reads.kept in
    let batches = batches_on start told between was.invariant.kept was.invariant.batches c.listed_batch.ensures.reads.batches in
    let read = subst (λ (next : Option BatchRow). IfSome told.rows (IsListedUpTo was.listed.items next told.batches)) c.in-Some.is was.invariant.read in
    record {
      read = list_goes_on told between now was.listed.items c.add_batch.new.listed.items c.in_ok-one.one c.in-Some.batch c.in_ok-next-2.next
          c.listed_batch.ensures.reads.kept c.listed_batch.ensures.reads.batches c.batch_behind.ensures.reads.kept c.batch_behind.ensures.reads.batches
          read c.in_ok-one.ensures.is c.in_ok-add_batch.ensures.added c.in_ok-next-2.ensures.found;
      kept = kept_on start.rows between.rows now.rows kept c.batch_behind.ensures.reads.kept;
      batches = batches_on start between now kept batches c.batch_behind.ensures.reads.batches;
      left = λ some now. was.invariant.left some (c.listed_batch.ensures.reads.left some (c.batch_behind.ensures.reads.left some now));
      uncounted = c.in_ok-next-2.ensures.reads.counts ∙ c.in_ok-one.ensures.reads.counts ∙ was.invariant.uncounted;
    }
