use Rattle.std.proofs.Common.{◌∙◌, take, subst, w64}
use Rattle.std.proofs.lemmas.Int.{to_z-of_z}
use Rattle.std.proofs.lemmas.Result.{IfOk-weaker}
use Rattle.dns_sqlite.specs.Tables.{HasBatchesFrom}
use Rattle.dns_sqlite.specs.Reads.{batches_from}
use Rattle.dns_sqlite.proofs.BatchFinds.{batches_are, front_of_all}
use Rattle.dns_sqlite.proofs.Queries.{found_where}
use Rattle.dns_sqlite.proofs.batch_reads.select_batches_from.Goals as goal

pub returns-clause-found : goal.returns-clause-found
returns-clause-found g c =
    found_where c.batches_in.result _ (λ clean has batches up table.
    let seen = rw (to_z-of_z w64 c.args.first c.ranges.first) at (c.in_ok-rows.ensures.rows clean has) in
    let shown = subst (λ stored. HasBatchesFrom c.args.first stored c.in_ok-rows.rows.items) table seen in
    let found = take 128 (batches_from c.args.first batches) in
    IfOk-weaker c.batches_in.result _ _ (λ read. front_of_all read.items (batches_from c.args.first batches))
    (c.batches_in.ensures found (c.as_slice.ensures.value ∙ batches_are c.args.first batches c.in_ok-rows.rows.items up shown)))
