use Rattle.std.proofs.Common.{◌≡◌, ◌∷◌, ◌++◌, ◌<◌, ◌≤◌, [], length, take, get_or, pos, sym, ap, subst, ◌∙◌, arith}
use Rattle.std.proofs.lemmas.List.{take_more, take_all, get_or-map, length-map}
use Rattle.dns_keeper.specs.declared.batch_row.BatchRow.{BatchRow}
use Rattle.dns_sqlite.specs.Tables.{shown_batch}
use Rattle.dns_sqlite.specs.Reads.{AreFrontOf}
use Rattle.dns_sqlite.proofs.Streams.{not_none}
use Rattle.dns_sqlite.proofs.BatchFinds.{same_batch, front_at, front_whole}
use Rattle.dns_sqlite.proofs.batch_reads.batches_in.Goals as goal

pub loop-row-preserved : goal.loop-row-preserved
loop-row-preserved c found is =
    let i = c.loop-row.row-index in
    let none : BatchRow = record { first = pos 0; count = pos 0 } in
    let within : i < length found = subst (λ n. i < n) (ap length is ∙ length-map found shown_batch) c.loop-row-test.true in
    let shown = c.row-item.is ∙ ap (λ rows. get_or rows i c.row-item.result) is ∙ get_or-map shown_batch found i none c.row-item.result within in
    let one = same_batch _ c.in-Ok.one (get_or found i none) shown c.in-Ok.ensures in
    c.in_ok-push-in-Ok.ensures ∙ ap (λ xs. xs ++ c.in-Ok.one ∷ []) (c.loop-row.invariant found is) ∙ ap (λ x. take i found ++ x ∷ []) one ∙ sym (take_more found i none within)

pub returns-in-Err : goal.returns-in-Err
returns-in-Err c found is =
    front_at c.loop-row.batches.items found c.loop-row.row-index (c.loop-row.invariant found is) (omega (arith, c.loop-row.batches.ok, not_none c.loop-row.batches.len (sym c.is_empty.ensures ∙ c.if-is_empty.false)))

pub returns : goal.returns
returns c found is =
    let all : take c.loop-row.row-index found ≡ found = take_all c.loop-row.row-index found (subst (λ n. n ≤ c.loop-row.row-index) (ap length is ∙ length-map found shown_batch) c.loop-row-test.false) in
    subst (λ xs. AreFrontOf xs found) (sym (c.loop-row.invariant found is ∙ all)) (front_whole found)
