use Rattle.std.proofs.Common.{take, get_or, pos, refl, sym, subst, ◌∙◌, arith}
use Rattle.std.proofs.lemmas.List.{take_more, take_all}
use Rattle.sqlite.specs.Held.{state}
use Rattle.sqlite.proofs.StateLemmas.{survives_then}
use Rattle.sqlite.proofs.InsideLemmas.{keeps_then}
use Rattle.dns_keeper.specs.declared.batch_row.BatchRow.{BatchRow}
use Rattle.dns_sqlite.specs.Migration.{PutsBatches}
use Rattle.dns_sqlite.proofs.Batches.{survives_none}
use Rattle.dns_sqlite.proofs.Statements.{not_done}
use Rattle.dns_sqlite.proofs.BatchMakes.{no_batches, more_batches}
use Rattle.dns_sqlite.proofs.schema.insert_batch_rows.Goals as goal

pub loop-batch-init : goal.loop-batch-init
loop-batch-init g c =
    (refl, survives_none _, (λ clean inside. (record { was_open = λ h. h; committed = λ _. refl }, inside)), λ clean inside has. no_batches _ inside has)

pub loop-batch-preserved : goal.loop-batch-preserved
loop-batch-preserved g c =
    let old = state g.S.Store c.args.tx.now.conn.now in
    let mid = state g.S.Store c.loop-batch.tx.conn.now in
    let new = state g.S.Store c.insert_batch_row.new.tx.conn.now in
    let was = c.loop-batch.invariant in
    let one = c.in_ok-_count.ensures.done.done in
    let all = survives_then old mid new _ _ (λ _. ⊥) (λ _ db none. none) (λ _ db none. none) was.1 one.survives in
    let i = c.loop-batch.batch-index in
    let batches = c.args.batches.now in
    let none : BatchRow = record { first = pos 0; count = pos 0 } in (
      c.in_ok-_count.ensures.same_reference ∙ was.0,
      all,
      (λ clean inside. let kept = was.2 (omega (arith, one.survives.clean)) inside in (keeps_then old mid new kept.0 (one.kept clean kept.1), one.inside clean kept.1)),
      λ clean inside has.
          let done = was.3 (omega (arith, one.survives.clean)) inside has in
          let more = more_batches (take i batches) (get_or batches i none) old mid new done (one.made clean done.mode done.schema) in
          subst (λ r. PutsBatches r old new)
          (sym (take_more batches i none c.loop-batch-test.true)) more,
    )

pub returns-in_err-_count-clause-same_reference : goal.returns-in_err-_count-clause-same_reference
returns-in_err-_count-clause-same_reference g c = c.insert_batch_row.ensures.same_reference ∙ c.loop-batch.invariant.0

pub returns-in_err-_count-clause-done : goal.returns-in_err-_count-clause-done
returns-in_err-_count-clause-done g c =
    let last = c.insert_batch_row.ensures.done.done in
    record {
      made = λ _ _ _. not_done c.from_residual.result _ c.from_residual.ensures.0;
      inside = λ _ _. not_done c.from_residual.result _ c.from_residual.ensures.0;
      kept = λ clean inside. let kept = c.loop-batch.invariant.2 (omega (arith, last.survives.clean)) inside in keeps_then _ _ _ kept.0 (last.kept clean kept.1);
      survives = survives_then _ _ _ _ _ (λ _. ⊥) (λ _ db none. none) (λ _ db none. none) c.loop-batch.invariant.1 last.survives;
    }

pub returns-clause-same_reference : goal.returns-clause-same_reference
returns-clause-same_reference g c = c.loop-batch.invariant.0

pub returns-clause-done : goal.returns-clause-done
returns-clause-done g c = record {
  made = λ clean inside has.
      subst (λ r. PutsBatches r (state g.S.Store c.args.tx.now.conn.now) (state g.S.Store c.loop-batch.tx.conn.now))
      (take_all c.loop-batch.batch-index c.args.batches.now c.loop-batch-test.false) (c.loop-batch.invariant.3 clean inside has);
  inside = λ clean inside. (c.loop-batch.invariant.2 clean inside).1;
  kept = λ clean inside. (c.loop-batch.invariant.2 clean inside).0;
  survives = c.loop-batch.invariant.1;
}
