use Rattle.std.proofs.Common.{◌≡◌, ◌++◌, ◌∷◌, [], take, get_or, refl, sym, ap, subst, ◌∙◌, arith}
use Rattle.std.proofs.lemmas.List.{take_more, take_all}
use Rattle.dns_sqlite.specs.Batch.{PutsAll}
use Rattle.sqlite.specs.Held.{state}
use Rattle.sqlite.proofs.StateLemmas.{survives_then}
use Rattle.sqlite.proofs.InsideLemmas.{keeps_then}
use Rattle.dns_sqlite.proofs.Batches.{survives_none, puts_none, puts_more}
use Rattle.dns_sqlite.proofs.Statements.{not_done}
use Rattle.dns_sqlite.proofs.writes.insert_rows.Goals as goal

pub loop-bytes-init : goal.loop-bytes-init
loop-bytes-init g c =
    (refl, survives_none _, (λ clean inside. (record { was_open = λ h. h; committed = λ _. refl }, inside)), λ clean inside has. puts_none c.args.client c.args.serial c.args.stamp.now _ inside has)

pub loop-bytes-preserved : goal.loop-bytes-preserved
loop-bytes-preserved g c =
    let old = state g.S.Store c.args.tx.now.conn.now in
    let mid = state g.S.Store c.loop-bytes.tx.conn.now in
    let new = state g.S.Store c.insert_row.new.tx.conn.now in
    let was = c.loop-bytes.invariant in
    let one = c.in_ok-_count.ensures.done.done in
    let all = survives_then old mid new _ _ (λ _. ⊥) (λ _ db none. none) (λ _ db none. none) was.1 one.survives in
    let i = c.loop-bytes.bytes-index in
    let records = c.args.records.now in
    let item : c.as_slice.result.now ≡ get_or records i c.bytes-item.result = c.as_slice.ensures ∙ c.bytes-item.is in (
      c.in_ok-_count.ensures.same_reference ∙ was.0,
      all,
      (λ clean inside. let kept = was.2 (omega (arith, one.survives.clean)) inside in (keeps_then old mid new kept.0 (one.kept clean kept.1), one.inside clean kept.1)),
      λ clean inside has.
          let done = was.3 (omega (arith, one.survives.clean)) inside has in
          let more = puts_more c.args.client c.args.serial c.args.stamp.now (take i records) c.as_slice.result.now old mid new done (one.made clean done.mode done.grown.schema) (one.kept clean done.mode) in
          subst (λ r. PutsAll c.args.client c.args.serial c.args.stamp.now r old new)
          (ap (λ x. take i records ++ x ∷ []) item ∙ sym (take_more records i c.bytes-item.result c.loop-bytes-test.true)) more,
    )

pub returns-in_err-_count-clause-same_reference : goal.returns-in_err-_count-clause-same_reference
returns-in_err-_count-clause-same_reference g c = c.insert_row.ensures.same_reference ∙ c.loop-bytes.invariant.0

pub returns-in_err-_count-clause-done : goal.returns-in_err-_count-clause-done
returns-in_err-_count-clause-done g c =
    let last = c.insert_row.ensures.done.done in
    record {
      made = λ _ _ _. not_done c.from_residual.result _ c.from_residual.ensures.0;
      inside = λ _ _. not_done c.from_residual.result _ c.from_residual.ensures.0;
      kept = λ clean inside. let kept = c.loop-bytes.invariant.2 (omega (arith, last.survives.clean)) inside in keeps_then _ _ _ kept.0 (last.kept clean kept.1);
      survives = survives_then _ _ _ _ _ (λ _. ⊥) (λ _ db none. none) (λ _ db none. none) c.loop-bytes.invariant.1 last.survives;
    }

pub returns-clause-same_reference : goal.returns-clause-same_reference
returns-clause-same_reference g c = c.loop-bytes.invariant.0

pub returns-clause-done : goal.returns-clause-done
returns-clause-done g c = record {
  made = λ clean inside has.
      subst (λ r. PutsAll c.args.client c.args.serial c.args.stamp.now r (state g.S.Store c.args.tx.now.conn.now) (state g.S.Store c.loop-bytes.tx.conn.now))
      (take_all c.loop-bytes.bytes-index c.args.records.now c.loop-bytes-test.false) (c.loop-bytes.invariant.3 clean inside has);
  inside = λ clean inside. (c.loop-bytes.invariant.2 clean inside).1;
  kept = λ clean inside. (c.loop-bytes.invariant.2 clean inside).0;
  survives = c.loop-bytes.invariant.1;
}
