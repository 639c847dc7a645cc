use Rattle.std.proofs.Common.{◌∙◌, not, ap, inl, inr, w64}
use Rattle.std.proofs.lemmas.Int.{to_z-of_z}
use Rattle.std.proofs.lemmas.Result.{IfOk-weaker}
use Rattle.sqlite.specs.Held.{state}
use Rattle.dns_sqlite.specs.Tables.{batch_text}
use Rattle.dns_sqlite.proofs.BatchTexts.{batch_bare}
use Rattle.dns_sqlite.proofs.BatchFinds.{finds_batches}
use Rattle.dns_sqlite.proofs.Selects.{shows_nothing, shown_same}
use Rattle.dns_sqlite.proofs.Queries.{either, stays, fails_query, shown_open, ok_where, err_where, ok_open}
use Rattle.dns_sqlite.proofs.batch_reads.select_batches.Goals as goal

pub returns-clause-rows : goal.returns-clause-rows
returns-clause-rows g c clean has =
    IfOk-weaker c.query_all.result _ _ (λ rows h. finds_batches (state g.S.Store c.args.conn.now) (state g.S.Store c.query_all.new.self) c.args.first rows.items has h)
    (rw (c.params-to_sql.ensures, to_z-of_z w64 c.args.first c.ranges.first) at (c.query_all.ensures.ok clean))

pub returns-clause-opened : goal.returns-clause-opened
returns-clause-opened g c clean =
    ok_open c.query_all.result _ _ (c.query_all.ensures.ok clean) (λ rows h. shown_open (state g.S.Store c.args.conn.now) (state g.S.Store c.query_all.new.self) batch_text _ rows.items h)

pub returns-clause-same : goal.returns-clause-same
returns-clause-same g c =
    ok_where c.query_all.result _ _ c.query_all.ensures.ok (λ clean live rows h. shown_same batch_text batch_bare _ (state g.S.Store c.args.conn.now) (state g.S.Store c.query_all.new.self) rows.items h)

pub returns-clause-undone : goal.returns-clause-undone
returns-clause-undone g c =
    err_where c.query_all.result _ _ c.query_all.ensures.err (λ clean live e fails. fails_query (state g.S.Store c.args.conn.now) (state g.S.Store c.query_all.new.self) _ _ e fails)

pub returns-clause-asked : goal.returns-clause-asked
returns-clause-asked g c =
    let old = state g.S.Store c.args.conn.now in
    let new = state g.S.Store c.query_all.new.self in
    record {
      alone = c.query_all.ensures.mode;
      falls = c.query_all.ensures.survives.clean;
      kept = λ alone clean live.
          let settled = c.is_autocommit-settled.ensures.settled (c.is_autocommit-settled.ensures.value ∙ ap not alone) in
          either c.query_all.result _ _ (c.query_all.ensures.ok clean) (c.query_all.ensures.err clean)
          (λ v shown. stays old new settled (inl (shown_same batch_text batch_bare _ old new v.items shown)) live)
          (λ e fails. stays old new settled (fails_query old new _ _ e fails) live);
      left = λ clean db may.
          elim (c.query_all.ensures.survives.crash clean db may) [
            | inl before ↦ before
            | inr shows ↦ absurd (shows_nothing batch_text batch_bare _ old db shows)
          ];
    }
