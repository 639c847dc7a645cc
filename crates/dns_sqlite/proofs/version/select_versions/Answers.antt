use Rattle.std.proofs.Common.{◌∙◌, not, ap, inl, inr}
use Rattle.sqlite.specs.Held.{state}
use Rattle.dns_sqlite.specs.Versions.{version_text}
use Rattle.dns_sqlite.proofs.Versions.{shows}
use Rattle.dns_sqlite.proofs.Selects.{version_bare, shows_nothing, shown_same, shown_versions}
use Rattle.dns_sqlite.proofs.Queries.{either, stays, fails_query, ok_where, err_where, each_ok, each_err}
use Rattle.dns_sqlite.proofs.version.select_versions.Goals as goal

pub returns-clause-rows : goal.returns-clause-rows
returns-clause-rows g c =
    let old = state g.S.Store c.args.conn.now in
    let new = state g.S.Store c.query_all.new.self in
    each_ok c.query_all.result _ _ c.query_all.ensures.ok (λ rows h. (shown_versions old new rows.items h, λ has. (shows old new rows.items has h).0))

pub returns-clause-same : goal.returns-clause-same
returns-clause-same g c =
    let old = state g.S.Store c.args.conn.now in
    let new = state g.S.Store c.query_all.new.self in
    ok_where c.query_all.result _ _ c.query_all.ensures.ok (λ clean live rows h. shown_same version_text version_bare _ old new rows.items h)

pub returns-clause-shown : goal.returns-clause-shown
returns-clause-shown g c =
    let old = state g.S.Store c.args.conn.now in
    let new = state g.S.Store c.query_all.new.self in
    ok_where c.query_all.result _ _ c.query_all.ensures.ok (λ clean live rows h. let it = shown_same version_text version_bare _ old new rows.items h in (it.0.was_open, it.0.now_is))

pub returns-clause-undone : goal.returns-clause-undone
returns-clause-undone g c =
    let old = state g.S.Store c.args.conn.now in
    let new = state g.S.Store c.query_all.new.self in
    err_where c.query_all.result _ _ c.query_all.ensures.err (λ clean live e fails. fails_query old new _ _ e fails)

pub returns-clause-refused : goal.returns-clause-refused
returns-clause-refused g c = each_err c.query_all.result _ c.query_all.ensures.err

pub returns-clause-asked : goal.returns-clause-asked
returns-clause-asked g c =
    let old = state g.S.Store c.args.conn.now in
    let new = state g.S.Store c.query_all.new.self in
    record {
      alone = c.query_all.ensures.mode;
      falls = c.query_all.ensures.survives.clean;
      kept = λ alone clean live.
          let settled = c.is_autocommit-settled.ensures.settled (c.is_autocommit-settled.ensures.value ∙ ap not alone) in
          either c.query_all.result _ _ (c.query_all.ensures.ok clean) (c.query_all.ensures.err clean)
          (λ v shown. stays old new settled (inl (shown_same version_text version_bare _ old new v.items shown)) live)
          (λ e fails. stays old new settled (fails_query old new _ _ e fails) live);
      left = λ clean db may.
          elim (c.query_all.ensures.survives.crash clean db may) [
            | inl before ↦ before
            | inr shows ↦ absurd (shows_nothing version_text version_bare _ old db shows)
          ];
    }
