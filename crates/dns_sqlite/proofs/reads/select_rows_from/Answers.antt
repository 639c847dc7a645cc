use Rattle.std.proofs.Common.{rules, ◌≡◌, ◌∙◌, not, ap, sym, subst, inl, inr, [], ◌∷◌, IsTrue, arith, w64}
use Rattle.std.proofs.lemmas.Int.{to_z-of_z}
use Rattle.sqlite.specs.declared.types.Value.TheVariants.{Int}
use Rattle.sqlite.specs.Effect.{Database}
use Rattle.sqlite.specs.Given.{HasBegun}
use Rattle.sqlite.specs.Held.{state}
use Rattle.sqlite.specs.State.{HasCleanDisk, IsUnchanged}
use Rattle.sqlite.proofs.Callers.{unchanged_then}
use Rattle.dns_sqlite.specs.Tables.{from_text}
use Rattle.dns_sqlite.specs.Statements.{HasRecords}
use Rattle.dns_sqlite.specs.Reads.{HasPage, IsKept, ShowsPage}
use Rattle.dns_sqlite.proofs.Queries.{fails_query, stays}
use Rattle.dns_sqlite.proofs.Selects.{from_bare, shows_nothing}
use Rattle.dns_sqlite.proofs.Streams.{begun, on_ok, on_either, ok_both}
use Rattle.dns_sqlite.proofs.reads.select_rows_from.Goals as goal

pub returns-in_err-shown-clause-asked : goal.returns-in_err-shown-clause-asked
returns-in_err-shown-clause-asked g c =
    let old = state g.S.Store c.args.conn.now in
    let last = state g.S.Store c.query.follows.lender-at-none in
    let refused = rw c.in_err-shown.was at c.query.follows.holds-at-none in
    record {
      alone = search rules;
      falls = search rules;
      kept = λ alone clean live.
          let settled = c.is_autocommit-settled.ensures.settled (c.is_autocommit-settled.ensures.value ∙ ap not alone) in
          stays old last settled (fails_query old last _ _ _ (refused.err clean)) live;
      left = λ clean db may.
          elim (refused.survives.crash clean db may) [
            | inl before ↦ before
            | inr shows ↦ absurd (shows_nothing from_text from_bare _ old db shows)
          ];
    }

pub returns-clause-opened : goal.returns-clause-opened
returns-clause-opened g c clean =
    let old = c.args.conn.now in
    let mid = c.in_ok-shown.shown.conn.now in
    let new = c.take_rows.new.shown.conn.now in
    let same : new ≡ c.conn-2-1.given.0 = search rules in
    let clear : HasCleanDisk (state g.S.Store new) = subst (λ h. HasCleanDisk (state g.S.Store h)) (sym same) clean in
    let start = begun g.S.Store old mid _ (c.in_ok-shown.ensures.begun (omega (arith, c.take_rows.ensures.survives.clean, clear))) in
    on_ok c.take_rows.result _ start.1.0.was_open

pub returns-clause-found : goal.returns-clause-found
returns-clause-found g c =
    let old = c.args.conn.now in
    let mid = c.in_ok-shown.shown.conn.now in
    let new = c.take_rows.new.shown.conn.now in
    let same : new ≡ c.conn-2-1.given.0 = search rules in
    ok_both c.take_rows.result _ (λ rows. ShowsPage g.S.Store c.args.id old c.conn-2-1.given.0 rows.items) _ c.take_rows.ensures.found c.take_rows.ensures.same (λ rows found stays clean has.
    let clear : HasCleanDisk (state g.S.Store new) = subst (λ h. HasCleanDisk (state g.S.Store h)) (sym same) clean in
    let at : HasBegun g.S.Store from_text (Int c.args.id ∷ []) old mid = rw (c.params-to_sql.ensures, to_z-of_z w64 c.args.id c.ranges.id) at (c.in_ok-shown.ensures.begun (omega (arith, c.take_rows.ensures.survives.clean, clear))) in
    let start = begun g.S.Store old mid _ at in
    let unmoved = start.1 in
    let page = found clear unmoved.0.is_open (subst HasRecords (sym unmoved.0.now_is) has) c.args.id start.0 in
    let later = stays clear unmoved.0.is_open in
    (subst (λ (d : Database). HasPage c.args.id (d.trees 1) rows.items) unmoved.0.now_is page, subst (λ h. IsUnchanged (state g.S.Store old) (state g.S.Store h)) same (unchanged_then (state g.S.Store old) (state g.S.Store mid) (state g.S.Store new) unmoved later)))

pub returns-clause-asked : goal.returns-clause-asked
returns-clause-asked g c =
    let old = c.args.conn.now in
    let mid = c.in_ok-shown.shown.conn.now in
    let new = c.take_rows.new.shown.conn.now in
    let same : new ≡ c.conn-2-1.given.0 = search rules in
    record {
      alone = search rules;
      falls = search rules;
      kept = λ alone clean live.
          let clear : HasCleanDisk (state g.S.Store new) = subst (λ h. HasCleanDisk (state g.S.Store h)) (sym same) clean in
          let start = begun g.S.Store old mid _ (c.in_ok-shown.ensures.begun (omega (arith, c.take_rows.ensures.survives.clean, clear))) in
          let unmoved = start.1 in
          let settled = c.is_autocommit-settled.ensures.settled (c.is_autocommit-settled.ensures.value ∙ ap not alone) in
          let up = subst (λ h. IsTrue (state g.S.Store h).is_open) (sym same) live in
          let kept : IsKept (state g.S.Store mid) (state g.S.Store new) = on_either c.take_rows.result _ _ _ c.take_rows.ensures.same c.take_rows.ensures.kept (λ stays. inl (stays clear unmoved.0.is_open)) (λ undone. undone clear unmoved.0.is_open) in
          let stayed = stays (state g.S.Store mid) (state g.S.Store new) (λ is_open. unmoved.0.now_is ∙ settled unmoved.0.was_open ∙ sym unmoved.0.committed_is) kept up in
          (unmoved.0.was_open, subst (λ h. (state g.S.Store h).now ≡ (state g.S.Store old).now) same (stayed.1 ∙ unmoved.0.now_is));
      left = λ clean db may.
          let clear : HasCleanDisk (state g.S.Store new) = subst (λ h. HasCleanDisk (state g.S.Store h)) (sym same) clean in
          let later = c.take_rows.ensures.survives in
          elim (later.crash clear db (subst (λ h. (state g.S.Store h).may_leave db) (sym same) may)) [
            | inl then ↦ elim (c.in_ok-shown.ensures.survives.crash (omega (arith, later.clean, clear)) db then) [
              | inl before ↦ before
              | inr shows ↦ absurd (shows_nothing from_text from_bare _ (state g.S.Store old) db shows)
            ]
            | inr none ↦ absurd none
          ];
    }
