use Rattle.std.proofs.Common.{◌≡◌, refl, subst, arith, rules}
use Rattle.sqlite.specs.State.{HasCleanDisk, Survives}
use Rattle.sqlite.specs.Held.{state}
use Rattle.sqlite.proofs.StateLemmas.{survives_then}
use Rattle.sqlite.proofs.Callers.{survives_begin}
use Rattle.dns_sqlite.specs.Migration.{MayBecomeCurrent}
use Rattle.dns_sqlite.proofs.Statements.{not_done}
use Rattle.dns_sqlite.proofs.schema.schema_up.Goals as goal

pub returns-in_err-_made : goal.returns-in_err-_made
returns-in_err-_made g c = record {
  done = record {
    alone = search rules;
    falls = search rules;
    opened = λ _. not_done c.from_residual.result _ c.from_residual.ensures.0;
    made = λ _ _. not_done c.from_residual.result _ c.from_residual.ensures.0;
    kept = search rules;
    crash = λ _. not_done c.from_residual.result _ c.from_residual.ensures.0;
    survives = search rules;
  };
}

pub returns : goal.returns
returns g c =
    let old = c.args.conn.now in
    let mid = c.make_current.new.tx.conn.now in
    let end = c.commit.new.self.0 in
    let begun = c.transaction-tx.ensures.begun in
    let P = MayBecomeCurrent c.args.start c.args.batches.now (state g.S.Store old) in
    let early = λ (clean : HasCleanDisk (state g.S.Store end)). let it : HasCleanDisk (state g.S.Store mid) = omega (arith, c.commit.ensures.survives.clean) in it in
    let tables = c.in_ok-_made.ensures.done in
    let opened = λ (clean : HasCleanDisk (state g.S.Store mid)). (rw begun at (tables.done.kept clean (rw begun refl))).was_open (tables.opened clean (rw begun refl)) in
    let whole = survives_then (state g.S.Store old) (state g.S.Store mid) (state g.S.Store end) _ _ P (λ _ db none. absurd none)
    (λ clean db is. (
      opened (early clean),
      λ before.
          let it = rw begun at (tables.done.made (early clean) (rw begun refl) (rw begun before)) in
          ((state g.S.Store mid).now, it.made, it.sound, is),
    ))
    (survives_begin g.S.Store old (state g.S.Store mid) _ (rw begun at tables.done.survives)) c.commit.ensures.survives in
    let same : end ≡ c.conn-2-1.given.0 = search rules in
    record {
      done = record {
        alone = search rules;
        falls = search rules;
        opened = search rules;
        made = search rules;
        kept = search rules;
        crash = search rules;
        survives = subst (λ h. Survives (state g.S.Store old) (state g.S.Store h) P) same whole;
      };
    }
