use Rattle.std.proofs.Common.{true, inr, sym, ap, not, subst, ◌∙◌}
use Rattle.sqlite.specs.Held.{state}
use Rattle.sqlite.specs.Effect.{Database}
use Rattle.sqlite_trees.proofs.Doubt.{no_doubt}
use Rattle.dns_sqlite.specs.Versions.{IsVersion}
use Rattle.dns_journal.specs.Told.{IsReady}
use Rattle.dns_journal.proofs.Telling.{tells, batches_as}
use Rattle.dns_journal.proofs.laws.left_by_a_crash.Goals as goal

pub returns-clause-left : goal.returns-clause-left
returns-clause-left g c kept e =
    let s = state g.S.Store c.journal.inside.conn in
    let version = c.journal.inside.version in
    let it = tells c.journal.inside.ready s kept.rows (rw (← c.journal.view_is) at e.rows) in
    let ready : IsReady true version s = subst (λ b. IsReady b version s) it.ready c.journal.invariant.ready in
    let clean = no_doubt s.is_clean it.clean in
    let tables = ready.2 clean it.live in
    let at = subst (λ n. IsVersion n (s.now.trees 0)) ready.0 (c.journal.invariant.fits clean it.live (inr (inr tables))) in
    let same = c.is_autocommit-settled.ensures.settled (c.is_autocommit-settled.ensures.value ∙ ap not ready.1) it.live in
    let batches = batches_as (s.now.trees 2) it.batches kept.batches it.batches_are (rw (← c.journal.view_is) at e.batches) in
    rw (← c.journal.view_is) (record {
      db = s.committed.trees;
      left = g.met.S.Store.stays c.journal.inside.conn.store it.live;
      opens = (s.now, record { tables = tables; sound = (c.schema-schema.ensures.live it.live).0; version = at; rows = it.told; batches = batches }, sym (ap (λ (d : Database). d.trees) same));
    })
