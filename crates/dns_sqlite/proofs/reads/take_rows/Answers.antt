use Rattle.std.proofs.Common.{◌≡◌, ◌∙◌, ◌++◌, ◌∷◌, [], sym, subst, arith, Some, None}
use Rattle.sqlite.specs.declared.types.Value.TheVariants.{Int}
use Rattle.sqlite.specs.Given.{GivesOn, row_if}
use Rattle.sqlite.specs.State.{HasCleanDisk}
use Rattle.sqlite.specs.Held.{state}
use Rattle.sqlite.proofs.StateLemmas.{survives_then}
use Rattle.sqlite.proofs.Callers.{unchanged_then}
use Rattle.dns_sqlite.specs.Tables.{from_text}
use Rattle.dns_sqlite.specs.Reads.{AreRead}
use Rattle.dns_sqlite.proofs.Streams.{read_more, not_none, whole_page, part_page}
use Rattle.dns_sqlite.proofs.reads.take_rows.Goals as goal

pub returns-in_default-clause-found : goal.returns-in_default-clause-found
returns-in_default-clause-found g c clean live has id begun =
    let was = c.loop.invariant in
    let early : HasCleanDisk (state g.S.Store c.loop.shown.conn.now) = omega (arith, c.advance.ensures.survives.clean, clean) in
    let given = was.4 early id begun in
    let new = c.advance.new.self in
    let none : row_if new.has_row new.conn.now ≡ None = sym c.in_default.ensures in
    let ends = subst (GivesOn g.S.Store from_text (Int id ∷ []) c.loop.shown.conn.now new.conn.now given.0) none (c.in_ok-advance.ensures.ok clean from_text (Int id ∷ []) given.0 given.1) in
    whole_page g.S.Store c.args.shown.now.conn.now c.loop.shown.conn.now id given.0 c.loop.rows.items has (was.3 early live).0.now_is given.1 given.2 new.conn.now ends

pub returns-in-Err-clause-found : goal.returns-in-Err-clause-found
returns-in-Err-clause-found g c clean live has id begun =
    let was = c.loop.invariant in
    let early : HasCleanDisk (state g.S.Store c.loop.shown.conn.now) = omega (arith, c.advance.ensures.survives.clean, clean) in
    let given = was.4 early id begun in
    part_page g.S.Store c.args.shown.now.conn.now c.loop.shown.conn.now id given.0 c.loop.rows.items has (was.3 early live).0.now_is given.1 given.2 (was.3 early live).0.is_open (omega (arith, c.loop.rows.ok, not_none c.loop.rows.len (sym c.is_empty.ensures ∙ c.if-is_empty.false)))

pub loop-preserved : goal.loop-preserved
loop-preserved g c =
    let was = c.loop.invariant in
    let one = c.in_ok-advance.ensures in
    let old = c.args.shown.now.conn.now in
    let mid = c.loop.shown.conn.now in
    let new = c.advance.new.self in (
      one.same_reference ∙ was.0,
      (λ alone. one.mode (was.1 alone)),
      survives_then _ _ _ _ _ (λ _. ⊥) (λ _ db none. none) (λ _ db none. none) was.2 one.survives,
      (λ clean live. unchanged_then (state g.S.Store old) (state g.S.Store mid) (state g.S.Store new.conn.now) (was.3 (omega (arith, one.survives.clean, clean)) live) (one.same clean)),
      λ clean id begun.
          let given = was.4 (omega (arith, one.survives.clean, clean)) id begun in
          let some : row_if new.has_row new.conn.now ≡ Some c.in-Some.row.now = sym c.in-Some.ensures in
          let more = subst (GivesOn g.S.Store from_text (Int id ∷ []) mid new.conn.now given.0) some (one.ok clean from_text (Int id ∷ []) given.0 given.1) in
          (given.0 ++ c.in-Some.row.now ∷ [], more, subst (AreRead (given.0 ++ c.in-Some.row.now ∷ [])) (sym c.in_ok-push-in-Ok.ensures) (read_more given.0 c.loop.rows.items c.in-Some.row.now c.in-Ok.one given.2 c.in-Ok.ensures)),
    )
