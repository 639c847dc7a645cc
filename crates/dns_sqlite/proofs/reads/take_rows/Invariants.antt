use Rattle.std.proofs.Common.{◌≡◌, ℤ, List, [], ◌∷◌, false, IsTrue}
use Rattle.sqlite.specs.declared.types.Value.TheVariants.{Int}
use Rattle.sqlite.specs.Order.{Row as Shown}
use Rattle.sqlite.specs.Given.{HasGiven}
use Rattle.sqlite.specs.State.{HasCleanDisk, IsUnchanged, Survives}
use Rattle.sqlite.specs.Held.{state}
use Rattle.dns_sqlite.specs.Tables.{from_text}
use Rattle.dns_sqlite.specs.Reads.{AreRead}
use Rattle.dns_sqlite.proofs.reads.take_rows.Given as goal

abbrev pub invariant-loop : goal.invariant-loop
invariant-loop g l =
    let old = state g.S.Store l.fn.shown.conn.now in
    let now = state g.S.Store l.shown.conn.now in
    (l.shown.conn.ghost_name ≡ l.fn.shown.conn.ghost_name)
    × (l.fn.shown.conn.now.in_transaction ≡ false → l.shown.conn.now.in_transaction ≡ false)
    × Survives old now (λ _. ⊥)
    × (HasCleanDisk now → IsTrue old.is_open → IsUnchanged old now)
    × (HasCleanDisk now → (id : ℤ) → HasGiven g.S.Store from_text (Int id ∷ []) l.fn.shown.conn.now [] → (given : List Shown) × HasGiven g.S.Store from_text (Int id ∷ []) l.shown.conn.now given × AreRead given l.rows.items)
