use Rattle.std.proofs.Common.{◌≡◌, true, IsTrue, take}
use Rattle.sqlite.specs.State.{HasCleanDisk, Survives, KeepsCommit}
use Rattle.sqlite.specs.Held.{state}
use Rattle.dns_sqlite.specs.Statements.{HasTables}
use Rattle.dns_sqlite.specs.Batch.{PutsAll}
use Rattle.dns_sqlite.proofs.writes.insert_rows.Given as goal

abbrev pub invariant-loop-bytes : goal.invariant-loop-bytes
invariant-loop-bytes g l =
    let old = state g.S.Store l.fn.tx.conn.now in
    let now = state g.S.Store l.tx.conn.now in
    (l.tx.conn.ghost_name ≡ l.fn.tx.conn.ghost_name)
    × Survives old now (λ _. ⊥)
    × (HasCleanDisk now → IsTrue old.in_transaction → KeepsCommit old now × (now.in_transaction ≡ true))
    × (HasCleanDisk now → IsTrue old.in_transaction → HasTables old.now → PutsAll l.client l.serial l.stamp (take l.bytes-index l.records) old now)
