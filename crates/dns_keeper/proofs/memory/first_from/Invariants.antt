use Rattle.std.proofs.Common.{◌≡◌, ◌^◌, drop, pos, neg_ℤ}
use Rattle.dns_keeper.specs.Rows.{first_from}
use Rattle.dns_keeper.proofs.memory.first_from.Given as goal

abbrev pub invariant-loop-row : goal.invariant-loop-row
invariant-loop-row l =
    (first_from l.id (drop l.row-index l.rows) ≡ first_from l.id l.rows)
    × (l.id ≡ neg_ℤ (pos (2 ^ 63)) → l.row-index ≡ 0)
