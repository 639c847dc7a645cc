use Rattle.std.proofs.Common.{Option, drop}
use Rattle.dns_keeper.specs.declared.row.Row.{Row}
use Rattle.dns_keeper.specs.Packed.{joined, IsFound}
use Rattle.dns_keeper.proofs.packed_rows.first_packed.Given as goal

-- what is found in the lists that are left is found in all
abbrev pub invariant-loop-rows : goal.invariant-loop-rows
invariant-loop-rows l = (found : Option Row) → IsFound l.id (joined (drop l.rows-index l.packed)) found → IsFound l.id (joined l.packed) found
