use Rattle.std.proofs.Common.{◌≡◌, List, map, take}
use Rattle.dns_keeper.specs.declared.batch_row.BatchRow.{BatchRow}
use Rattle.dns_sqlite.specs.Tables.{shown_batch}
use Rattle.dns_sqlite.proofs.batch_reads.batches_in.Given as goal

abbrev pub invariant-loop-row : goal.invariant-loop-row
invariant-loop-row l = (found : List BatchRow) → l.rows ≡ map shown_batch found → l.batches.items ≡ take l.row-index found
