use Rattle.std.proofs.Common.{sym, subst}
use Rattle.dns_keeper.specs.Batches.{AreByFirst}
use Rattle.dns_keeper.proofs.RunsAscend.{runs_by_first}
use Rattle.dns_keeper.proofs.memory.MemoryKeeper.from_rows.Goals as goal

pub from_parts-requires-clause-batches : goal.from_parts-requires-clause-batches
from_parts-requires-clause-batches c = subst AreByFirst (sym (rw c.as_slice.ensures.value at c.in_ok-batches.ensures)) (runs_by_first c.args.rows.items c.requires)
