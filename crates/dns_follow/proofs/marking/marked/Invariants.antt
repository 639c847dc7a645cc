-- The rows so far were marked.
use Rattle.std.proofs.Common.{Ok}
use Rattle.std.specs.Prelude.{IfSome}
use Rattle.dns_follow.specs.Feeding.{ReadsJournal}
use Rattle.dns_follow.specs.Scanning.{IsMarkedUpTo}
use Rattle.dns_follow.proofs.marking.marked.Given as goal

abbrev pub invariant-loop-row : goal.invariant-loop-row
invariant-loop-row g l = record {
  read : IfSome (g.K.Keeper.keeper.told l.keeper).rows (IsMarkedUpTo l.rows l.last l.row-index l.frames.items l.end (g.K.Keeper.keeper.told l.keeper).batches);
  reads : ReadsJournal {T = Unit {0}} g.K.Keeper.keeper l.fn.keeper l.keeper (Ok tt);
}
