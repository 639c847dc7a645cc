-- The rows before the place were seen, and the next one is read.
use Rattle.std.proofs.Common.{Ok}
use Rattle.dns_follow.specs.Feeding.{ReadsJournal}
use Rattle.dns_follow.specs.Scanning.{IsScannedUpTo}
use Rattle.dns_follow.proofs.scanning.scan.Given as goal

abbrev pub invariant-loop-place : goal.invariant-loop-place
invariant-loop-place g l = record {
  read : IsScannedUpTo l.from l.runs l.rows.items l.unfit l.place l.next (g.K.Keeper.keeper.told l.keeper).rows;
  reads : ReadsJournal {T = Unit {0}} g.K.Keeper.keeper l.fn.keeper l.keeper (Ok tt);
}
