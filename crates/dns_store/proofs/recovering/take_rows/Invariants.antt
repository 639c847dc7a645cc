use Rattle.std.proofs.Common.{◌≡◌}
use Rattle.std.specs.Prelude.{IfSome}
use Rattle.dns_name.specs.Name.{fold_of}
use Rattle.dns_io.specs.Told.{Keeps}
use Rattle.dns_keeper.specs.Keeping.{KeepsBatches}
use Rattle.dns_keeper.specs.Crash.{LeavesNoOther}
use Rattle.dns_store.specs.Recovering.{IsReadUpTo}
use Rattle.dns_store.proofs.recovering.take_rows.Given as goal

abbrev pub invariant-loop-row_count : goal.invariant-loop-row_count
invariant-loop-row_count g l = record {
  origin : l.replaying.origin ≡ fold_of l.origin;
  read : IfSome (g.K.Keeper.keeper.told l.keeper).rows (IsReadUpTo l.replaying l.runs l.row_count l.next);
  kept : Keeps (g.K.Keeper.keeper.told l.fn.keeper).rows (g.K.Keeper.keeper.told l.keeper).rows;
  batches : KeepsBatches (g.K.Keeper.keeper.told l.fn.keeper) (g.K.Keeper.keeper.told l.keeper);
  left : LeavesNoOther (g.K.Keeper.keeper.may_leave l.fn.keeper) (g.K.Keeper.keeper.may_leave l.keeper);
  uncounted : (g.K.Keeper.keeper.told l.keeper).faults ≡ (g.K.Keeper.keeper.told l.fn.keeper).faults;
}
