use Rattle.std.proofs.Common.{◌≡◌}
use Rattle.std.specs.Prelude.{IfSome}
use Rattle.dns_io.specs.Told.{Keeps}
use Rattle.dns_keeper.specs.Keeping.{KeepsBatches}
use Rattle.dns_keeper.specs.Crash.{LeavesNoOther}
use Rattle.dns_store.specs.Front.{IsFrontReadUpTo}
use Rattle.dns_store.proofs.front.replay_front.Given as goal

abbrev pub invariant-loop-rows : goal.invariant-loop-rows
invariant-loop-rows g l = record {
  read : IfSome (g.K.Keeper.keeper.told l.keeper).rows (IsFrontReadUpTo l.origin l.state l.rows l.last);
  kept : Keeps (g.K.Keeper.keeper.told l.fn.keeper).rows (g.K.Keeper.keeper.told l.keeper).rows;
  batches : KeepsBatches (g.K.Keeper.keeper.told l.fn.keeper) (g.K.Keeper.keeper.told l.keeper);
  left : LeavesNoOther (g.K.Keeper.keeper.may_leave l.fn.keeper) (g.K.Keeper.keeper.may_leave l.keeper);
  uncounted : (g.K.Keeper.keeper.told l.keeper).faults ≡ (g.K.Keeper.keeper.told l.fn.keeper).faults;
}
