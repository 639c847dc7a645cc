use Rattle.std.proofs.Common.{◌≡◌}
use Rattle.std.specs.Prelude.{IfSome}
use Rattle.dns_io.specs.Told.{Keeps}
use Rattle.dns_keeper.specs.Keeping.{KeepsBatches}
use Rattle.dns_keeper.specs.Crash.{LeavesNoOther}
use Rattle.dns_store.specs.Listing.{IsListedUpTo}
use Rattle.dns_store.proofs.listing.list_all.Given as goal

abbrev pub invariant-loop : goal.invariant-loop
invariant-loop g l = record {
  read : IfSome (g.K.Keeper.keeper.told l.keeper).rows (IsListedUpTo l.listed.items l.next (g.K.Keeper.keeper.told l.keeper).batches);
  kept : Keeps (g.K.Keeper.keeper.told l.fn.keeper).rows (g.K.Keeper.keeper.told l.keeper).rows;
  batches : KeepsBatches (g.K.Keeper.keeper.told l.fn.keeper) (g.K.Keeper.keeper.told l.keeper);
  left : LeavesNoOther (g.K.Keeper.keeper.may_leave l.fn.keeper) (g.K.Keeper.keeper.may_leave l.keeper);
  uncounted : (g.K.Keeper.keeper.told l.keeper).faults ≡ (g.K.Keeper.keeper.told l.fn.keeper).faults;
}
