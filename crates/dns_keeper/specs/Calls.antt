-- What the calls of a keeper do: to what it tells, and to the rows and batches that a crash may leave.
use Rattle.std.specs.Prelude.{◌≡◌, ◌<◌, ◌^◌, ℕ, ℤ, pos, neg_ℤ, List, length, Option, Result, IfOk, OnOk, OnErr}
use Rattle.dns_io.specs.Told.{Keeps}
use Rattle.dns_wire.specs.declared.record.Record.{Record}
use Rattle.dns_keeper.specs.declared.row.Row.{Row}
use Rattle.dns_keeper.specs.declared.batch_row.BatchRow.{BatchRow}
use Rattle.dns_keeper.specs.declared.keeper.KeepFault.{KeepFault}
use Rattle.dns_keeper.specs.Keeping.{KeeperOf, GrowsByBatch, GrowsByRun, KeepsBatches, TellsAscending, TellsByFirst, IsRowFrom, IsFirstRow, HasCause}
use Rattle.dns_keeper.specs.Keeping.{IsBatchFrom, IsFirstBatch}
use Rattle.dns_keeper.specs.Crash.{LeavesTold, LeavesNoOther, LeavesWhole}

-- an append of records: where it is done the whole batch came to the rows and to the batches, and where there are records a crash leaves
-- just these; where it is refused both are as before, and a crash leaves what it might leave before, or both with the whole batch
pub record Appends {K : Type 0} (keeper : KeeperOf K) (old new : K) (client serial moment : ℕ) (records : List Record) (result : Result (Unit {0}) KeepFault) : Type 0 where
  pub ok : OnOk result (GrowsByBatch (keeper.told old).rows (keeper.told new).rows client serial moment records)
  pub run : OnOk result (GrowsByRun (keeper.told old) (keeper.told new) records)
  pub err : OnErr result (Keeps (keeper.told old).rows (keeper.told new).rows)
  pub batches : OnErr result (KeepsBatches (keeper.told old) (keeper.told new))
  pub ascending : TellsAscending (keeper.told new).rows
  pub by_first : TellsByFirst (keeper.told new)
  pub alone : 0 < length records → OnOk result (LeavesTold (keeper.told new) (keeper.may_leave new))
  pub left : LeavesWhole (keeper.told old) client serial moment records (keeper.may_leave old) (keeper.may_leave new)
  pub cause : HasCause (keeper.told old).faults (keeper.told new).faults result

-- a reading of the row with the least id that is not below this one: it changes nothing, and a crash leaves nothing else than before
pub record ReadsRow {K : Type 0} (keeper : KeeperOf K) (old new : K) (id : ℤ) (result : Result (Option Row) KeepFault) : Type 0 where
  pub found : IfOk result (IsRowFrom (keeper.told new).rows id)
  pub first : id ≡ neg_ℤ (pos (2 ^ 63)) → IfOk result (IsFirstRow (keeper.told new).rows)
  pub ascending : TellsAscending (keeper.told new).rows
  pub kept : Keeps (keeper.told old).rows (keeper.told new).rows
  pub batches : KeepsBatches (keeper.told old) (keeper.told new)
  pub left : LeavesNoOther (keeper.may_leave old) (keeper.may_leave new)
  pub cause : HasCause (keeper.told old).faults (keeper.told new).faults result

-- a reading of the batch of least first that is not below this id: it changes nothing, and a crash leaves nothing else than before
pub record ReadsBatch {K : Type 0} (keeper : KeeperOf K) (old new : K) (id : ℤ) (result : Result (Option BatchRow) KeepFault) : Type 0 where
  pub found : IfOk result (IsBatchFrom (keeper.told new) id)
  pub first : id ≡ neg_ℤ (pos (2 ^ 63)) → IfOk result (IsFirstBatch (keeper.told new))
  pub by_first : TellsByFirst (keeper.told new)
  pub kept : Keeps (keeper.told old).rows (keeper.told new).rows
  pub batches : KeepsBatches (keeper.told old) (keeper.told new)
  pub left : LeavesNoOther (keeper.may_leave old) (keeper.may_leave new)
  pub cause : HasCause (keeper.told old).faults (keeper.told new).faults result
