use Rattle.std.proofs.Common.{take}
use Rattle.std.specs.List.{AllByRecursion}
use Rattle.dns_wire.specs.ReadBack.{IsRecord}
use Rattle.dns_wire.specs.Kept.{IsKept}
use Rattle.dns_wire.proofs.kept.kept_records.Given as goal

abbrev pub invariant-loop-one : goal.invariant-loop-one
invariant-loop-one l = record {
  ranges : AllByRecursion IsRecord (take l.one-index l.records);
  bytes : AllByRecursion IsKept (take l.one-index l.records);
}
