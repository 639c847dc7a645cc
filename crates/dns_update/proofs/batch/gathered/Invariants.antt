use Rattle.std.proofs.Common.{◌≡◌, drop}
use Rattle.dns_zone_map.specs.Mapped.{contents}
use Rattle.dns_update.specs.UnderWay.{IsUnderWay}
use Rattle.dns_update.proofs.batch.gathered.Given as goal

abbrev pub invariant-loop-one : goal.invariant-loop-one
invariant-loop-one l = record {
  under_way : IsUnderWay (contents l.fn.map) l.updates (drop l.one-index l.updates) (contents l.map) l.work.records.items l.work.modified;
  undo : l.map.before ≡ l.fn.map.before;
}
