use Rattle.std.proofs.Common.{◌≡◌, drop}
use Rattle.std.specs.List.{AllByRecursion}
use Rattle.dns_zone_map.specs.Zone.{IsZone}
use Rattle.dns_update.specs.Change.{steps}
use Rattle.dns_update.specs.Replay.{IsJournalledAsIs}
use Rattle.dns_update.proofs.batch.apply_each.Given as goal

abbrev pub invariant-loop-one : goal.invariant-loop-one
invariant-loop-one l = record {
  origin : l.map.origin ≡ l.fn.map.origin;
  zone : IsZone l.map.origin l.map.records;
  left : AllByRecursion (IsJournalledAsIs l.map.origin) (drop l.one-index l.batch);
  made : steps l.map.origin l.map.records (drop l.one-index l.batch) ≡ steps l.fn.map.origin l.fn.map.records l.batch;
  undo : l.map.before ≡ l.fn.map.before;
}
