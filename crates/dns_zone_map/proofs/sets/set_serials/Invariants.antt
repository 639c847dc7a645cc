use Rattle.std.proofs.Common.{◌≡◌, ◌++◌, length, take, drop}
use Rattle.dns_zone_map.specs.Changes.{set_serial}
use Rattle.dns_zone_map.proofs.sets.set_serials.Given as goal

abbrev pub invariant-loop-place : goal.invariant-loop-place
invariant-loop-place l = record {
  long : length l.records.items ≡ length l.fn.records.items;
  all : take l.place l.records.items ++ set_serial l.serial (drop l.place l.records.items) ≡ set_serial l.serial l.fn.records.items;
}
