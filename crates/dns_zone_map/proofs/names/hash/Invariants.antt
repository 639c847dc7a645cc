use Rattle.std.proofs.Common.{◌≡◌, ◌<◌, ◌^◌, drop}
use Rattle.dns_zone_map.specs.Table.{hash_from}
use Rattle.dns_zone_map.proofs.names.hash.Given as goal

abbrev pub invariant-loop-byte : goal.invariant-loop-byte
invariant-loop-byte l = record {
  is : hash_from l.hash (drop l.byte-index l.label) ≡ hash_from 0 l.label;
  short : l.hash < 2 ^ 32;
}
