use Rattle.std.proofs.Common.{◌≡◌, ◌++◌, None}
use Rattle.dns_zone_map.specs.Zone.{IsSoFar}
use Rattle.dns_zone_map.proofs.zone_map.numbered_anew.Given as goal

abbrev pub invariant-loop-one : goal.invariant-loop-one
invariant-loop-one l = record {
  top : l.anew.origin ≡ l.fn.origin;
  some : IsSoFar l.anew.origin l.anew.records;
  all : IsSoFar l.fn.origin (l.anew.records ++ l.one-iterator.rest.items);
  alone : l.anew.before ≡ None;
  rest : l.anew.records ++ l.one-iterator.rest.items ≡ l.fn.records;
}
