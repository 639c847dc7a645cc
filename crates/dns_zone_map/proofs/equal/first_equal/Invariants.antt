use Rattle.std.proofs.Common.{◌≡◌, take, drop, false}
use Rattle.std.specs.List.{AllByRecursion, list_any}
use Rattle.dns_zone_map.specs.Zone.{is_equal}
use Rattle.dns_zone_map.proofs.equal.first_equal.Given as goal

abbrev pub invariant-loop-place : goal.invariant-loop-place
invariant-loop-place l = record {
  first : AllByRecursion (λ r. is_equal l.one r ≡ false) (take l.place l.records);
  any : list_any (is_equal l.one) (drop l.place l.records) ≡ list_any (is_equal l.one) l.records;
}
