use Rattle.std.proofs.Common.{◌≡◌, drop, take, ◌++◌}
use Rattle.std.specs.List.{list_any}
use Rattle.dns_zone_map.specs.Zone.{is_rival}
use Rattle.dns_zone_map.specs.Changes.{put_over, first_that}
use Rattle.dns_zone_map.proofs.rival.replace_rival.Given as goal

abbrev pub invariant-loop-place : goal.invariant-loop-place
invariant-loop-place l = record {
  same : l.records.items ≡ l.fn.records.items;
  here : take l.place l.records.items ++ put_over (is_rival l.one) l.one (drop l.place l.records.items) ≡ put_over (is_rival l.one) l.one l.records.items;
  any : list_any (is_rival l.one) (drop l.place l.records.items) ≡ list_any (is_rival l.one) l.records.items;
  first : first_that (is_rival l.one) (drop l.place l.records.items) ≡ first_that (is_rival l.one) l.records.items;
}
