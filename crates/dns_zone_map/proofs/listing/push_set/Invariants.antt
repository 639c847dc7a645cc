use Rattle.std.proofs.Common.{◌≡◌, ◌++◌, drop}
use Rattle.dns_zone_map.specs.Order.{numbered}
use Rattle.dns_zone_map.proofs.listing.push_set.Given as goal

abbrev pub invariant-loop-place : goal.invariant-loop-place
invariant-loop-place l = l.all.items ++ numbered (drop l.place l.numbers) (drop l.place l.records) ≡ l.fn.all.items ++ numbered l.numbers l.records
