use Rattle.std.proofs.Common.{◌≡◌, ◌++◌, drop, map}
use Rattle.dns_zone_map.specs.Order.{plain}
use Rattle.dns_zone_map.proofs.listing.without_numbers.Given as goal

abbrev pub invariant-loop-listed : goal.invariant-loop-listed
invariant-loop-listed l = map (λ r. r.now) l.records.items ++ map plain (drop l.listed-index l.all) ≡ map plain l.all
