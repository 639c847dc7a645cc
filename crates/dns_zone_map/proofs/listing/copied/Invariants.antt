use Rattle.std.proofs.Common.{◌≡◌, ◌++◌, drop, map}
use Rattle.dns_zone_map.proofs.listing.copied.Given as goal

abbrev pub invariant-loop-one : goal.invariant-loop-one
invariant-loop-one l = l.copies.items ++ map (λ r. r.now) (drop l.one-index l.records) ≡ map (λ r. r.now) l.records
