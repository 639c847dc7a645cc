-- Those from the place on are later.
use Rattle.std.proofs.Common.{◌≤◌, ◌<◌, length, drop}
use Rattle.std.specs.List.{AllByRecursion}
use Rattle.dns_readiness.proofs.order.place_for.Given as goal

abbrev pub invariant-loop-place : goal.invariant-loop-place
invariant-loop-place l =
    record {
      inside : l.place ≤ length l.entries.items;
      behind : AllByRecursion (λ e. l.at < e.0) (drop l.place l.entries.items);
    }

abbrev pub decreases-loop-place : goal.decreases-loop-place
decreases-loop-place l = l.place
