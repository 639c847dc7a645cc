-- The number can only be between `low` and `high`: in front of them all are smaller, and behind them all are greater.
use Rattle.std.proofs.Common.{ℕ, ◌≤◌, ◌<◌, ◌-◌, length}
use Rattle.dns_connections.specs.Links.{link_at}
use Rattle.dns_connections.proofs.links.place_of.Given as goal

abbrev pub invariant-loop-low : goal.invariant-loop-low
invariant-loop-low g l =
    record {
      order : l.low ≤ l.high;
      inside : l.high ≤ length l.links.items;
      below : (other : ℕ) → other < l.low → (link_at l.links.items other).number < l.number;
      above : (other : ℕ) → l.high ≤ other → other < length l.links.items → l.number < (link_at l.links.items other).number;
    }

abbrev pub decreases-loop-low : goal.decreases-loop-low
decreases-loop-low g l = l.high - l.low
