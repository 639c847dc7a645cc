-- Those before `low` have a smaller number, and those from `high` on a greater one, where they are in order.
use Rattle.std.proofs.Common.{◌<◌, ◌≤◌, ◌-◌, length, take, drop}
use Rattle.std.specs.List.{AllByRecursion}
use Rattle.dns_server_core.specs.Order.{Climbs}
use Rattle.dns_crowd.specs.Slots.{all_in}
use Rattle.dns_crowd.proofs.sessions.slot_of.Given as goal

abbrev pub invariant-loop-low : goal.invariant-loop-low
invariant-loop-low l =
    record {
      order : l.low ≤ l.high;
      inside : l.high ≤ length l.slots;
      before : Climbs (all_in l.slots) → AllByRecursion (λ k. k.number < l.number) (take l.low (all_in l.slots));
      behind : Climbs (all_in l.slots) → AllByRecursion (λ k. l.number < k.number) (drop l.high (all_in l.slots));
    }

abbrev pub decreases-loop-low : goal.decreases-loop-low
decreases-loop-low l = l.high - l.low
