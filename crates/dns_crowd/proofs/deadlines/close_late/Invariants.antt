-- Those that are late are closed, or they still stand in the order before the moment.
use Rattle.std.proofs.Common.{◌≡◌}
use Rattle.std.specs.List.{AllByRecursion}
use Rattle.dns_server_core.specs.Order.{Climbs}
use Rattle.dns_crowd.specs.Tables.{IsTimed, KeepsTable, ShutsSome, count_before}
use Rattle.dns_crowd.specs.Turns.{IsUnasked, late_numbers, timely}
use Rattle.dns_crowd.proofs.deadlines.close_late.Given as goal

abbrev pub invariant-loop-number : goal.invariant-loop-number
invariant-loop-number g l =
    record {
      climbs : Climbs l.sessions;
      timed : AllByRecursion (IsTimed l.last l.order) l.sessions;
      alike : timely l.last l.sessions ≡ timely l.last l.fn.sessions;
      shut : ShutsSome (g.C.Crowd.told l.fn.crowd).closed (g.C.Crowd.told l.crowd).closed (late_numbers l.last l.fn.sessions) (late_numbers l.last l.sessions);
      kept : KeepsTable l.fn.sessions l.sessions;
      unasked : IsUnasked (g.C.Crowd.told l.fn.crowd) (g.C.Crowd.told l.crowd);
    }

abbrev pub decreases-loop-number : goal.decreases-loop-number
decreases-loop-number g l = count_before l.last l.order
