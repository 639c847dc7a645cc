-- It is within its time so far, and what is left to look at is as much again as one step.
use Rattle.std.proofs.Common.{◌≡◌, ◌≤◌, ◌+◌, ◌*◌, ◌^◌, true}
use Rattle.dns_server_core.specs.Connections.{is_within}
use Rattle.dns_crowd.proofs.deadlines.last_within.Given as goal

abbrev pub invariant-loop-step : goal.invariant-loop-step
invariant-loop-step l =
    record {
      within : is_within l.session.limit l.session.base l.until ≡ true;
      later : l.at ≤ l.until;
      bound : l.until + 2 * l.step ≤ l.at + 2 ^ 47;
    }

abbrev pub decreases-loop-step : goal.decreases-loop-step
decreases-loop-step l = l.step
