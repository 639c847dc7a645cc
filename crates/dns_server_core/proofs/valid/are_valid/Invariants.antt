-- The events that are left may follow those before them.
use Rattle.std.proofs.Common.{◌≡◌, drop, false}
use Rattle.dns_server_core.specs.ValidTest.{are_valid}
use Rattle.dns_server_core.proofs.valid.are_valid.Given as goal

abbrev pub invariant-loop-event : goal.invariant-loop-event
invariant-loop-event l = are_valid l.last l.greatest l.stopped (drop l.event-index l.events) ≡ are_valid l.fn.last l.fn.greatest false l.events
