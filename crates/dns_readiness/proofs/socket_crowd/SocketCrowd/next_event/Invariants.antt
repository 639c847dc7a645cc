-- Nothing was given yet, and no call failed.
use Rattle.std.proofs.Common.{◌≤◌, length}
use Rattle.dns_readiness.specs.Steps.{HasMoved}
use Rattle.dns_readiness.proofs.socket_crowd.SocketCrowd.next_event.Given as goal

abbrev pub invariant-loop : goal.invariant-loop
invariant-loop g l = HasMoved l.fn.self l.self × (65535 ≤ length l.room)
