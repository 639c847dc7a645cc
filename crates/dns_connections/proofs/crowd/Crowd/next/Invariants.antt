-- Nothing was given yet, and no call failed.
use Rattle.std.proofs.Common.{◌≡◌, length}
use Rattle.dns_connections.specs.Crowds.{HasMoved, IsQuiet}
use Rattle.dns_connections.proofs.crowd.Crowd.next.Given as goal

abbrev pub invariant-loop : goal.invariant-loop
invariant-loop g l = record {
  moved : HasMoved l.fn.self l.self;
  quiet : IsQuiet l.fn.self l.self;
  room : length l.room ≡ length l.fn.room;
}
