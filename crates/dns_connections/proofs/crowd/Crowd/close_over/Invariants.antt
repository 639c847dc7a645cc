-- None of those that were looked at is over.
use Rattle.std.proofs.Common.{◌≡◌, length}
use Rattle.dns_connections.specs.Crowds.{HasMoved, IsQuiet}
use Rattle.dns_connections.specs.Links.{IsNone, is_over, patience_of}
use Rattle.dns_connections.proofs.crowd.Crowd.close_over.Given as goal

abbrev pub invariant-loop-place : goal.invariant-loop-place
invariant-loop-place g l = record {
  moved : HasMoved l.fn.self l.self;
  quiet : IsQuiet l.fn.self l.self;
  clocks : l.self.clocks ≡ l.fn.self.clocks;
  size : length l.self.links ≡ length l.fn.self.links;
  none : IsNone (is_over (patience_of l.fn.self.limit) l.fn.self.clocks.ticks) l.self.links l.place;
}
