use Rattle.std.proofs.Common.{◌≡◌, ◌+◌, drop}
use Rattle.dns_ticket_world.specs.Rows.{are_numbered}
use Rattle.dns_ticket_world.proofs.rows.Rows.are_numbered.Given as goal

abbrev pub invariant-loop-i : goal.invariant-loop-i
invariant-loop-i l = are_numbered (l.before + l.i) (drop l.i l.self) ≡ are_numbered l.before l.self
