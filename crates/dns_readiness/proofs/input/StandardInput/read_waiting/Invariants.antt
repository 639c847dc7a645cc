use Rattle.std.proofs.Common.{◌≡◌, length}
use Rattle.dns_readiness.proofs.input.StandardInput.read_waiting.Given as goal

abbrev pub invariant-loop : goal.invariant-loop
invariant-loop g l = (l.self ≡ l.fn.self) × (length l.room ≡ length l.fn.room)
