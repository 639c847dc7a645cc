-- A read that was interrupted took nothing.
use Rattle.std.proofs.Common.{◌≡◌, length}
use Rattle.std.specs.Io.KnownBytes.{Keeps}
use Rattle.dns_edges.proofs.adapters.read_retrying.Given as goal

abbrev pub invariant-loop : goal.invariant-loop
invariant-loop g l = (length l.room ≡ length l.fn.room) × Keeps (g.R.Read.remaining l.fn.reader) (g.R.Read.remaining l.reader)
