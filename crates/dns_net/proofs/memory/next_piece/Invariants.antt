use Rattle.std.proofs.Common.{◌≡◌, length}
use Rattle.dns_transport.specs.Pieces.{from_bytes}
use Rattle.dns_net.proofs.memory.next_piece.Given as goal

abbrev pub invariant-loop-piece : goal.invariant-loop-piece
invariant-loop-piece l = from_bytes l.pieces ≡ from_bytes l.fn.pieces

abbrev pub decreases-loop-piece : goal.decreases-loop-piece
decreases-loop-piece l = length l.pieces
