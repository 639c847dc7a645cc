-- The next piece has the next bytes.
use Rattle.std.proofs.Common.{refl, arith}
use Rattle.dns_net.proofs.Fetching.{gives-bytes}
use Rattle.dns_net.proofs.memory.MemoryBodyBodyPieces.next.Goals as goal

pub returns-clause-told : goal.returns-clause-told
returns-clause-told c =
    rw (← c.self.view_is)
    record {
      bytes = c.next_piece.ensures.bytes;
      given = c.next_piece.ensures.next;
      kept = tt;
      bytes_given = gives-bytes _ _ _ c.next_piece.ensures.next;
      bytes_kept = tt;
      cause = record { later = omega arith; counts = refl };
    }
