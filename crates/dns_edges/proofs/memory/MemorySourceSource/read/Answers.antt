use Rattle.std.proofs.Common.{refl, arith}
use Rattle.std.proofs.lemmas.Grind.{common_steps}
use Rattle.dns_edges.proofs.Copied.{given}
use Rattle.dns_edges.proofs.memory.MemorySourceSource.read.Goals as goal

pub returns-clause-told : goal.returns-clause-told
returns-clause-told c =
    rw (← c.self.view_is)
    (record {
      count = grind (arith, common_steps);
      given = given _ _ _ _ _ _ _ c.as_slice.ensures c.split_at.ensures.back (omega (arith, c.min-count.ensures, c.min.ensures)) c.copy_from_slice.ensures.after;
      end = grind (arith, common_steps);
      kept = tt;
      cause = record { later = omega arith; counts = refl };
    })
