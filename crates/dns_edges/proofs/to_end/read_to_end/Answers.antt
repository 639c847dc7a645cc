-- What was read stands behind what stood there.
use Rattle.std.proofs.Common.{◌≡◌, ℕ, List, length, take, drop, ap, ◌∙◌, arith}
use Rattle.std.proofs.Math.Seq.{take-add}
use Rattle.std.proofs.lemmas.List.{take_at}
use Rattle.dns_io.proofs.ToldContents.{Takes-more}
use Rattle.dns_edges.proofs.to_end.read_to_end.Goals as goal

-- a front that stayed through three steps
front-kept : (n : ℕ) (a b c d : List ℕ) → take n a ≡ take n b → b ≡ c → take n c ≡ take n d → take n a ≡ take n d
front-kept n a b c d p q r = p ∙ ap (take n) q ∙ r

pub loop-count-preserved : goal.loop-count-preserved
loop-count-preserved g c =
    let size : length c.read_behind.new.room ≡ c.make_room.new.bytes.len = omega (arith, c.read_behind.auto.room, c.as_mut_slice.ensures.len) in
    record {
      held = omega (arith, size, c.in-Ok.ensures.count);
      size = c.in_ok-make_room.ensures.size;
      taken = rw
          (take_at c.read_behind.new.room (drop (length c.read_behind.new.room) c.make_room.new.bytes.items) c.make_room.new.bytes.len size, take-add c.loop-count.count c.in-Ok.more c.read_behind.new.room, front-kept _ _ _ _ _ c.in-Ok.ensures.before c.as_mut_slice.ensures.value c.in_ok-make_room.ensures.kept)
          (Takes-more _ _ _ _ _ c.loop-count.invariant.taken c.in-Ok.ensures.given);
      calm = c.in-Ok.ensures.cause.counts ∙ c.loop-count.invariant.calm;
    }
