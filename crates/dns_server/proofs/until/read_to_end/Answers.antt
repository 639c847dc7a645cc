-- One read more.
use Rattle.std.proofs.Common.{◌++◌, ◌∙◌, take}
use Rattle.dns_io.proofs.ToldContents.{Takes-more}
use Rattle.dns_server.proofs.until.read_to_end.Goals as goal

pub loop-preserved : goal.loop-preserved
loop-preserved g c =
    let before = c.loop.invariant.1 in (
      (tt, tt),
      (before.0 ++ take c.in-Ok.field-0 c.read.new.room, Takes-more _ _ _ before.0 (take c.in-Ok.field-0 c.read.new.room) before.1 c.in-Ok.ensures.told.given),
      c.in-Ok.ensures.told.cause.counts ∙ c.loop.invariant.2,
    )
