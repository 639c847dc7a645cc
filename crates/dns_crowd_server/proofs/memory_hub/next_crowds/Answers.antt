-- One more, which was not used.
use Rattle.std.proofs.Common.{rules}
use Rattle.std.proofs.lemmas.List.Elements.{All-push}
use Rattle.dns_crowd_server.specs.Memory.{IsUnusedCrowd}
use Rattle.dns_crowd_server.proofs.memory_hub.next_crowds.Goals as goal

pub loop-place-preserved : goal.loop-place-preserved
loop-place-preserved c =
    let i = c.loop-place.invariant in (
      rw (c.push_reserved.ensures.items) (All-push IsUnusedCrowd _ _ i.0 c.next_crowd.ensures.unused),
      c.next_crowd.ensures.unused_rest,
      search rules,
      search rules,
    )
