use Rattle.dns_follow.specs.Parts.{sent, unread}
use Rattle.dns_follow.proofs.replicating.print_feed.Goals as goal

pub returns-in-Ok-clause-ends : goal.returns-in-Ok-clause-ends
returns-in-Ok-clause-ends g c = sent c.in-Ok.frames.items c.in-Ok.ensures.ok c.in-Ok.ensures.reads.counts (rw c.as_slice.ensures.value at c.put_feed.ensures.ends)

pub returns-in-Err-clause-ends : goal.returns-in-Err-clause-ends
returns-in-Err-clause-ends g c =
    unread c.in-Err.fault c.in-Err.ensures.err c.in-Err.ensures.reads.counts (rw (← c.feed_status.ensures) c.refuse.ensures.ends) (rw (← c.feed_status.ensures) c.refuse.ensures.wanted)
