-- What a part of the top call says of its end.
use Rattle.std.specs.Prelude.{◌≡◌, ◌++◌, ℕ, List, [], true}
use Rattle.dns_edges.specs.Edges.{around, SinkOf}
use Rattle.dns_keeper.specs.Keeping.{KeeperOf}
use Rattle.dns_words.specs.Writing.{WantedMemory}
use Rattle.dns_follow.specs.declared.frame.Frame.{Frame}
use Rattle.dns_follow.specs.declared.feed_fault.FeedFault.{FeedFault}
use Rattle.dns_follow.specs.declared.status.FollowStatus.{FollowStatus}
use Rattle.dns_follow.specs.declared.status.FollowStatus.TheVariants as status
use Rattle.dns_follow.specs.Feeding.{sent_of, ReadsFed, ReadsNoFed, CountsByFault}
use Rattle.dns_follow.specs.Status.{refusal_line, is_fault, feed_status}
use Rattle.dns_follow.specs.Writing.{EndsWriting, EndsRefusing}
use Rattle.dns_follow.specs.Steps.{sent_status}

-- the frames of a journal were sent, up to one whose row is too long, of which a line then tells; or it was not read, of which one tells
pub data PrintsFeed {K O : Type 0} (keeper : KeeperOf K) (sink : SinkOf O) (from : ℕ) (k l : K) (before after : O)
    (s : FollowStatus) : Type 0 where
  sent : (frames : List Frame) → ReadsFed from (keeper.told l) frames → (keeper.told l).faults ≡ (keeper.told k).faults
      → EndsWriting (around sink.told before after) (sent_of frames ++ refusal_line (sent_status frames)) (sent_status frames) s
      → PrintsFeed keeper sink from k l before after s
  unread : (f : FeedFault) → ReadsNoFed (keeper.told k) (keeper.told l) f → CountsByFault (keeper.told k).faults (keeper.told l).faults f
      → EndsRefusing (around sink.told before after) [] (feed_status f) s
      → (is_fault (feed_status f) ≡ true → s ≡ status.OutOfMemory → WantedMemory sink before (refusal_line (feed_status f)) after)
      → PrintsFeed keeper sink from k l before after s
