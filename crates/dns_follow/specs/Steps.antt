-- The steps of the program, in the order of the work, and the causes for which each of them is refused.
use Rattle.std.specs.Prelude.{◌≡◌, ℕ, ◌^◌, List, [], Option, Some, None, IfSome, Ok, Err}
use Rattle.dns_io.specs.Told.{Keeps}
use Rattle.dns_edges.specs.Edges.{SourceOf, ClockOf}
use Rattle.dns_keeper.specs.Keeping.{KeeperOf, KeepsBatches}
use Rattle.dns_keeper.specs.Crash.{LeavesNoOther}
use Rattle.dns_store.specs.Crash.{LeavesOpened}
use Rattle.dns_follow.specs.declared.frame.Frame.{Frame}
use Rattle.dns_follow.specs.declared.feed_fault.FeedFault.{FeedFault}
use Rattle.dns_follow.specs.declared.open_fault.FollowOpenKind.{FollowOpenKind}
use Rattle.dns_follow.specs.declared.answer.FollowFault.{FollowFault}
use Rattle.dns_follow.specs.declared.status.FollowStatus.{FollowStatus}
use Rattle.dns_follow.specs.declared.status.FollowStatus.TheVariants as status
use Rattle.dns_follow.specs.declared.commands.Command.TheVariants.{Feed, Follow}
use Rattle.dns_follow.specs.Commands.{command_of}
use Rattle.dns_follow.specs.Feeding.{sent_of, too_long, ReadsFed, ReadsNoFed, CountsByFault}
use Rattle.dns_follow.specs.Seen.{SeenOf, AreStored}
use Rattle.dns_follow.specs.Opening.{IsOpened, IsNotOpened}
use Rattle.dns_follow.specs.Followed.{Follows}
use Rattle.dns_follow.specs.Lines.{length_line, zone_serial}
use Rattle.dns_follow.specs.Status.{feed_status, open_status, follow_status}
use Rattle.dns_follow.specs.World.{World, IsUnused}

-- so many reads are made of an input at most
abbrev pub most_reads : ℕ
most_reads = 2 ^ 32

-- the status of frames that were sent
abbrev pub status_at : Option ℕ → FollowStatus
status_at None = status.Ok
status_at (Some row) = status.TooLong

abbrev pub sent_status : List Frame → FollowStatus
sent_status frames = status_at (too_long frames)

-- a follower holds what its journal stands for, where the rows are told
abbrev pub HoldsStored : {K : Type 0} → KeeperOf K → SeenOf K → Type 0
HoldsStored keeper seen = IfSome (keeper.told seen.keeper).rows (AreStored seen.origin seen.zone seen.count)

-- a journal was read and stays as it is, and a crash leaves nothing else than before
pub record IsOnlyRead {K : Type 0} (keeper : KeeperOf K) (before after : K) : Type 0 where
  pub kept : Keeps (keeper.told before).rows (keeper.told after).rows
  pub batches : KeepsBatches (keeper.told before) (keeper.told after)
  pub left : LeavesNoOther (keeper.may_leave before) (keeper.may_leave after)

module _ {K S C O : Type 0} (keeper : KeeperOf K) (source : SourceOf S) (clock : ClockOf C) (w : World K S C O) where
  -- neither the input nor the clock was used
  pub record IsIdle : Type 0 where
    pub unread : IsUnused w.input
    pub unasked : IsUnused w.clock

  -- the journal was not used either
  pub record IsStill : Type 0 where
    pub journal : IsUnused w.journal
    pub idle : IsIdle

  -- the words ask to feed from an id on, and the frames of its rows were read
  pub record ReadsFeed (frames : List Frame) : Type 0 where
    pub origin : List (List ℕ)
    pub from : ℕ
    pub asked : command_of w.words ≡ Some (Feed origin from)
    pub read : ReadsFed from (keeper.told w.journal.after) frames
    pub calm : (keeper.told w.journal.after).faults ≡ (keeper.told w.journal.before).faults
    pub only : IsOnlyRead keeper w.journal.before w.journal.after
    pub idle : IsIdle

  -- they ask to follow, and a follower was opened over the journal, which then took what the input brought, and whose origin stayed; the
  -- journal is the one that it gives back
  pub record HasFollowed (before after : SeenOf K) : Type 0 where
    pub origin : List (List ℕ)
    pub asked : command_of w.words ≡ Some (Follow origin)
    pub opened : IsOpened keeper (keeper.told w.journal.before) origin before
    pub left : LeavesOpened keeper w.journal.before before.keeper
    pub named : after.origin ≡ before.origin
    pub given : after.keeper ≡ w.journal.after

  -- what legal words ask for was done, and this is the output
  pub data IsDone : List ℕ → Type 0 where
    fed : (frames : List Frame) → ReadsFeed frames → too_long frames ≡ None → IsDone (sent_of frames)
    followed : (before after : SeenOf K) (count : ℕ) → HasFollowed before after
        → Follows keeper source clock most_reads w.input.before w.clock.before before w.input.after w.clock.after after (Ok count)
        → HoldsStored keeper after → IsDone (length_line after.count (zone_serial after.zone))

  -- A refusal, by the first step in the order of the work that was refused, and the output before it. What comes after that step was not
  -- done.
  pub data IsRefused : FollowStatus → List ℕ → Type 0 where
    at_words : command_of w.words ≡ None → IsStill → IsRefused status.Usage []
    without_memory : IsStill → IsRefused status.OutOfMemory []
    at_journal : (origin : List (List ℕ)) (from : ℕ) (f : FeedFault) → command_of w.words ≡ Some (Feed origin from)
        → ReadsNoFed (keeper.told w.journal.before) (keeper.told w.journal.after) f
        → CountsByFault (keeper.told w.journal.before).faults (keeper.told w.journal.after).faults f
        → IsOnlyRead keeper w.journal.before w.journal.after → IsIdle
        → IsRefused (feed_status f) []
    at_row : (frames : List Frame) (row : ℕ) → ReadsFeed frames → too_long frames ≡ Some row → IsRefused status.TooLong (sent_of frames)
    at_opening : (origin : List (List ℕ)) (kind : FollowOpenKind) → command_of w.words ≡ Some (Follow origin)
        → IsNotOpened (keeper.told w.journal.before) (keeper.told w.journal.after) origin kind
        → LeavesOpened keeper w.journal.before w.journal.after → IsIdle → IsRefused (open_status kind) []
    at_input : (before after : SeenOf K) (f : FollowFault) → HasFollowed before after
        → Follows keeper source clock most_reads w.input.before w.clock.before before w.input.after w.clock.after after (Err f)
        → IsRefused (follow_status f) []
