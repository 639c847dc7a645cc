-- How a run of the program ends, and the line that a refusal writes.
use Rattle.std.specs.Prelude.{ℕ, ℤ, ◌++◌, List, [], Bool, true, false, codes}
use Rattle.std.specs.Fmt.{signed_decimal}
use Rattle.dns_store.specs.RecoveryText.{recovery_line}
use Rattle.dns_follow.specs.declared.open_fault.FollowOpenKind.{FollowOpenKind}
use Rattle.dns_follow.specs.declared.open_fault.FollowOpenKind.TheVariants as kind
use Rattle.dns_follow.specs.declared.feed_fault.FeedFault.{FeedFault}
use Rattle.dns_follow.specs.declared.feed_fault.FeedFault.TheVariants as feed
use Rattle.dns_follow.specs.declared.answer.FollowFault.{FollowFault}
use Rattle.dns_follow.specs.declared.answer.FollowFault.TheVariants as fault
use Rattle.dns_follow.specs.declared.status.FollowStatus.{FollowStatus}
use Rattle.dns_follow.specs.declared.status.FollowStatus.TheVariants as status

-- the status that the process ends with
abbrev pub status_number : FollowStatus → ℕ
status_number status.Ok = 0
status_number status.Usage = 1
status_number (status.Recovery row why) = 5
status_number (status.OutOfPlace row) = 5
status_number status.ReadFault = 6
status_number status.WriteFault = 7
status_number status.KeeperFault = 8
status_number status.OutOfMemory = 10
status_number status.TooLong = 30
status_number status.BadFrame = 31
status_number status.Mixed = 32
status_number status.Refused = 33
status_number status.Turns = 34

-- the status of a journal that was not fed
abbrev pub feed_status : FeedFault → FollowStatus
feed_status feed.KeeperFault = status.KeeperFault
feed_status feed.Write = status.WriteFault
feed_status (feed.OutOfPlace row) = status.OutOfPlace row
feed_status (feed.TooLong row) = status.TooLong
feed_status feed.OutOfMemory = status.OutOfMemory

-- that of a journal that was not opened
abbrev pub open_status : FollowOpenKind → FollowStatus
open_status (kind.Recovery row why) = status.Recovery row why
open_status kind.KeeperFault = status.KeeperFault
open_status kind.OutOfMemory = status.OutOfMemory

-- that of an input that was not followed to its end
abbrev pub follow_status : FollowFault → FollowStatus
follow_status fault.BadFrame = status.BadFrame
follow_status (fault.Mixed row) = status.Mixed
follow_status (fault.Refused row why) = status.Refused
follow_status fault.KeeperFault = status.KeeperFault
follow_status fault.Read = status.ReadFault
follow_status (fault.Turns reads) = status.Turns
follow_status fault.OutOfMemory = status.OutOfMemory

-- the line of a journal that is out of place at a row
abbrev pub place_line : ℤ → List ℕ
place_line row = codes "journal row " ++ (signed_decimal row ++ codes ": out of place\n")

-- the line that a run which ends so writes behind its output; none after a fault of the output or want of memory
abbrev pub refusal_line : FollowStatus → List ℕ
refusal_line status.Ok = []
refusal_line status.Usage = codes "usage\n"
refusal_line (status.Recovery row why) = recovery_line row why
refusal_line (status.OutOfPlace row) = place_line row
refusal_line status.ReadFault = codes "read fault\n"
refusal_line status.WriteFault = []
refusal_line status.KeeperFault = codes "keeper fault\n"
refusal_line status.OutOfMemory = []
refusal_line status.TooLong = codes "too long\n"
refusal_line status.BadFrame = codes "bad frame\n"
refusal_line status.Mixed = codes "mixed\n"
refusal_line status.Refused = codes "refused\n"
refusal_line status.Turns = codes "turns\n"

-- whether a refusal writes a line
abbrev pub has_line : FollowStatus → Bool
has_line status.Ok = false
has_line status.WriteFault = false
has_line status.OutOfMemory = false
has_line status.Usage = true
has_line (status.Recovery row why) = true
has_line (status.OutOfPlace row) = true
has_line status.ReadFault = true
has_line status.KeeperFault = true
has_line status.TooLong = true
has_line status.BadFrame = true
has_line status.Mixed = true
has_line status.Refused = true
has_line status.Turns = true

-- the journal or the input failed
abbrev pub is_fault : FollowStatus → Bool
is_fault status.KeeperFault = true
is_fault status.ReadFault = true
is_fault status.Ok = false
is_fault status.Usage = false
is_fault (status.Recovery row why) = false
is_fault (status.OutOfPlace row) = false
is_fault status.WriteFault = false
is_fault status.OutOfMemory = false
is_fault status.TooLong = false
is_fault status.BadFrame = false
is_fault status.Mixed = false
is_fault status.Refused = false
is_fault status.Turns = false
