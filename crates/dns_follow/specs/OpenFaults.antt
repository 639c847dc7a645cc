-- Why a follower was not opened, and why a store was not.
use Rattle.dns_store.specs.declared.opening.OpenKind.{OpenKind}
use Rattle.dns_store.specs.declared.opening.OpenKind.TheVariants as kind
use Rattle.dns_follow.specs.declared.open_fault.FollowOpenKind.{FollowOpenKind}
use Rattle.dns_follow.specs.declared.open_fault.FollowOpenKind.TheVariants as follow

-- the cause of a store, as that of a follower: a journal without rows and batches is no fault to it
abbrev pub follow_kind : OpenKind → FollowOpenKind
follow_kind (kind.Recovery row why) = follow.Recovery row why
follow_kind kind.KeeperFault = follow.KeeperFault
follow_kind kind.NoZone = follow.OutOfMemory
follow_kind kind.OutOfMemory = follow.OutOfMemory

-- and that of a follower as that of a store
abbrev pub store_kind : FollowOpenKind → OpenKind
store_kind (follow.Recovery row why) = kind.Recovery row why
store_kind follow.KeeperFault = kind.KeeperFault
store_kind follow.OutOfMemory = kind.OutOfMemory
