-- The faults of reading a journal and of writing, as faults of a feed.
use Rattle.dns_io.specs.declared.io_fault.IoFault.{IoFault}
use Rattle.dns_io.specs.declared.io_fault.IoFault.TheVariants as io
use Rattle.dns_keeper.specs.declared.keeper.KeepFault.{KeepFault}
use Rattle.dns_keeper.specs.declared.keeper.KeepFault.TheVariants as keep
use Rattle.dns_store.specs.declared.opening.OpenKind.{OpenKind}
use Rattle.dns_store.specs.declared.opening.OpenKind.TheVariants as kind
use Rattle.dns_follow.specs.declared.feed_fault.FeedFault.{FeedFault}
use Rattle.dns_follow.specs.declared.feed_fault.FeedFault.TheVariants as fault

-- why rows or batches were not read: no reading asks for a zone
abbrev pub of_kind : OpenKind → FeedFault
of_kind (kind.Recovery row why) = fault.OutOfPlace row
of_kind kind.KeeperFault = fault.KeeperFault
of_kind kind.NoZone = fault.OutOfMemory
of_kind kind.OutOfMemory = fault.OutOfMemory

-- and why a call of a keeper was refused
abbrev pub of_keeper : KeepFault → FeedFault
of_keeper keep.Failed = fault.KeeperFault
of_keeper keep.OutOfMemory = fault.OutOfMemory

-- why the output did not take all
abbrev pub of_output : IoFault → FeedFault
of_output io.Failed = fault.Write
of_output io.OutOfMemory = fault.OutOfMemory

-- the cause is a fault of the keeper, or want of memory
abbrev pub IsKeepers : FeedFault → Type 0
IsKeepers fault.KeeperFault = Unit {0}
IsKeepers fault.Write = ⊥
IsKeepers (fault.OutOfPlace row) = ⊥
IsKeepers (fault.TooLong row) = ⊥
IsKeepers fault.OutOfMemory = Unit {0}
