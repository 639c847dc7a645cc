-- What stands for a journal that was not opened.
use Rattle.std.specs.Prelude.{None, []}
use Rattle.dns_keeper.specs.declared.keeper.KeepFault.{KeepFault}
use Rattle.dns_keeper.specs.declared.keeper.KeepFault.TheVariants as keep
use Rattle.dns_keeper.specs.Keeping.{KeeperOf}
use Rattle.dns_journal.specs.declared.closed_journal.ClosedJournal.{ClosedJournal}
use Rattle.dns_journal.specs.declared.error.PersistenceError.{PersistenceError}
use Rattle.dns_journal.specs.declared.error.PersistenceError.TheVariants.{OutOfMemory}

-- how each of its calls is refused: with want of memory where the opening found none, and else with a counted fault
abbrev pub refusal_after : PersistenceError → KeepFault
refusal_after OutOfMemory = keep.OutOfMemory
refusal_after _ = keep.Failed

-- what is known of it: it tells no rows, and not what a crash may leave
abbrev pub closed_keeper : KeeperOf ClosedJournal
closed_keeper = record { told = λ k. record { rows = None; batches = []; faults = k.faults }; may_leave = λ _ kept. ⊥ }
