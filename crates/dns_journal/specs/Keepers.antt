-- What is known of a journal as a keeper.
use Rattle.sqlite.specs.Store.{Ghosts}
use Rattle.sqlite.specs.Held.{state}
use Rattle.dns_keeper.specs.Keeping.{KeeperOf}
use Rattle.dns_journal.specs.Told.{View, told_rows, told_batches}
use Rattle.dns_journal.specs.Left.{MayLeaveClean}

-- it tells the rows and the batches of its connection, and which of both a crash may leave while the disk is clean
abbrev pub journal_keeper : {S : Type 0} → Ghosts S → KeeperOf (View S)
journal_keeper g = record {
  told = λ j. record { rows = told_rows g j; batches = told_batches g j; faults = j.faults };
  may_leave = λ j. MayLeaveClean (state g j.conn);
}
