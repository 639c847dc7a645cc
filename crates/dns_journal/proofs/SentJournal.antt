-- A journal in a file may go to another thread, since the parts of its store may.
use denote.RattleType.{RattleType}
use denote.Hole.{as_row}
use denote.Param.Send.{IsSend, sendable}
use denote.Param.SendFields.{declared_send, as_row_send}
use Rattle.std.proofs.Crossing.{crosses}
use Rattle.sqlite_trees.specs.declared.store.Store as Store
use Rattle.sqlite_disk.specs.declared.Disk as Disk
use Rattle.sqlite.below.sqlite_std_file.specs.contracts.host.Host as Host
use Rattle.sqlite.specs.contracts.FileStore as FileStore
use Rattle.dns_journal.specs.contracts.journal.Journal as Journal
use Rattle.dns_journal.proofs.journal.Journal.TheSendSync as journal
use Rattle.sqlite.proofs.FileStore.TheSendSync as store
use Rattle.sqlite_disk.proofs.modelled.Modelled.TheSendSync as modelled
use Rattle.dns_journal.specs.contracts.file_journal.FileJournal.{the_row, the_type}

-- a journal over a store of files, as a field
kept : (D : RattleType) (d : Disk.Ghosts D.Denot) (g : Store.Ghosts (FileStore.the_row D d).Denot) → IsSend D → IsSend (as_row (Journal.the_field (FileStore.the_row D d) g))
kept D d g s = as_row_send (Journal.the_field (FileStore.the_row D d) g) (journal.the_send (FileStore.the_row D d) g (store.the_send D d s))

host : IsSend Host.the_row
host = search (sendable, crosses) depth 20

pub file_journal_send : IsSend the_row
file_journal_send = declared_send the_type (search (kept, modelled.the_send, host), tt)
