-- What a journal in a file of the host tells of its rows and batches.
use denote.RattleType.{RattleType}
use Rattle.sqlite_disk.specs.contracts.modelled.Modelled as Modelled
use Rattle.sqlite_disk.specs.contracts.modelled.ModelledDisk.TheImpl as ModelledDisk
use Rattle.sqlite_disk.specs.contracts.start.Unknown as Unknown
use Rattle.sqlite_disk.specs.contracts.start.UnknownStart.TheImpl as UnknownStart
use Rattle.sqlite_disk.specs.declared.Disk as Disk
use Rattle.sqlite.below.sqlite_std_file.specs.contracts.host.Host as Host
use Rattle.sqlite.below.sqlite_std_file.specs.contracts.host.HostCalls.TheImpl as HostCalls
use Rattle.sqlite.below.sqlite_store.specs.contracts.store.FileStoreStore.TheImpl as FileStoreStore
use Rattle.sqlite.specs.contracts.FileStore as FileStore
use Rattle.sqlite.specs.Store as Store
use Rattle.dns_keeper.specs.Keeping.{KeeperTold, Kept, KeeperOf}
use Rattle.dns_journal.specs.declared.file_journal.FileJournal.{FileJournal}
use Rattle.dns_journal.specs.Told.{View}
use Rattle.dns_journal.specs.Keepers.{journal_keeper}

-- the files of the host, of which nothing is known before they are opened
abbrev files : RattleType
files = Modelled.the_row Host.the_row Unknown.the_row HostCalls.ghosts UnknownStart.ghosts

abbrev disk : Disk.Ghosts files.Denot
disk =
    ModelledDisk.ghosts Host.the_row Unknown.the_row HostCalls.ghosts ModelledDisk.no_dict UnknownStart.ghosts ModelledDisk.no_dict ModelledDisk.no_dict

-- the store over them
abbrev stores : RattleType
stores = FileStore.the_row files disk

abbrev store : Store.Ghosts stores.Denot
store = FileStoreStore.ghosts files disk FileStoreStore.no_dict

-- what is known of a journal over it: it tells the rows and batches of its connection, and which of both a crash may leave, while the files give
-- what was written to them
unfoldable pub host_told : View stores.Denot → KeeperTold
host_told = (journal_keeper store).told

unfoldable pub host_may_leave : View stores.Denot → Kept → Type 0
host_may_leave = (journal_keeper store).may_leave

-- of the journal in a file
abbrev pub file_keeper : KeeperOf FileJournal
file_keeper = record { told = λ k. host_told k.journal; may_leave = λ k. host_may_leave k.journal }
