use Rattle.dns_journal.specs.HostFiles.{host_told}
use Rattle.dns_journal.proofs.file_journal.FileJournalKeeper.fault_count.Goals as goal

pub returns : goal.returns
unfolding host_told
returns c = c.fault_count.ensures
